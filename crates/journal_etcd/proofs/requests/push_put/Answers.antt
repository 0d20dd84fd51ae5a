use Rattle.std.proofs.Common.{codes, string_bytes}
use Rattle.journal_etcd.specs.Requests.{bytes_member, put_of}
use Rattle.journal_etcd.proofs.Appended.{append_five}
use Rattle.journal_etcd.proofs.requests.push_put.Goals as goal

pub returns : goal.returns
unfolding put_of
returns c =
    append_five c.push_str-3.result (string_bytes c.args.text.now) (string_bytes c.push_str.new.self)
    (string_bytes c.push_member.new.text) (string_bytes c.push_str-2.new.self) (string_bytes c.push_member-2.new.text)
    (string_bytes c.push_str-3.new.self) (codes "{\"request_put\":{") (bytes_member (codes "key") c.args.key.now)
    (codes ",") (bytes_member (codes "value") c.args.value.now) (codes "}},") c.in_ok-push_str.ensures.bytes
    c.in_ok-push_member.ensures c.in_ok-push_str-2.ensures.bytes c.in_ok-push_member-2.ensures c.push_str-3.ensures.bytes
