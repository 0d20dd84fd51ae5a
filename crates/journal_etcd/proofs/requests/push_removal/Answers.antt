use Rattle.std.proofs.Common.{codes, string_bytes}
use Rattle.journal_etcd.specs.Requests.{range_members, removal_of}
use Rattle.journal_etcd.proofs.Appended.{append_three}
use Rattle.journal_etcd.proofs.requests.push_removal.Goals as goal

pub returns : goal.returns
unfolding removal_of
returns c =
    append_three c.push_str-2.result (string_bytes c.args.text.now) (string_bytes c.push_str.new.self)
    (string_bytes c.push_range.new.text) (string_bytes c.push_str-2.new.self) (codes "{\"request_delete_range\":{")
    (range_members c.args.first.now c.args.behind.now) (codes "}},") c.in_ok-push_str.ensures.bytes c.in_ok-push_range.ensures
    c.push_str-2.ensures.bytes
