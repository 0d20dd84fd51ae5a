use Rattle.std.proofs.Common.{refl}
use Rattle.json.specs.Value.{value_view}
use Rattle.journal_etcd.proofs.Said.{json_of-none, json_of-some}
use Rattle.journal_etcd.proofs.answers.json_of.Goals as goal

pub returns-in-Ok : goal.returns-in-Ok
returns-in-Ok c = json_of-some c.args.body.now (value_view c.in-Ok.value) c.in-Ok.ensures.ok.0 c.in-Ok.ensures.ok.1

pub returns-in-Err-Invalid : goal.returns-in-Err-Invalid
returns-in-Err-Invalid c =
    let none = rw c.in-Err-Invalid.field-0-is at c.in-Err-Invalid.ensures.invalid in
    json_of-none c.args.body.now (none refl)
