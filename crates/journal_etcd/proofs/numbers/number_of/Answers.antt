use Rattle.std.proofs.Common.{◌≡◌, true, false, rules}
use Rattle.journal_etcd.specs.Reading.{are_digits}
use Rattle.journal_etcd.proofs.Numerals.{number_of-failed, number_of-other, number_of-parsed}
use Rattle.journal_etcd.proofs.numbers.number_of.Goals as goal

pub returns-then-not-are_digits : goal.returns-then-not-are_digits
returns-then-not-are_digits c =
    let other : are_digits c.args.text.now ≡ false = search rules in
    number_of-other c.args.text.now other

pub returns-in-Ok : goal.returns-in-Ok
returns-in-Ok c =
    let digits : are_digits c.args.text.now ≡ true = search rules in
    number_of-parsed c.args.text.now c.parse_u64.result c.in-Ok.number c.parse_u64.ensures c.in-Ok.is digits

pub returns-in-Err : goal.returns-in-Err
returns-in-Err c =
    let digits : are_digits c.args.text.now ≡ true = search rules in
    number_of-failed c.args.text.now c.parse_u64.result c.parse_u64.ensures c.in-Err.is digits
