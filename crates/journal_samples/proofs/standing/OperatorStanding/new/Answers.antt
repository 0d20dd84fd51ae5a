use Rattle.std.proofs.Common.{Some, ap, sym, ◌∙◌}
use Rattle.std.specs.Option.{option_map}
use Rattle.mds_request.specs.Configuration.{Operator, configuration}
use Rattle.journal_samples.proofs.Held.{placed}
use Rattle.journal_samples.proofs.standing.OperatorStanding.new.Goals as goal

pub invariant_of-result : goal.invariant_of-result
invariant_of-result c =
    let there = placed c.operators.result.now (configuration c.args.config.now).operators c.args.place c.index-operators-place.result c.operators.ensures.all c.requires c.index-operators-place.is in
    record {
      within = c.requires;
      named = sym (ap (option_map (λ (o : Operator). o.id)) there);
      limited = ap (λ n. Some n) c.new-3.ensures.limit ∙ sym (ap (option_map (λ (o : Operator). o.limit)) there);
    }
