use Rattle.std.proofs.Common.{rules, ◌≡◌}
use Rattle.mds_request.specs.declared.config.Actor.TheVariants.{Author}
use Rattle.server_admission.specs.Actor.{index_of}
use Rattle.server_durable.proofs.Owning.{author_owns}
use Rattle.server_durable.proofs.client_records.AuthorRecords.new.Goals as goal

pub invariant_of-result : goal.invariant_of-result
invariant_of-result g c =
    let numbered : c.new.result.client ≡ index_of Author = search rules in
    record {
      owned = author_owns g.K.HallName.configuration g.N.LogName.client_of c.new.result.client c.requires.clients numbered;
      numbered = numbered;
    }
