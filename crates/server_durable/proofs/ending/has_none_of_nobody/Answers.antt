use Rattle.std.proofs.Common.{rules, ◌≡◌}
use Rattle.mds_request.specs.declared.config.Actor.TheVariants.{Nobody}
use Rattle.server_admission.specs.Actor.{index_of}
use Rattle.server_durable.proofs.Logging.{none_whole}
use Rattle.server_durable.proofs.ending.has_none_of_nobody.Goals as goal

pub returns-in-Some : goal.returns-in-Some
returns-in-Some g c =
    λ same.
    let nobody = c.new-nobody.result in
    let numbered : nobody.client ≡ index_of Nobody = search rules in
    none_whole g.N.LogName.client_of nobody (index_of Nobody) c.in-Some.position c.args.all.now numbered c.new-nobody.ensures.texts c.in-Some.ensures
    (c.is_of.ensures.same same)
