use Rattle.std.proofs.Common.{rules, ◌≡◌, Some, sym, ap, subst, ◌∙◌}
use Rattle.std.specs.List.{slice_get}
use Rattle.uuid.specs.Text.{parsed}
use Rattle.journal_entry.specs.Entries.{IsId}
use Rattle.journal_entry.specs.Requests.{actor_by, client_at}
use Rattle.journal_entry.specs.declared.entry.EntryClient.TheVariants.{Operator as OperatorBy}
use Rattle.mds_request.specs.Configuration.{Configuration, configuration}
use Rattle.mds_request.specs.declared.config.Actor.TheVariants.{Operator}
use Rattle.server_admission.specs.Actor.{index_of}
use Rattle.server_durable.proofs.Clients.{client_named}
use Rattle.server_durable.proofs.Owning.{owns}
use Rattle.server_durable.proofs.desk_records.DeskRecords.new.Goals as goal

pub invariant_of-result : goal.invariant_of-result
invariant_of-result g c =
    let own = g.K.HallName.configuration in
    let place = c.args.place in
    let id = c.id_at-id.result in
    let known : client_at own (Operator place) ≡ Some (OperatorBy id) =
    subst (λ (cfg : Configuration). client_at cfg (Operator place) ≡ Some (OperatorBy id)) c.requires.configured
    (client_named (slice_get (configuration c.args.config.now).operators place) id c.id_at-id.ensures) in
    let spelled : IsId id = ap parsed (sym c.in_ok-printed.ensures.text) ∙ c.in_ok-printed.ensures.back in
    let back : actor_by own (OperatorBy id) ≡ Operator place = search rules in
    let numbered : c.new.result.client ≡ index_of (Operator place) = search rules in
    record {
      owned = owns own g.N.LogName.client_of (Operator place) (OperatorBy id) c.new.result.client c.requires.clients known spelled back numbered;
      numbered = numbered;
      of_desk = search rules;
      logged = ∣ (λ kept. c.new.ensures.texts) ∣₁;
    }
