use Rattle.std.proofs.Common.{◌≡◌, Some, None, find, map, get_or, option_map, ap, sym, ◌∙◌, arith}
use Rattle.std.proofs.Math.ListN.{get_or-map}
use Rattle.std.proofs.lemmas.List.{length-map}
use Rattle.std.specs.declared.sync.Arc.{Arc}
use Rattle.std.specs.declared.alloc.Global.{Global}
use Rattle.mds_policy.specs.declared.policy.Policy as program
use Rattle.mds_policy.specs.Policy.{Policy, policy_document}
use Rattle.mds_catalog.specs.declared.batch.Batch.{Batch}
use Rattle.mds_catalog.specs.declared.document_index.DocumentSpot.{DocumentSpot}
use Rattle.mds_catalog.specs.declared.policy_index.PolicyEntry.{PolicyEntry}
use Rattle.mds_catalog.specs.Publication.{Publication, dated, policy_ids}
use Rattle.mds_catalog.specs.Catalogue.{publications_of}
use Rattle.mds_catalog.specs.Listed.{has, spots_in}
use Rattle.mds_catalog.proofs.SpotsFound.{nowhere_in, placed, within}
use Rattle.mds_catalog.proofs.catalogue.Catalogue.policy.Goals as goal

pub returns-in_err-entry : goal.returns-in_err-entry
returns-in_err-entry c =
    let kept = c.args.self.now.kept in
    let none : find (has (λ (s : DocumentSpot). s.id) c.args.id) (spots_in policy_ids 0 (publications_of c.args.self.now)) ≡ None = sym (kept.policies_found c.args.id) ∙ ap (option_map (λ (e : PolicyEntry). e.spot)) (ap (find (has (λ (e : PolicyEntry). e.spot.id) c.args.id)) (sym c.deref.ensures.value) ∙ sym c.entry_of.ensures ∙ c.in_err-entry.was) in
    ap (option_map _) c.from_residual.ensures ∙ sym (nowhere_in (λ (d : Policy). d.id) c.args.id (λ (p : Publication). p.policies) 0 (publications_of c.args.self.now) none)

pub index-requires : goal.index-requires
index-requires c =
    let kept = c.args.self.now.kept in
    let found : find (has (λ (s : DocumentSpot). s.id) c.args.id) (spots_in policy_ids 0 (publications_of c.args.self.now)) ≡ Some c.in_ok-entry.entry.spot = sym (kept.policies_found c.args.id) ∙ ap (option_map (λ (e : PolicyEntry). e.spot)) (ap (find (has (λ (e : PolicyEntry). e.spot.id) c.args.id)) (sym c.deref.ensures.value) ∙ sym c.entry_of.ensures ∙ c.in_ok-entry.was) in
    omega (arith, within (λ (d : Policy). d.id) c.args.id (λ (p : Publication). p.policies) c.args.self.now.batches.items c.in_ok-entry.entry.spot found, c.args.self.now.batches.ok.0)

pub index-requires-2 : goal.index-requires-2
index-requires-2 c =
    let kept = c.args.self.now.kept in
    let found : find (has (λ (s : DocumentSpot). s.id) c.args.id) (spots_in policy_ids 0 (publications_of c.args.self.now)) ≡ Some c.in_ok-entry.entry.spot = sym (kept.policies_found c.args.id) ∙ ap (option_map (λ (e : PolicyEntry). e.spot)) (ap (find (has (λ (e : PolicyEntry). e.spot.id) c.args.id)) (sym c.deref.ensures.value) ∙ sym c.entry_of.ensures ∙ c.in_ok-entry.was) in
    let at = placed (λ (d : Policy). d.id) c.args.id (λ (p : Publication). p.policies) c.args.self.now.batches.items c.in_ok-entry.entry.spot c.index.result.now c.index.ensures found in
    omega (arith, at.place, length-map c.index.result.now.value.policies.items (λ (s : Arc program.Policy Global). policy_document s.value), c.index.result.now.value.policies.ok.0, ap (λ (b : Batch). b.policies.len) c.deref-batch.ensures)

pub returns : goal.returns
returns c =
    let kept = c.args.self.now.kept in
    let found : find (has (λ (s : DocumentSpot). s.id) c.args.id) (spots_in policy_ids 0 (publications_of c.args.self.now)) ≡ Some c.in_ok-entry.entry.spot = sym (kept.policies_found c.args.id) ∙ ap (option_map (λ (e : PolicyEntry). e.spot)) (ap (find (has (λ (e : PolicyEntry). e.spot.id) c.args.id)) (sym c.deref.ensures.value) ∙ sym c.entry_of.ensures ∙ c.in_ok-entry.was) in
    let at = placed (λ (d : Policy). d.id) c.args.id (λ (p : Publication). p.policies) c.args.self.now.batches.items c.in_ok-entry.entry.spot c.index.result.now c.index.ensures found in
    let document : Arc program.Policy Global → Policy = λ s. policy_document s.value in
    let share = c.index-2.result.now in
    let items = c.index.result.now.value.policies.items in
    let here : get_or (map document items) c.in_ok-entry.entry.spot.place (document share) ≡ document share =
    get_or-map document items c.in_ok-entry.entry.spot.place share ∙ ap document (ap (λ (b : Batch). get_or b.policies.items c.in_ok-entry.entry.spot.place share) (sym c.deref-batch.ensures) ∙ sym c.index-2.ensures) in
    ap (λ d. Some (dated c.deref-batch.result.now.moment (policy_document d))) c.deref-document.ensures
    ∙ ap (λ (b : Batch). Some (dated b.moment (document share))) c.deref-batch.ensures
    ∙ ap (λ d. Some (dated c.index.result.now.value.moment d)) (sym here) ∙ sym (at.is (document share))
