use Rattle.std.proofs.Common.{◌≡◌, ℕ, Some, None, List, find, get_or, option_map, ap, sym, ◌∙◌, arith}
use Rattle.std.specs.declared.alloc.Global.{Global}
use Rattle.std.specs.declared.vec.Vec.{Vec}
use Rattle.mds_policy.specs.Policy.{Policy}
use Rattle.mds_catalog.specs.declared.batch.Batch.{Batch}
use Rattle.mds_catalog.specs.declared.document_index.DocumentSpot.{DocumentSpot}
use Rattle.mds_catalog.specs.declared.policy_index.PolicyEntry.{PolicyEntry}
use Rattle.mds_catalog.specs.Publication.{Publication, publication_of, policy_ids, find_policy}
use Rattle.mds_catalog.specs.Catalogue.{publications_of, served_policy}
use Rattle.mds_catalog.specs.Listed.{has, spots_in}
use Rattle.mds_catalog.specs.Texts.{policy_text}
use Rattle.mds_catalog.proofs.SpotsFound.{nowhere_in, placed, within}
use Rattle.mds_catalog.proofs.Texts.{as_many, lent_text}
use Rattle.mds_catalog.proofs.catalogue.Catalogue.policy_text.Goals as goal

pub returns-in_err-entry : goal.returns-in_err-entry
returns-in_err-entry c =
    let kept = c.args.self.now.kept in
    let none : find (has (λ (s : DocumentSpot). s.id) c.args.id) (spots_in policy_ids 0 (publications_of c.args.self.now)) ≡ None = sym (kept.policies_found c.args.id) ∙ ap (option_map (λ (e : PolicyEntry). e.spot)) (ap (find (has (λ (e : PolicyEntry). e.spot.id) c.args.id)) (sym c.deref.ensures.value) ∙ sym c.entry_of.ensures ∙ c.in_err-entry.was) in
    ap (option_map _) c.from_residual.ensures ∙ ap (option_map served_policy) (sym (nowhere_in (λ (d : Policy). d.id) c.args.id (λ (p : Publication). p.policies) 0 (publications_of c.args.self.now) none))

pub index-requires : goal.index-requires
index-requires c =
    let kept = c.args.self.now.kept in
    let found : find (has (λ (s : DocumentSpot). s.id) c.args.id) (spots_in policy_ids 0 (publications_of c.args.self.now)) ≡ Some c.in_ok-entry.entry.spot = sym (kept.policies_found c.args.id) ∙ ap (option_map (λ (e : PolicyEntry). e.spot)) (ap (find (has (λ (e : PolicyEntry). e.spot.id) c.args.id)) (sym c.deref.ensures.value) ∙ sym c.entry_of.ensures ∙ c.in_ok-entry.was) in
    omega (arith, within (λ (d : Policy). d.id) c.args.id (λ (p : Publication). p.policies) c.args.self.now.batches.items c.in_ok-entry.entry.spot found, c.args.self.now.batches.ok.0)

pub index-requires-2 : goal.index-requires-2
index-requires-2 c =
    let kept = c.args.self.now.kept in
    let found : find (has (λ (s : DocumentSpot). s.id) c.args.id) (spots_in policy_ids 0 (publications_of c.args.self.now)) ≡ Some c.in_ok-entry.entry.spot = sym (kept.policies_found c.args.id) ∙ ap (option_map (λ (e : PolicyEntry). e.spot)) (ap (find (has (λ (e : PolicyEntry). e.spot.id) c.args.id)) (sym c.deref.ensures.value) ∙ sym c.entry_of.ensures ∙ c.in_ok-entry.was) in
    let at = placed (λ (d : Policy). d.id) c.args.id (λ (p : Publication). p.policies) c.args.self.now.batches.items c.in_ok-entry.entry.spot c.index.result.now c.index.ensures found in
    let batch = c.index.result.now.value in
    omega (arith, at.place, as_many (λ (t : Vec ℕ Global). t.items) (policy_text batch.moment) batch.policy_texts.items (publication_of batch).policies batch.policies_printed, batch.policy_texts.ok.0, ap (λ (b : Batch). b.policy_texts.len) c.deref-published.ensures)

pub returns : goal.returns
returns c =
    let kept = c.args.self.now.kept in
    let found : find (has (λ (s : DocumentSpot). s.id) c.args.id) (spots_in policy_ids 0 (publications_of c.args.self.now)) ≡ Some c.in_ok-entry.entry.spot = sym (kept.policies_found c.args.id) ∙ ap (option_map (λ (e : PolicyEntry). e.spot)) (ap (find (has (λ (e : PolicyEntry). e.spot.id) c.args.id)) (sym c.deref.ensures.value) ∙ sym c.entry_of.ensures ∙ c.in_ok-entry.was) in
    let at = placed (λ (d : Policy). d.id) c.args.id (λ (p : Publication). p.policies) c.args.self.now.batches.items c.in_ok-entry.entry.spot c.index.result.now c.index.ensures found in
    let batch = c.index.result.now.value in
    let t = c.index-2.result.now in
    ap Some c.deref-text.ensures.value
    ∙ lent_text (λ (t : Vec ℕ Global). t.items) policy_text batch.policy_texts.items (publication_of batch).policies c.in_ok-entry.entry.spot.place batch.moment t (find_policy (publications_of c.args.self.now) c.args.id) batch.policies_printed at.place
    (c.index-2.ensures ∙ ap (λ (b : Batch). get_or b.policy_texts.items c.in_ok-entry.entry.spot.place t) c.deref-published.ensures) at.is
