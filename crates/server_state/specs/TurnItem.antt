-- An item of the list of turns of a desk or of the author's room, and its code, by which proofs tell items apart.
use mathlib.Core.Logic.{inl, inr}
use Rattle.std.specs.Prelude.{ℕ, zero, suc, ◌≡◌, ◌⊎◌, List, refl}
use Rattle.std.specs.Coded.{Coded, code_by, coded×, coded⊎, coded_ℕ, coded_list}
use Rattle.std.specs.FinMap.{FinMap, code}
use Rattle.mds_catalog.specs.Publication.{Publication}
use Rattle.mds_drafts.specs.Drafts.{Drafts, id_cmp}
use Rattle.mds_fleet.specs.Books.{Rows}
use Rattle.mds_geography.specs.Geography.{Geography}
use Rattle.mds_policy.specs.Policy.{Policy}
use Rattle.mds_geometry.specs.declared.position.Position.{Position}
use Rattle.mds_match.specs.Row.{Row}
use Rattle.mds_request.specs.Request.{Request}
use Rattle.mds_request.specs.Reply.{Reply}
use Rattle.mds_request.specs.declared.request.Verb.{Verb}
use Rattle.mds_request.specs.declared.request.Verb.TheVariants.{Get, Put, Post, Delete, Other}
use Rattle.mds_snapshot.specs.Codes.{coded_geography, coded_policy, coded_position, coded_publications, coded_word, coded_words}

-- what a desk knew and had when it was put behind its lock; what the room had then; a turn; or a run of turns with
-- nothing between
pub data TurnItem : Type 0 where
  Opened : List Publication → Rows → TurnItem
  OpenedRoom : Drafts → List Publication → TurnItem
  Answered : Request → Reply → TurnItem
  Ran : List Request → List Reply → TurnItem

abbrev verb_to : Verb → ℕ
verb_to Get = 0
verb_to Put = 1
verb_to Post = 2
verb_to Delete = 3
verb_to Other = 4

abbrev verb_from : ℕ → Verb
verb_from zero = Get
verb_from (suc zero) = Put
verb_from (suc (suc zero)) = Post
verb_from (suc (suc (suc zero))) = Delete
verb_from n = Other

verb_back : (v : Verb) → verb_from (verb_to v) ≡ v
verb_back Get = refl
verb_back Put = refl
verb_back Post = refl
verb_back Delete = refl
verb_back Other = refl

abbrev coded_verb : Coded Verb
coded_verb = code_by ℕ coded_ℕ verb_to verb_from verb_back

abbrev coded_request : Coded Request
coded_request =
    code_by ((ℕ × List ℕ) × (Verb × (List ℕ × List ℕ))) (coded× (coded× coded_ℕ coded_word) (coded× coded_verb (coded× coded_word coded_word)))
    (λ r. ((r.at, r.token), (r.verb, (r.target, r.body))))
    (λ t. record { at = t.0.0; token = t.0.1; verb = t.1.0; target = t.1.1.0; body = t.1.1.1 })
    (λ _. refl)

abbrev coded_reply : Coded Reply
coded_reply = code_by (ℕ × List ℕ) (coded× coded_ℕ coded_word) (λ r. (r.status, r.body)) (λ t. record { status = t.0; body = t.1 }) (λ _. refl)

abbrev coded_row : Coded Row
coded_row =
    code_by (((List ℕ × List ℕ) × (List (List ℕ) × List ℕ)) × ((List (List ℕ) × ℕ) × (Position × ℕ)))
    (coded× (coded× (coded× coded_word coded_word) (coded× coded_words coded_word)) (coded× (coded× coded_words coded_ℕ) (coded× coded_position coded_ℕ)))
    (λ r. (((r.device, r.vehicle_type), (r.propulsion, r.state)), ((r.events, r.timestamp), (r.position, r.since))))
    (λ t.
    record {
      device = t.0.0.0;
      vehicle_type = t.0.0.1;
      propulsion = t.0.1.0;
      state = t.0.1.1;
      events = t.1.0.0;
      timestamp = t.1.0.1;
      position = t.1.1.0;
      since = t.1.1.1;
    })
    (λ _. refl)

abbrev coded_drafts : Coded Drafts
coded_drafts =
    code_by (FinMap id_cmp Policy × FinMap id_cmp Geography) (coded× (code coded_word coded_policy) (code coded_word coded_geography)) (λ d. (d.policies, d.geographies))
    (λ t. record { policies = t.0; geographies = t.1 })
    (λ _. refl)

abbrev Parts : Type 0
Parts = ((List Publication × Rows) ⊎ (Drafts × List Publication)) ⊎ ((Request × Reply) ⊎ (List Request × List Reply))

abbrev item_to : TurnItem → Parts
item_to (Opened known rows) = inl (inl (known, rows))
item_to (OpenedRoom drafts publications) = inl (inr (drafts, publications))
item_to (Answered request reply) = inr (inl (request, reply))
item_to (Ran requests replies) = inr (inr (requests, replies))

abbrev item_from : Parts → TurnItem
item_from (inl (inl t)) = Opened t.0 t.1
item_from (inl (inr t)) = OpenedRoom t.0 t.1
item_from (inr (inl t)) = Answered t.0 t.1
item_from (inr (inr t)) = Ran t.0 t.1

item_back : (i : TurnItem) → item_from (item_to i) ≡ i
item_back (Opened known rows) = refl
item_back (OpenedRoom drafts publications) = refl
item_back (Answered request reply) = refl
item_back (Ran requests replies) = refl

pub coded_item : Coded TurnItem
coded_item =
    code_by Parts
    (coded⊎ (coded⊎ (coded× coded_publications (code coded_word coded_row)) (coded× coded_drafts coded_publications)) (coded⊎ (coded× coded_request coded_reply) (coded× (coded_list coded_request) (coded_list coded_reply))))
    item_to item_from item_back
