-- The runs of a body stand one after another in the list of their desk.
use Rattle.std.proofs.Common.{◌≡◌, ℕ, Bool, false, List, [], ◌∷◌, ◌++◌, length, inl, inr, refl, sym, ap, subst, ◌∙◌, append_assoc}
use Rattle.std.specs.Prelude.{◌⊎◌}
use Rattle.std.proofs.Math.Logic.{∥∥₁_map}
use Rattle.std.proofs.lemmas.List.{append-nil}
use Rattle.mds_desk.specs.Desk.{DeskState}
use Rattle.mds_machine.specs.Step.{Exchange}
use Rattle.mds_request.specs.Configuration.{Configuration}
use Rattle.mds_request.specs.Request.{Request}
use Rattle.mds_request.specs.Reply.{Reply}
use Rattle.mds_request.specs.declared.config.Actor.TheVariants.{Operator}
use Rattle.server_admission.specs.Actor.{index_of}
use Rattle.server_state.specs.Openings.{BeginsAt, Openings}
use Rattle.server_state.specs.Turn.{IsDeskAt}
use Rattle.server_state.specs.TurnItem.{TurnItem, Ran}
use Rattle.server_state.specs.TurnList.{AreTurnsOf, opened_as}
use Rattle.server_durable.specs.Logged.{ShowsTurns, exchanges_in}
use Rattle.server_durable.specs.Many.{exchanges}
use Rattle.server_durable.specs.ManyAnswers.{EndsInRun, IsListedRun}
use Rattle.server_durable.specs.Owners.{client_in}
use Rattle.server_state.proofs.Openings.{begins_more}
use Rattle.server_durable.proofs.Logging.{exchanges_more}
use Rattle.server_durable.proofs.Reports.{exchanges_on}

module _ (configuration : Configuration) (openings : Openings) (client_of : List ℕ → ℕ) (place : ℕ) where
  -- the progress: these are the last turns of a desk's list, which begins as the desk was put behind its lock, none of
  -- which is missing, and the log position shows it
  pub record AreListed (requests : List Request) (replies : List Reply) (stamp : List (List ℕ)) (lost : Bool) (items : List TurnItem) : Type 0 where
    pub before : List TurnItem
    pub own : List TurnItem
    pub cut : items ≡ before ++ own
    pub asked : exchanges_in own ≡ exchanges requests replies
    pub begins : BeginsAt openings place items
    pub shows : (requests ≡ []) ⊎ ((lost ≡ false) × ∥ ShowsTurns configuration client_of (index_of (Operator place)) items stamp ∥₁)

  pub listed_none : (replies : List Reply) (stamp : List (List ℕ)) (lost : Bool) (items : List TurnItem) → BeginsAt openings place items
      → AreListed [] replies stamp lost items
  listed_none replies stamp lost items begins =
      record { before = items; own = []; cut = sym (append-nil items); asked = refl; begins = begins; shows = inl refl }

  -- a run more
  pub listed_more : (requests more : List Request) (replies others : List Reply) (stamp later : List (List ℕ)) (lost missing : Bool) (items all : List TurnItem)
      → length replies ≡ length requests → AreListed requests replies stamp lost items → EndsInRun items more others missing all
      → ∥ ShowsTurns configuration client_of (index_of (Operator place)) all later ∥₁ → AreListed (requests ++ more) (replies ++ others) later missing all
  listed_more requests more replies others stamp later lost missing items all same was ends shows =
      let run : List TurnItem = Ran more others ∷ [] in
      record {
        before = was.before;
        own = was.own ++ run;
        cut = ends.1 ∙ ap (λ (xs : List TurnItem). xs ++ run) was.cut ∙ append_assoc was.before was.own run;
        asked =
            exchanges_more was.own run ∙ ap (λ (history : List Exchange). exchanges_in was.own ++ history) (append-nil (exchanges more others))
            ∙ ap (λ (history : List Exchange). history ++ exchanges more others) was.asked ∙ sym (exchanges_on requests more replies others same);
        begins = begins_more openings place items run all was.begins ends.1;
        shows = inr (ends.0, shows);
      }

  -- an empty run is behind a desk's empty list
  none_listed : (requests : List Request) (replies : List Reply) (stamp : List (List ℕ)) (d : DeskState) → IsDeskAt configuration place d → requests ≡ []
      → IsListedRun configuration openings place requests replies d stamp
  none_listed requests replies stamp d its none =
      record {
        before = opened_as d;
        own = [];
        asked = sym (ap (λ (rs : List Request). exchanges rs replies) none);
        begins = inl none;
        turns = ∣ record { first = d; events = []; is_its = its; items_are = refl; becomes = refl } ∣₁;
        shows = ∣ record { texts = []; logged = tt; shown = (_, refl) } ∣₁;
      }

  -- so they are behind a desk whose list this is
  pub listed_run : (requests : List Request) (replies : List Reply) (stamp : List (List ℕ)) (lost : Bool) (items : List TurnItem) (d : DeskState) (at : ℕ)
      → client_of ≡ client_in configuration → d.configuration ≡ configuration → d.place ≡ at → at ≡ place
      → ∥ (lost ≡ false → AreTurnsOf configuration at items d) ∥₁ → AreListed requests replies stamp lost items → IsListedRun configuration openings place requests replies d stamp
  listed_run requests replies stamp lost items d at named configured placed here are was =
      elim was.shows [
        | inl none ↦ none_listed requests replies stamp d (record { configured = configured; placed = placed ∙ here }) none
        | inr whole ↦
            record {
              before = was.before;
              own = was.own;
              asked = was.asked;
              begins = inr (subst (λ (xs : List TurnItem). BeginsAt openings place xs) was.cut was.begins);
              turns =
                  subst (λ (p : ℕ). ∥ AreTurnsOf configuration p (was.before ++ was.own) d ∥₁) here
                  (∥∥₁_map are (λ turns. subst (λ (xs : List TurnItem). AreTurnsOf configuration at xs d) was.cut (turns whole.0)));
              shows =
                  subst (λ (xs : List TurnItem). ∥ ShowsTurns configuration (client_in configuration) (index_of (Operator place)) xs stamp ∥₁) was.cut
                  (subst (λ (clients : List ℕ → ℕ). ∥ ShowsTurns configuration clients (index_of (Operator place)) items stamp ∥₁) named whole.1);
            }
      ]
