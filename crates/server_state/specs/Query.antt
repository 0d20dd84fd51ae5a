-- Answers to queries outside the protocol's calls: at an operator's desk, and in the author's room.
use Rattle.std.specs.Prelude.{◌≡◌, ℕ, List, Option}
use Rattle.mds_catalog.specs.Publication.{Publication}
use Rattle.mds_drafts.specs.Drafts.{Drafts}
use Rattle.mds_request.specs.Configuration.{Configuration}
use Rattle.mds_desk.specs.Desk.{DeskState, Learns}
use Rattle.mds_desk.specs.Room.{RoomState}
use Rattle.server_state.specs.Turn.{IsDeskAt, IsTold}

-- The desk learns a note, if there is one, and then takes a look at what is published: at a front that begins with all
-- that it knew, and which it knows afterwards. Its rows stay.
pub record Looks (d : DeskState) (note : Option (List Publication)) (next : DeskState) : Type 0 where
  pub told : DeskState
  pub learns : IsTold d note told
  pub learnt : Learns told next.known next

-- The desk of the operator at this index of this configuration takes a look at what is published, and the answer is
-- that for the front which it knows afterwards. Its rows stay.
pub record DeskTells {T : Type 0} (configuration : Configuration) (place : ℕ) (says : List Publication → T → Type 0) (told : T) : Type 0 where
  pub before : DeskState
  pub after : DeskState
  pub is_its : IsDeskAt configuration place before
  pub learnt : Learns before after.known after
  pub tells : says after.known told

-- The answer is that for the drafts and the publications of the author's room of this configuration.
pub record RoomTells {T : Type 0} (configuration : Configuration) (says : Drafts → List Publication → T → Type 0) (told : T) : Type 0 where
  pub room : RoomState
  pub is_its : room.configuration ≡ configuration
  pub tells : says room.drafts room.publications told
