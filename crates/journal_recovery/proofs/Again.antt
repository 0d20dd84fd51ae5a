-- New rooms and desks that replayed entries.
use Rattle.std.proofs.Common.{◌≡◌, ℕ, List, ◌++◌, length, take, ap, subst, ◌∙◌}
use Rattle.std.proofs.Math.Seq.{take-append_seam}
use Rattle.mds_request.specs.Configuration.{Configuration}
use Rattle.mds_desk.specs.Desk.{DeskState, new_desks}
use Rattle.mds_desk.specs.Room.{RoomState, new_room}
use Rattle.journal_entry.specs.Entries.{Entry}
use Rattle.journal_recovery.specs.Recovery.{Server, AreAnswered}
use Rattle.journal_recovery.specs.Laws.{AnsweredAreTurns, JournalLeadsBack, GoesOnAsOneServer, IsStartedAgain, new_server}
use Rattle.journal_recovery.proofs.New.{new_is}

abbrev pub with_both : RoomState → List DeskState → Server
with_both room desks = record { room = room; desks = desks }

-- what holds of the furnished room and desks, and of the configuration that the room shares, holds of the new ones
pub as_new : (P : Configuration → Server → Type 0) (shared c : Configuration) (room : RoomState) (desks : List DeskState) → shared ≡ room.configuration
    → room ≡ new_room c → desks ≡ new_desks c → P shared (with_both room desks) → P c (new_server c)
as_new P shared c room desks shares is are holds =
    let one : shared ≡ c = shares ∙ ap (λ (r : RoomState). r.configuration) is in
    let server : with_both room desks ≡ new_server c = ap (λ (r : RoomState). with_both r desks) is ∙ ap (with_both (new_room c)) are in
    subst (λ (k : Configuration). P k (new_server c)) one (subst (P shared) server holds)

pub started : AnsweredAreTurns → JournalLeadsBack → GoesOnAsOneServer → (c : Configuration) (entries : List Entry) (s : Server)
    → AreAnswered c entries (new_server c) s → IsStartedAgain c entries s
started turns leads goes c entries s are = record {
  answered = are;
  placed = (turns c entries (new_server c) s (new_is c) are).0;
  back = leads c entries s are;
  one = goes c entries s are;
}

-- a list that was written back whole
pub written_back : {X : Type 0} (n : ℕ) (xs rest : List X) → n ≡ length xs → take n (xs ++ rest) ≡ xs
written_back n xs rest whole = ap (λ k. take k (xs ++ rest)) whole ∙ take-append_seam xs rest
