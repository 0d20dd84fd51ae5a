-- Fronts, and views that are continued by them. A front is the list of the publications at which a request is answered:
-- a prefix of all that are ever published, as long as it was when the desk looked.
use mathlib.Core.List.{IsPrefix}
use Rattle.std.specs.Prelude.{ℕ, ◌==◌, ◌&&◌, Bool, List, [], ◌∷◌, ◌++◌, map, filter, not, drop, length}
use Rattle.mds_catalog.specs.Publication.{Publication}
use Rattle.mds_request.specs.Configuration.{Configuration, Operator}
use Rattle.mds_request.specs.Request.{Request}
use Rattle.mds_request.specs.Reply.{Reply}
use Rattle.mds_machine.specs.Meaning.{IsAnswer}
use Rattle.mds_machine.specs.Views.{Seen, asked, published, is_of, publications_of}

-- One turn at a desk: a request, the front at which it is answered, and the reply. Where the desk has no snapshot, the
-- front is what the desk knew.
pub record Turn : Type 0 where
  pub request : Request
  pub front : List Publication
  pub reply : Reply

abbrev pub requests_in : List Turn → List Request
requests_in turns = map (λ turn. turn.request) turns

abbrev pub replies_in : List Turn → List Reply
replies_in turns = map (λ turn. turn.reply) turns

-- the first front has what was known before as a prefix, and each other front has the one before it
abbrev pub AreRising : List Publication → List Turn → Type 0
AreRising known [] = Unit {0}
AreRising known (turn ∷ turns) = IsPrefix known turn.front × AreRising turn.front turns

-- the last front, or what was known at first where there is none
abbrev pub last_front : List Publication → List Turn → List Publication
last_front known [] = known
last_front known (turn ∷ turns) = last_front turn.front turns

-- a view followed by the further publications of a front, after as many as the view has
abbrev pub followed : List Seen → List Publication → List Seen
followed seen front = seen ++ map published (drop (length (publications_of seen)) front)

-- A view continued by turns: for each turn in order, it is followed by the turn's front, and then by its request.
abbrev pub continued : List Seen → List Turn → List Seen
continued seen [] = seen
continued seen (turn ∷ turns) = continued (followed seen turn.front ++ asked turn.request ∷ []) turns

-- each reply is the answer to its request in the view continued up to that request
abbrev pub AreAnswers : Configuration → Operator → List Seen → List Turn → Type 0
AreAnswers configuration operator seen [] = Unit {0}
AreAnswers configuration operator seen (turn ∷ turns) =
    let now = followed seen turn.front in
    IsAnswer configuration operator now turn.request turn.reply
    × AreAnswers configuration operator (now ++ asked turn.request ∷ []) turns

-- the request has the operator's token, and the reply isn't 503
abbrev pub is_served : Configuration → ℕ → Turn → Bool
is_served configuration place turn = is_of configuration place turn.request && not (turn.reply.status == 503)

-- the turns of the operator that are served
abbrev pub served_in : Configuration → ℕ → List Turn → List Turn
served_in configuration place turns = filter (is_served configuration place) turns
