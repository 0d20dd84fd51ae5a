-- A payload among others.
use Rattle.std.proofs.Common.{ℕ, List, [], ◌∷◌, ◌++◌, sym, ap, ◌∙◌, append_assoc}
use mathlib.Core.List.{IsPrefix}
use Rattle.journal_commit.specs.Durable.{IsLast}
use Rattle.server_durable.specs.Records.{IsAmong}

-- the last one is among them
pub last_among : (text : List ℕ) (texts : List (List ℕ)) → IsLast text texts → IsAmong text texts
last_among text texts last = (last.0, [], last.1)

-- what is among a prefix is among the whole
pub later_among : (text : List ℕ) (texts more : List (List ℕ)) → IsAmong text texts → IsPrefix texts more → IsAmong text more
later_among text texts more among front =
    (among.0, among.1 ++ front.0, sym front.1 ∙ ap (λ (xs : List (List ℕ)). xs ++ front.0) among.2 ∙ append_assoc among.0 (text ∷ among.1) front.0)

-- what is among these is among them after others
pub behind_among : (first : List (List ℕ)) (text : List ℕ) (texts : List (List ℕ)) → IsAmong text texts → IsAmong text (first ++ texts)
behind_among first text texts among =
    (first ++ among.0, among.1, ap (λ (xs : List (List ℕ)). first ++ xs) among.2 ∙ sym (append_assoc first among.0 (text ∷ among.1)))
