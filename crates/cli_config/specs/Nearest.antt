-- The known name that an unknown one may have meant: the one with the fewest edits.
use Rattle.std.specs.Prelude.{ℕ, ◌/◌, List, [], ◌∷◌, Bool, true, ◌&&◌, nat_le, nat_lt, max, length, if◌then◌else◌, Option, Some, None, option_map}
use Rattle.std.specs.Str.{chars}
use Rattle.strsim.specs.Edits.{osa_table}
use Rattle.cli_config.specs.declared.members.KnownMember.{KnownMember}
use Rattle.cli_config.specs.declared.nearest.Hint.{Hint}
use Rattle.cli_config.specs.declared.nearest.Hint.TheVariants.{Nothing, Here, Elsewhere}
use Rattle.cli_config.specs.declared.nearest.Near.{Near}
use Rattle.cli_config.specs.declared.nearest.TheConstants.{MOST_COMPARED}
use Rattle.cli_config.specs.declared.located_members.MemberOwner.{MemberOwner}
use Rattle.cli_config.specs.Names.{name_of, known_of, others_of}

-- the edit distance from a name to a known one: characters that are inserted, deleted, replaced by another or swapped
-- with the next (the restricted Damerau-Levenshtein distance)
abbrev pub edits_to : List ℕ → KnownMember → ℕ
edits_to name known = (osa_table (chars name) (chars (name_of known))).last_row (length (chars (name_of known)))

-- a third of the name's bytes, and one at least
abbrev pub most_edits : List ℕ → ℕ
most_edits name = max (length name) 3 / 3

abbrev pub is_nearer : ℕ → Option Near → Bool
is_nearer edits None = true
is_nearer edits (Some near) = nat_lt edits near.edits

-- the nearer one of the nearest so far and a known one; the first of two that are as near
abbrev pub nearer : List ℕ → Option Near → KnownMember → Option Near
nearer name best known =
    if nat_le (edits_to name known) (most_edits name) && is_nearer (edits_to name known) best
    then Some (record { known = known; edits = edits_to name known })
    else best

abbrev pub nearest_from : List ℕ → Option Near → List KnownMember → Option Near
nearest_from name best [] = best
nearest_from name best (k ∷ ks) = nearest_from name (nearer name best k) ks

-- the nearest of these to a name of at most 64 bytes
abbrev pub nearest : List ℕ → List KnownMember → Option KnownMember
nearest name members = if nat_le (length name) MOST_COMPARED then option_map (λ near. near.known) (nearest_from name None members) else None

abbrev pub elsewhere : Option KnownMember → Hint
elsewhere None = Nothing
elsewhere (Some k) = Elsewhere k

abbrev pub here_or : Option KnownMember → Hint → Hint
here_or None other = other
here_or (Some k) other = Here k

-- one of the same object, else one of the other
abbrev pub hint : MemberOwner → List ℕ → Hint
hint owner name = here_or (nearest name (known_of owner)) (elsewhere (nearest name (others_of owner)))
