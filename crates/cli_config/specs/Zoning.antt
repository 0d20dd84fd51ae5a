-- The name of a zone in a configuration, and the rule that replaces it.
use Rattle.std.specs.Prelude.{ℕ, ◌+◌, List, [], ◌∷◌, ◌++◌, Bool, ◌&&◌, not, length, codes, if◌then◌else◌, Option, Some, None}
use Rattle.std.specs.Result.{is_ok}
use Rattle.mds_match.specs.Zone.{zone_of}
use Rattle.cli_timezone.specs.Names.{is_zone_name}
use Rattle.cli_config.specs.declared.members.KnownMember.TheVariants.{Zone}
use Rattle.cli_config.specs.declared.paths.Path.TheVariants.{Member}
use Rattle.cli_config.specs.declared.located_members.Value.{Value}
use Rattle.cli_config.specs.declared.zoning.ResolvedZone.{ResolvedZone}
use Rattle.cli_config.specs.declared.zoning.ResolvedZone.TheVariants.{Plain, Rule, Fault}
use Rattle.cli_config.specs.Lexemes.{is_space}
use Rattle.cli_config.specs.Paths.{last_meant}
use Rattle.cli_config.specs.Pieces.{piece, unquoted}
use Rattle.cli_config.specs.LocatedMembers.{spots_of, is_text}

-- the value of the configuration's member `zone`
abbrev pub zone_value : List ℕ → Option Value
zone_value bytes = last_meant (Member Zone) None (spots_of bytes)

-- a text that is no zone by itself, and may be the name of one
abbrev pub is_named : List ℕ → Bool
is_named name = not (is_ok (zone_of name)) && is_zone_name name

abbrev pub name_if : List ℕ → Option (List ℕ)
name_if name = if is_named name then Some name else None

abbrev pub name_in : List ℕ → Option Value → Option (List ℕ)
name_in bytes None = None
name_in bytes (Some value) = if is_text value.sign then name_if (unquoted (piece bytes value.from value.to)) else None

-- the name of a configuration's zone
abbrev pub named_zone : List ℕ → Option (List ℕ)
named_zone bytes = name_in bytes (zone_value bytes)

-- the offset after the last byte that isn't white space
abbrev pub ended : ℕ → ℕ → List ℕ → ℕ
ended at end [] = end
ended at end (b ∷ bs) = ended (at + 1) (if is_space b then end else at + 1) bs

abbrev pub written_end : List ℕ → Value → ℕ
written_end bytes value = ended value.from value.from (piece bytes value.from value.to)

-- another string in place of a value, and all else as it was
abbrev pub replaced : List ℕ → Value → List ℕ → List ℕ
replaced bytes value rule = piece bytes 0 value.from ++ 34 ∷ rule ++ 34 ∷ [] ++ piece bytes (written_end bytes value) (length bytes)

abbrev pub with_rule : List ℕ → List ℕ → Option Value → List ℕ
with_rule bytes rule None = bytes
with_rule bytes rule (Some value) = if is_text value.sign then replaced bytes value rule else bytes

-- the configuration with this rule in place of its zone's name
abbrev pub with_zone : List ℕ → List ℕ → List ℕ
with_zone bytes rule = with_rule bytes rule (zone_value bytes)

-- the text that is checked; where there is no rule for the name, some zone takes its place
abbrev pub stand_in : List ℕ → ResolvedZone → List ℕ
stand_in bytes Plain = bytes
stand_in bytes (Rule rule) = with_zone bytes rule
stand_in bytes (Fault fault) = with_zone bytes (codes "Z")
