-- Which members of a configuration are read, by which crate, and what is found in the others, in those of which a later one
-- is read, and in values that are none of theirs.
--   author, operators, zone: mds_request (configuration), server_app (answers), mds_config_error; public: server_public
--   oversight: server_app; page: server_settings
--   id, limit, token of an operator: mds_request and mds_config_error; name of an operator: server_app
use Rattle.std.specs.Prelude.{ℕ, List, [], ◌∷◌, Bool, true, false, not, ◌||◌, ◌&&◌, bytes_eq, codes, nat_le, length, if◌then◌else◌, Option, Some, None, is_some}
use Rattle.std.specs.List.{list_any}
use Rattle.cli_config.specs.declared.finding.FindingKind.{FindingKind}
use Rattle.cli_config.specs.declared.finding.FindingKind.TheVariants.{NoOversight, Unread, NoTruth, NoName}
use Rattle.cli_config.specs.declared.lexemes.LexemeKind.{LexemeKind}
use Rattle.cli_config.specs.declared.lexemes.LexemeKind.TheVariants as sign
use Rattle.cli_config.specs.declared.members.KnownMember.{KnownMember}
use Rattle.cli_config.specs.declared.members.KnownMember.TheVariants.{Oversight, Public, Name}
use Rattle.cli_config.specs.declared.members.TheConstants.{MOST_NAME}
use Rattle.cli_config.specs.declared.located_members.MemberOwner.{MemberOwner}
use Rattle.cli_config.specs.declared.located_members.MemberOwner.TheVariants.{Document, Operator}
use Rattle.cli_config.specs.declared.located_members.Value.{Value}
use Rattle.cli_config.specs.Nearest.{hint}
use Rattle.cli_config.specs.Names.{known_of}
use Rattle.cli_config.specs.FindKnown.{find_known}
use Rattle.cli_config.specs.Pieces.{piece, unquoted}
use Rattle.cli_config.specs.LocatedMembers.{Seen, has_name}
use Rattle.cli_config.specs.Paths.{is_document, is_nameless}

-- null counts as absent
abbrev pub is_truth : LexemeKind → Bool
is_truth sign.Truth = true
is_truth sign.Null = true
is_truth other = false

-- a text of at most 256 bytes
abbrev pub is_name : List ℕ → Value → LexemeKind → Bool
is_name bytes value sign.Text = nat_le (length (unquoted (piece bytes value.from value.to))) MOST_NAME
is_name bytes value sign.Null = true
is_name bytes value other = false

-- how far the author sees how each operator stands
abbrev pub is_oversight_word : List ℕ → Bool
is_oversight_word word = bytes_eq word (codes "none") || bytes_eq word (codes "verdicts") || bytes_eq word (codes "vehicles")

abbrev pub is_oversight : List ℕ → Value → LexemeKind → Bool
is_oversight bytes value sign.Text = is_oversight_word (unquoted (piece bytes value.from value.to))
is_oversight bytes value sign.Null = true
is_oversight bytes value other = false

-- one of these is a member of the configuration with this name
abbrev pub stands_in_document : List ℕ → List Seen → Bool
stands_in_document name spots = list_any (λ s. is_document s.owner && has_name name s.name) spots

abbrev pub is_in_operator : Seen → Bool
is_in_operator spot = not (is_document spot.owner || is_nameless spot.name)

-- an operator's member has this name, among those of these that stand before the next operator or member of the configuration
abbrev pub stands_in_operator : List ℕ → List Seen → Bool
stands_in_operator name [] = false
stands_in_operator name (s ∷ ss) = is_in_operator s && (has_name name s.name || stands_in_operator name ss)

-- a name stands again in the same object, among what comes after it
abbrev pub stands_again : MemberOwner → List ℕ → List Seen → Bool
stands_again Document name later = stands_in_document name later
stands_again (Operator place) name later = stands_in_operator name later

abbrev pub is_named_again : MemberOwner → Option (List ℕ) → List Seen → Bool
is_named_again owner None later = false
is_named_again owner (Some name) later = is_some (find_known name (known_of owner)) && stands_again owner name later

-- a known member of which a later one is read, as the last of equal names is (RFC 8259, section 4, leaves it open)
abbrev pub is_overridden : Seen → List Seen → Bool
is_overridden spot later = is_named_again spot.owner spot.name later

-- what is found in a member, by whether it is overridden: an unknown one, or a known one that may be missing and whose value
-- is none of its values; that of `oversight` has to be one wherever it stands
abbrev pub finding_of : List ℕ → MemberOwner → List ℕ → Value → Bool → Option KnownMember → Option FindingKind
finding_of bytes owner name value overridden None = Some (Unread (hint owner name))
finding_of bytes owner name value overridden (Some Oversight) = if is_oversight bytes value value.sign then None else Some NoOversight
finding_of bytes owner name value overridden (Some Public) = if overridden || is_truth value.sign then None else Some NoTruth
finding_of bytes owner name value overridden (Some Name) = if overridden || is_name bytes value value.sign then None else Some NoName
finding_of bytes owner name value overridden (Some other) = None

abbrev pub finding_named : List ℕ → Bool → Seen → Option (List ℕ) → Option FindingKind
finding_named bytes overridden spot None = None
finding_named bytes overridden spot (Some name) =
    finding_of bytes spot.owner name spot.value overridden (find_known name (known_of spot.owner))

abbrev pub member_finding : List ℕ → Bool → Seen → Option FindingKind
member_finding bytes overridden spot = finding_named bytes overridden spot spot.name
