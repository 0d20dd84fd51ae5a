-- The findings in a configuration's text, in the order of the text.
use Rattle.std.specs.Prelude.{ℕ, List, [], ◌∷◌, ◌++◌, Bool, true, false, ◌==◌, if◌then◌else◌, Option, Some, None, option_to_list, option_map, string_bytes}
use Rattle.mds_config_error.specs.Diagnosis.{wrong_in}
use Rattle.mds_config_error.specs.declared.wrong.Wrong.{Wrong}
use Rattle.mds_config_error.specs.declared.wrong.Wrong.TheVariants as wrong
use Rattle.server_settings.specs.Faults.{page_fault}
use Rattle.server_settings.specs.declared.fault.PageFault.{PageFault}
use Rattle.cli_config.specs.declared.finding.ConfigFinding.{ConfigFinding}
use Rattle.cli_config.specs.declared.finding.FindingKind.{FindingKind}
use Rattle.cli_config.specs.declared.finding.FindingKind.TheVariants as what
use Rattle.cli_config.specs.declared.lexemes.LexemeAt.{LexemeAt}
use Rattle.cli_config.specs.declared.members.KnownMember.TheVariants.{Page, Zone}
use Rattle.cli_config.specs.declared.paths.Path.{Path}
use Rattle.cli_config.specs.declared.paths.Path.TheVariants.{Member}
use Rattle.cli_config.specs.declared.position.TextPosition.{TextPosition}
use Rattle.cli_config.specs.declared.gathering.LocatedError.{LocatedError}
use Rattle.cli_config.specs.declared.located_members.Value.{Value}
use Rattle.cli_config.specs.declared.zoning.ResolvedZone.{ResolvedZone}
use Rattle.cli_config.specs.declared.zoning.ResolvedZone.TheVariants.{Fault}
use Rattle.cli_config.specs.Grammar.{fault_from, fresh}
use Rattle.cli_config.specs.Lexemes.{marks_of}
use Rattle.cli_config.specs.Members.{is_overridden, member_finding}
use Rattle.cli_config.specs.Paths.{last_meant, path_text, spot_text, wrong_path}
use Rattle.cli_config.specs.Positions.{place_at}
use Rattle.cli_config.specs.LocatedMembers.{Seen, spots_from, start}
use Rattle.cli_config.specs.Zoning.{stand_in}

-- the definition's value of a `ConfigFinding`
pub record Told : Type 0 where
  pub place : TextPosition
  pub member : List ℕ
  pub what : FindingKind

abbrev pub told : ConfigFinding → Told
told f = record { place = f.place; member = string_bytes f.member; what = f.what }

-- an error, and the value that it is in: that of its path
abbrev pub located : List Seen → Path → FindingKind → LocatedError
located spots path what = record { value = last_meant path None spots; path = path; what = what }

abbrev pub wrong_located : List Seen → Option Wrong → Option LocatedError
wrong_located spots None = None
wrong_located spots (Some w) = Some (located spots (wrong_path w) (what.Wrong w))

abbrev pub zone_located : List Seen → ResolvedZone → Option LocatedError
zone_located spots (Fault fault) = Some (located spots (Member Zone) (what.Zone fault))
zone_located spots other = None

abbrev pub page_located : List Seen → Option PageFault → Option LocatedError
page_located spots None = None
page_located spots (Some fault) = Some (located spots (Member Page) (what.NoPage fault))

-- an error that is in no value is at the beginning
abbrev pub begins_at : Option ℕ → Option Value → Bool
begins_at None None = true
begins_at None (Some value) = false
begins_at (Some from) None = false
begins_at (Some from) (Some value) = from == value.from

-- the error, if it is in the value that begins here
abbrev pub error_here : List ℕ → Option ℕ → ℕ → Option LocatedError → List Told
error_here bytes here offset None = []
error_here bytes here offset (Some l) =
    if begins_at here l.value then record { place = place_at bytes offset; member = path_text l.path; what = l.what } ∷ [] else []

-- an error of a member is in its value, and a warning at its name
abbrev pub finding_at : Seen → FindingKind → ℕ
finding_at spot what.NoOversight = spot.value.from
finding_at spot other = spot.at

abbrev pub member_found : List ℕ → Seen → FindingKind → Told
member_found bytes spot w = record { place = place_at bytes (finding_at spot w); member = spot_text spot; what = w }

-- that it is overridden comes first, as its name stands before its value
abbrev pub member_findings_by : List ℕ → Seen → Bool → List Told
member_findings_by bytes spot overridden =
    (if overridden then member_found bytes spot what.Overridden ∷ [] else [])
    ++ option_to_list (option_map (member_found bytes spot) (member_finding bytes overridden spot))

-- what is found in a member, by those that come after it
abbrev pub member_findings_here : List ℕ → Seen → List Seen → List Told
member_findings_here bytes spot later = member_findings_by bytes spot (is_overridden spot later)

-- the errors, and what is found in it, for this member or operator, by those that come after it
abbrev pub found_here : List ℕ → Option LocatedError → Option LocatedError → Option LocatedError → Seen → List Seen → List Told
found_here bytes wrong zone page spot later =
    error_here bytes (Some spot.value.from) spot.value.from wrong ++ error_here bytes (Some spot.value.from) spot.value.from zone
    ++ error_here bytes (Some spot.value.from) spot.value.from page ++ member_findings_here bytes spot later

abbrev pub found_from : List ℕ → Option LocatedError → Option LocatedError → Option LocatedError → List Seen → List Told
found_from bytes wrong faulty page [] = []
found_from bytes wrong faulty page (s ∷ ss) = found_here bytes wrong faulty page s ss ++ found_from bytes wrong faulty page ss

abbrev pub first_at : List LexemeAt → ℕ
first_at [] = 0
first_at (m ∷ ms) = m.at

abbrev pub is_json : Option Wrong → Bool
is_json (Some wrong.Json) = false
is_json other = true

-- the members of a text that is no JSON mean nothing
abbrev pub spots_if : Bool → List ℕ → List LexemeAt → List Seen
spots_if true bytes marks = spots_from bytes start marks
spots_if false bytes marks = []

-- the offset of an error that is in no value: where a text stops being JSON, and else where its first lexeme begins
abbrev pub begin_of : Bool → List ℕ → List LexemeAt → ℕ
begin_of true bytes marks = first_at marks
begin_of false bytes marks = fault_from bytes fresh marks

abbrev pub found_among : List ℕ → ℕ → Option LocatedError → Option LocatedError → Option LocatedError → List Seen → List Told
found_among bytes begin wrong zone page spots =
    error_here bytes None begin wrong ++ error_here bytes None begin zone ++ error_here bytes None begin page
    ++ found_from bytes wrong zone page spots

abbrev pub found_in : List ℕ → List LexemeAt → ResolvedZone → Option Wrong → List Told
found_in bytes marks zoned wrong =
    let spots = spots_if (is_json wrong) bytes marks in
    found_among bytes (begin_of (is_json wrong) bytes marks) (wrong_located spots wrong) (zone_located spots zoned)
    (page_located spots (page_fault bytes)) spots

-- the findings in a text, whose zone is this
abbrev pub findings : List ℕ → ResolvedZone → List Told
findings bytes zoned = found_in bytes (marks_of bytes) zoned (wrong_in (stand_in bytes zoned))
