-- The messages of findings.
use Rattle.std.specs.Prelude.{ℕ, List, [], ◌++◌, Bool, true, false, codes, decimal, string_bytes}
use Rattle.mds_config_error.specs.Wording.{wrong_wording}
use Rattle.cli_timezone.specs.Wording.{fault_wording}
use Rattle.server_settings.specs.Faults.{fault_wording as page_wording}
use Rattle.cli_config.specs.declared.finding.ConfigFinding.{ConfigFinding}
use Rattle.cli_config.specs.declared.finding.FindingKind.{FindingKind}
use Rattle.cli_config.specs.declared.finding.FindingKind.TheVariants.{Wrong, Zone, NoOversight, NoPage, Unread, Overridden, NoTruth, NoName}
use Rattle.cli_config.specs.declared.nearest.Hint.{Hint}
use Rattle.cli_config.specs.declared.nearest.Hint.TheVariants.{Nothing, Here, Elsewhere}
use Rattle.cli_config.specs.declared.members.KnownMember.{KnownMember}
use Rattle.cli_config.specs.declared.members.KnownMember.TheVariants as known
use Rattle.cli_config.specs.declared.position.TextPosition.{TextPosition}
use Rattle.cli_config.specs.Names.{name_of}

-- where a known name belongs
abbrev pub home_wording : KnownMember → List ℕ
home_wording known.Author = codes ", beside \"operators\""
home_wording known.Operators = codes ", outside of the operators"
home_wording known.Oversight = codes ", beside \"operators\""
home_wording known.Page = codes ", beside \"operators\""
home_wording known.Public = codes ", beside \"operators\""
home_wording known.Zone = codes ", beside \"operators\""
home_wording other = codes ", of an operator"

abbrev pub hint_wording : Hint → List ℕ
hint_wording Nothing = []
hint_wording (Here k) = codes "; did you mean \"" ++ name_of k ++ codes "\"?"
hint_wording (Elsewhere k) = codes "; did you mean \"" ++ name_of k ++ codes "\"" ++ home_wording k ++ codes "?"

abbrev pub unread_wording : Hint → List ℕ
unread_wording hint = codes ": nobody reads this member" ++ hint_wording hint

-- the message of a finding, with the member's path, unless an error names it itself
abbrev pub what_wording : List ℕ → FindingKind → List ℕ
what_wording member (Wrong w) = wrong_wording w
what_wording member (Zone fault) = codes "zone: its file in /usr/share/zoneinfo " ++ fault_wording fault
what_wording member NoOversight = member ++ codes ": neither \"none\", \"verdicts\" nor \"vehicles\""
what_wording member (NoPage fault) = member ++ page_wording fault
what_wording member (Unread hint) = member ++ unread_wording hint
what_wording member Overridden = member ++ codes ": stands again below, so this one isn't read"
what_wording member NoTruth = member ++ codes ": neither true nor false, so it counts as false"
what_wording member NoName = member ++ codes ": no text of at most 256 bytes, so it isn't read"

abbrev pub finding_wording : ConfigFinding → List ℕ
finding_wording f = what_wording (string_bytes f.member) f.what

abbrev pub counted_wording : ℕ → List ℕ
counted_wording n = codes ":" ++ decimal n

abbrev pub place_wording : TextPosition → List ℕ
place_wording place = (counted_wording place.line ++ counted_wording place.column) ++ codes ": "

-- with the file and the position before it
abbrev pub line_wording : List ℕ → ConfigFinding → List ℕ
line_wording file f = (file ++ place_wording f.place) ++ finding_wording f

abbrev pub is_error : FindingKind → Bool
is_error (Wrong w) = true
is_error (Zone fault) = true
is_error NoOversight = true
is_error (NoPage fault) = true
is_error other = false
