-- A city's zone in words: its name, where it has one, and how far its clock is ahead of UTC or behind it.
use Rattle.std.specs.Prelude.{ℕ, ℤ, pos, int_lt, unsigned_abs, List, [], ◌++◌, bytes_eq, codes, if◌then◌else◌, unwrap_or, Option, Some, None, Result, Ok, Err}
use Rattle.jiff_tz.specs.PosixReader.{read_whole}
use Rattle.jiff_tz.specs.PosixText.{DstText, TzText}
use Rattle.mds_text.specs.Fault.{Fault}
use Rattle.mds_text.specs.Reading.{read_text}
use Rattle.mds_text.specs.Tree.{Json}
use Rattle.cli_calendar.specs.Texts.{span_text}
use Rattle.cli_documents.specs.Members.{text_named}

-- the member `zone` of a configuration, where it is a text
abbrev pub zone_read : Result Json Fault → List ℕ
zone_read (Ok document) = unwrap_or (text_named (codes "zone") document) []
zone_read (Err fault) = []

abbrev pub zone_in : List ℕ → List ℕ
zone_in configuration = zone_read (read_text configuration)

-- how far a clock is ahead of UTC's, or behind it, as `UTC-05:00` (RFC 3339, section 4.2)
abbrev pub sign_text : ℤ → List ℕ
sign_text seconds = if int_lt seconds (pos 0) then codes "UTC-" else codes "UTC+"

abbrev pub offset_text : ℤ → List ℕ
offset_text seconds = sign_text seconds ++ span_text (unsigned_abs seconds)

-- daylight saving time is that of summer where its clock is ahead of standard time's
abbrev pub season : (standard saving : ℤ) → List ℕ
season standard saving = if int_lt standard saving then codes ", in summer " else codes ", in winter "

abbrev pub saving_text : ℤ → Option DstText → List ℕ
saving_text standard None = []
saving_text standard (Some dst) = season standard dst.seconds ++ offset_text dst.seconds

abbrev pub rule_text : TzText → List ℕ
rule_text rule = offset_text rule.std_seconds ++ saving_text rule.std_seconds rule.dst

-- what a zone is whose text is no rule: UTC, or an offset from it
abbrev pub fixed_text : List ℕ → List ℕ
fixed_text text = if bytes_eq text (codes "Z") then codes "UTC" else codes "UTC" ++ text

abbrev pub words_read : List ℕ → Option TzText → List ℕ
words_read text None = fixed_text text
words_read text (Some rule) = rule_text rule

abbrev pub zone_words : List ℕ → List ℕ
zone_words text = words_read text (read_whole text)

-- a zone by its name, with these words, or else by the words alone
abbrev pub in_parentheses : List ℕ → List ℕ
in_parentheses words = codes " (" ++ words ++ codes ")"

abbrev pub zone_text : Option (List ℕ) → List ℕ → List ℕ
zone_text None words = words
zone_text (Some name) words = name ++ in_parentheses words
