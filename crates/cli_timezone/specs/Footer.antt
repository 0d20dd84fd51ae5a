-- The footer of a TZif file (RFC 9636, section 3.3), and the rule in it: a TZ string of POSIX.
use Rattle.std.specs.Prelude.{◌≡◌, ◌≢◌, ℕ, List, [], ◌∷◌, ◌++◌, Bool, true, false, not, ◌&&◌, ◌==◌, nat_le, nat_eq, length, slice_index, codes}
use Rattle.std.specs.List.{list_all, starts_with}
use Rattle.cli_timezone.specs.declared.fault.ZoneFileFault.{ZoneFileFault}
use Rattle.cli_timezone.specs.declared.fault.ZoneFileFault.TheVariants.{Unreadable, NoTzif, FirstVersion, NoFooter, NoRule, NoText, NoMemory}

-- section 3.1: a header of 44 bytes, which begins with `TZif` and a byte for the version
abbrev pub is_tzif : List ℕ → Bool
is_tzif file = nat_le 44 (length file) && starts_with nat_eq file (codes "TZif")

-- the first version's byte is 0, the second's `2`
abbrev pub is_first_version : List ℕ → Bool
is_first_version file = slice_index file 4 == 0

abbrev pub is_line_feed : ℕ → Bool
is_line_feed b = b == 10

-- after the last line feed of a text comes this line
pub record IsLastLine (text line : List ℕ) : Type 0 where
  pub front : List ℕ
  pub whole : text ≡ front ++ 10 ∷ line
  pub one_line : list_all (λ b. not (is_line_feed b)) line ≡ true

-- a file ends with a line feed, and this is the line before it, which begins after another one
pub record IsFooter (file line : List ℕ) : Type 0 where
  pub text : List ℕ
  pub whole : file ≡ text ++ 10 ∷ []
  pub last : IsLastLine text line

-- printable ASCII that needs no escape in a JSON string (RFC 8259, section 7)
abbrev pub is_rule_byte : ℕ → Bool
is_rule_byte b = nat_le 32 b && nat_le b 126 && not (b == 34) && not (b == 92)

abbrev pub is_plain : List ℕ → Bool
is_plain rule = list_all is_rule_byte rule

-- a file of the second version or a later one, with this line as its footer
pub record HasFooter (file line : List ℕ) : Type 0 where
  pub tzif : is_tzif file ≡ true
  pub later : is_first_version file ≡ false
  pub footer : IsFooter file line

-- the rule in a file's footer
pub record HasRule (file rule : List ℕ) : Type 0 where
  pub footer : HasFooter file rule
  pub some : rule ≢ []
  pub plain : is_plain rule ≡ true

-- why a file has no rule; `NoMemory` says nothing about the file, and `Unreadable` is never reported of a file that was
-- read
abbrev pub HasFault : List ℕ → ZoneFileFault → Type 0
HasFault file Unreadable = ⊥
HasFault file NoTzif = is_tzif file ≡ false
HasFault file FirstVersion = (is_tzif file ≡ true) × (is_first_version file ≡ true)
HasFault file NoFooter = (line : List ℕ) → ¬ IsFooter file line
HasFault file NoRule = HasFooter file []
HasFault file NoText = (line : List ℕ) × HasFooter file line × (is_plain line ≡ false)
HasFault file NoMemory = Unit {0}
