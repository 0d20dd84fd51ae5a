-- Where a text stops being JSON (RFC 8259): the first lexeme that isn't allowed where it is.
use Rattle.std.specs.Prelude.{ℕ, List, [], ◌∷◌, Bool, true, nat_lt, length, if◌then◌else◌, Option, Some, None}
use Rattle.std.specs.Result.{is_ok}
use Rattle.mds_text.specs.Reading.{read_text}
use Rattle.cli_config.specs.declared.grammar.Action.{Action}
use Rattle.cli_config.specs.declared.grammar.Action.TheVariants as act
use Rattle.cli_config.specs.declared.grammar.Bracket.{Bracket}
use Rattle.cli_config.specs.declared.grammar.Bracket.TheVariants as bracket
use Rattle.cli_config.specs.declared.grammar.Next.{Next}
use Rattle.cli_config.specs.declared.grammar.Next.TheVariants as next
use Rattle.cli_config.specs.declared.grammar.GrammarState.{GrammarState}
use Rattle.cli_config.specs.declared.grammar.TheConstants.{MOST_LEVELS}
use Rattle.cli_config.specs.declared.lexemes.LexemeAt.{LexemeAt}
use Rattle.cli_config.specs.declared.lexemes.LexemeKind.{LexemeKind}
use Rattle.cli_config.specs.declared.lexemes.LexemeKind.TheVariants as sign
use Rattle.cli_config.specs.Lexemes.{marks_of}
use Rattle.cli_config.specs.Pieces.{piece}
use Rattle.cli_config.specs.LocatedMembers.{next_at}

-- a value (section 3)
abbrev pub value_action : LexemeKind → Option Action
value_action sign.OpenObject = Some (act.Open bracket.Object)
value_action sign.OpenList = Some (act.Open bracket.List)
value_action sign.Text = Some act.Whole
value_action sign.Truth = Some act.Whole
value_action sign.Null = Some act.Whole
value_action sign.Number = Some act.Whole
value_action other = None

abbrev pub list_action : LexemeKind → Option Action
list_action sign.CloseList = Some act.Close
list_action other = value_action other

abbrev pub name_action : LexemeKind → Option Action
name_action sign.Text = Some (act.Then next.Colon)
name_action other = None

abbrev pub object_action : LexemeKind → Option Action
object_action sign.CloseObject = Some act.Close
object_action other = name_action other

abbrev pub colon_action : LexemeKind → Option Action
colon_action sign.Colon = Some (act.Then next.Value)
colon_action other = None

-- after a value within an object (section 4)
abbrev pub object_more : LexemeKind → Option Action
object_more sign.Comma = Some (act.Then next.Name)
object_more sign.CloseObject = Some act.Close
object_more other = None

-- after a value within a list (section 5)
abbrev pub list_more : LexemeKind → Option Action
list_more sign.Comma = Some (act.Then next.Value)
list_more sign.CloseList = Some act.Close
list_more other = None

abbrev pub more_action : List Bracket → LexemeKind → Option Action
more_action [] sign = None
more_action (bracket.Object ∷ outer) sign = object_more sign
more_action (bracket.List ∷ outer) sign = list_more sign

-- the effect of a lexeme; none where it isn't allowed
abbrev pub action : Next → List Bracket → LexemeKind → Option Action
action next.Value brackets sign = value_action sign
action next.ValueOrEnd brackets sign = list_action sign
action next.Name brackets sign = name_action sign
action next.NameOrEnd brackets sign = object_action sign
action next.Colon brackets sign = colon_action sign
action next.More brackets sign = more_action brackets sign

-- what is allowed first after an open bracket
abbrev pub first_within : Bracket → Next
first_within bracket.Object = next.NameOrEnd
first_within bracket.List = next.ValueOrEnd

-- what is expected, and the open brackets, the innermost first
pub record Standing : Type 0 where
  pub next : Next
  pub brackets : List Bracket

abbrev pub standing : GrammarState → Standing
standing s = record { next = s.next; brackets = s.brackets.items }

abbrev pub tail_of : List Bracket → List Bracket
tail_of [] = []
tail_of (b ∷ outer) = outer

-- the state after a lexeme; at most 127 brackets are open
abbrev pub acted : Standing → Action → Option Standing
acted s (act.Open b) = if nat_lt (length s.brackets) MOST_LEVELS then Some (record { next = first_within b; brackets = b ∷ s.brackets }) else None
acted s act.Close = Some (record { next = next.More; brackets = tail_of s.brackets })
acted s act.Whole = Some (record { next = next.More; brackets = s.brackets })
acted s (act.Then n) = Some (record { next = n; brackets = s.brackets })

abbrev pub acted_by : Standing → Option Action → Option Standing
acted_by s None = None
acted_by s (Some a) = acted s a

-- a lexeme that is a string, a literal name or a number is JSON by itself
abbrev pub is_sound : List ℕ → LexemeKind → Bool
is_sound bytes sign.Text = is_ok (read_text bytes)
is_sound bytes sign.Truth = is_ok (read_text bytes)
is_sound bytes sign.Null = is_ok (read_text bytes)
is_sound bytes sign.Number = is_ok (read_text bytes)
is_sound bytes other = true

abbrev pub step : List ℕ → Standing → List LexemeAt → Option Standing
step bytes s [] = None
step bytes s (m ∷ ms) =
    if is_sound (piece bytes m.at (next_at (length bytes) ms)) m.sign then acted_by s (action s.next s.brackets m.sign) else None

-- at the lexeme, if it isn't allowed there
abbrev pub fault_after : ℕ → Option Standing → (Standing → ℕ) → ℕ
fault_after at None rest = at
fault_after at (Some s) rest = rest s

-- the offset of the first lexeme that isn't allowed where it is, or the text's end
abbrev pub fault_from : List ℕ → Standing → List LexemeAt → ℕ
fault_from bytes s [] = length bytes
fault_from bytes s (m ∷ ms) = fault_after m.at (step bytes s (m ∷ ms)) (λ t. fault_from bytes t ms)

abbrev pub fresh : Standing
fresh = record { next = next.Value; brackets = [] }

abbrev pub fault_at : List ℕ → ℕ
fault_at bytes = fault_from bytes fresh (marks_of bytes)
