-- The payload of an entry: an accepted request, with its client in place of the access token.
use Rattle.std.specs.Prelude.{◌≡◌, ℕ, ◌≤◌, List, [], ◌∷◌, ◌++◌, length, Some}
use Rattle.std.specs.Int.{w32, w64, to_be_bytes}
use Rattle.uuid.specs.Text.{hyphenated_text, lower, parsed}
use Rattle.mds_text.specs.Fields.{last_moment}
use Rattle.journal_entry.specs.declared.entry.EntryClient.{EntryClient}
use Rattle.journal_entry.specs.declared.entry.EntryClient.TheVariants.{Author, Operator}
use Rattle.journal_entry.specs.declared.entry.JournalEntry.{JournalEntry as Lent}
use Rattle.journal_entry.specs.declared.entry.TheConstants.{ENTRY, MOST_TARGET}
use Rattle.journal_entry.specs.declared.encoding.TheConstants.{BY_AUTHOR, BY_OPERATOR}
use Rattle.mds_request.specs.declared.request.Verb.{Verb}
use Rattle.mds_request.specs.declared.request.Verb.TheVariants.{Get, Put, Post, Delete, Other}
use Rattle.mds_request.specs.declared.call.TheConstants.{MOST_BODY}

pub record Entry : Type 0 where
  pub client : EntryClient
  -- the moment at which the request was answered
  pub at : ℕ
  pub verb : Verb
  pub target : List ℕ
  pub body : List ℕ

-- the entry of a `JournalEntry` in the code
abbrev pub entry_of : Lent → Entry
entry_of e = record { client = e.client; at = e.at; verb = e.verb; target = e.target.now; body = e.body.now }

-- a moment's milliseconds in eight bytes, and a length in four, both big-endian
unfoldable pub moment_text : ℕ → List ℕ
moment_text at = to_be_bytes w64 at

unfoldable pub size_text : ℕ → List ℕ
size_text size = to_be_bytes w32 size

-- an identifier's spelling (RFC 9562, section 4), with lowercase letters
unfoldable pub id_text : List ℕ → List ℕ
id_text id = hyphenated_text lower id

abbrev pub verb_code : Verb → ℕ
verb_code Get = 1
verb_code Put = 2
verb_code Post = 3
verb_code Delete = 4
verb_code Other = 5

-- the client: a byte, and an operator's identifier
abbrev pub client_text : EntryClient → List ℕ
client_text Author = BY_AUTHOR ∷ []
client_text (Operator id) = BY_OPERATOR ∷ id_text id

-- the moment, the method, the client, the target after its length, and the body
abbrev pub fields_text : Entry → List ℕ
fields_text e =
    moment_text e.at ++ (verb_code e.verb ∷ (client_text e.client ++ (size_text (length e.target) ++ (e.target ++ e.body))))

-- an entry's payload: the layout's version, and the fields
abbrev pub entry_text : Entry → List ℕ
entry_text e = ENTRY ∷ fields_text e

-- an identifier that its spelling reads as
abbrev pub IsId : List ℕ → Type 0
IsId id = parsed (hyphenated_text lower id) ≡ Some id

abbrev pub IsClient : EntryClient → Type 0
IsClient Author = Unit {0}
IsClient (Operator id) = IsId id

-- the target and the body are within their limits
pub record IsShort (e : Entry) : Type 0 where
  pub target : length e.target ≤ MOST_TARGET
  pub body : length e.body ≤ MOST_BODY

pub record IsEntry (e : Entry) : Type 0 where
  pub client : IsClient e.client
  pub at : e.at ≤ last_moment
  pub short : IsShort e
