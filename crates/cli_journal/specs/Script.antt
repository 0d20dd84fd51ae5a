-- A journal as a script.
use Rattle.std.specs.Prelude.{◌≡◌, ℕ, List, [], ◌∷◌, Some}
use Rattle.mds_request.specs.Configuration.{Configuration}
use Rattle.mds_request.specs.Request.{Request}
use Rattle.journal_entry.specs.Entries.{Entry}
use Rattle.journal_entry.specs.Requests.{request_by}
use Rattle.journal_folder.specs.Script.{request_text}

-- the payloads of a journal's entries: those behind its head
abbrev pub behind_head : List (List ℕ) → List (List ℕ)
behind_head [] = []
behind_head (head ∷ texts) = texts

-- the line of an entry: of its request, with the client's access token of the configuration
abbrev pub IsLineOf : Configuration → Entry → List ℕ → Type 0
IsLineOf configuration entry line = (request : Request) × (request_by configuration entry ≡ Some request) × (line ≡ request_text request)
