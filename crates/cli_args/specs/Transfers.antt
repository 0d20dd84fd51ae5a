-- What `import` and `export` ask for.
use Rattle.std.specs.Prelude.{ℕ, ◌-◌, Bool, false, List, [], ◌∷◌, length, take, drop, map, bytes_eq, codes, string_bytes, option_map, if◌then◌else◌, Option, Some, None}
use Rattle.cli_args.specs.Options.{value_of, are_options, leading_count}
use Rattle.cli_args.specs.declared.transfers.TokenSource.{TokenSource}
use Rattle.cli_args.specs.declared.transfers.TokenSource.TheVariants.{Argument, File}
use Rattle.cli_args.specs.declared.transfers.Destination.{Destination}
use Rattle.cli_args.specs.declared.transfers.Import.{Import}
use Rattle.cli_args.specs.declared.transfers.Transfer.{Transfer}
use Rattle.cli_args.specs.declared.transfers.Transfer.TheVariants.{Policies, Status, Published}

-- an access token: an argument itself, or in the file of this path
pub data Token : Type 0 where
  argument : (token : List ℕ) → Token
  in_file : (path : List ℕ) → Token

-- an import or an export: files are sent to an address by an access token, or to nobody in a dry run; or what is
-- published at an address is written into a folder
pub data Job : Type 0 where
  policies : (files : List (List ℕ)) → (destination : Option (List ℕ × Token)) → Job
  status : (files : List (List ℕ)) → (destination : Option (List ℕ × Token)) → Job
  published : (folder : List ℕ) → (source : List ℕ × Token) → Job

-- the last argument is `--dry-run`
abbrev pub is_dry : List (List ℕ) → Bool
is_dry [] = false
is_dry (word ∷ []) = bytes_eq word (codes "--dry-run")
is_dry (word ∷ next ∷ words) = is_dry (next ∷ words)

-- the token behind `--token` or the file behind `--token-file`, where exactly one of both is given
abbrev pub token_with : (token path : Option (List ℕ)) → Option Token
token_with (Some token) None = Some (argument token)
token_with None (Some path) = Some (in_file path)
token_with token path = None

abbrev pub token_source : List (List ℕ) → Option Token
token_source words = token_with (value_of (codes "--token") words) (value_of (codes "--token-file") words)

-- an address and an access token, where both are given
abbrev pub place_with : Option (List ℕ) → Option Token → Option (List ℕ × Token)
place_with (Some address) (Some token) = Some (address, token)
place_with address token = None

-- the server that options name: its address behind this one, its access token behind `--token` or in the file behind
-- `--token-file`
abbrev pub place_in : List ℕ → List (List ℕ) → Option (List ℕ × Token)
place_in name words =
    if are_options (name ∷ codes "--token" ∷ codes "--token-file" ∷ []) words
    then place_with (value_of name words) (token_source words)
    else None

-- a dry run, where the other options are none at all or name a server
abbrev pub dry_with : List (List ℕ) → Option (List ℕ × Token) → Option (Option (List ℕ × Token))
dry_with [] place = Some None
dry_with words (Some place) = Some None
dry_with words None = None

-- where files are sent: to nobody with `--dry-run` as the last argument
abbrev pub destination_in : List (List ℕ) → Option (Option (List ℕ × Token))
destination_in words =
    if is_dry words then (let rest = take (length words - 1) words in dry_with rest (place_in (codes "--to") rest))
    else option_map Some (place_in (codes "--to") words)

-- files, of which there is one at least, and where they are sent
abbrev pub sent : (List (List ℕ) → Option (List ℕ × Token) → Job) → List (List ℕ) → Option (Option (List ℕ × Token)) → Option Job
sent job [] destination = None
sent job files None = None
sent job files (Some destination) = Some (job files destination)

abbrev pub sent_by : (List (List ℕ) → Option (List ℕ × Token) → Job) → List (List ℕ) → Option Job
sent_by job words = sent job (take (leading_count words) words) (destination_in (drop (leading_count words) words))

-- what `import` asks for, with a kind of file and further arguments
abbrev pub import_of : List ℕ → List (List ℕ) → Option Job
import_of kind words =
    if bytes_eq kind (codes "policies") then sent_by policies words
    else (if bytes_eq kind (codes "status") then sent_by status words else None)

-- what `export` asks for, with a folder and options
abbrev pub export_of : List ℕ → List (List ℕ) → Option Job
export_of folder words = option_map (published folder) (place_in (codes "--from") words)

-- what a verb asks for, with its first argument and those behind it
abbrev pub errand_of : List ℕ → List ℕ → List (List ℕ) → Option Job
errand_of verb name words =
    if bytes_eq verb (codes "import") then import_of name words
    else (if bytes_eq verb (codes "export") then export_of name words else None)

abbrev pub token_view : TokenSource → Token
token_view (Argument token) = argument token.now
token_view (File path) = in_file path.now

abbrev pub place_view : Destination → List ℕ × Token
place_view d = (d.address.now, token_view d.token)

abbrev pub import_view : (List (List ℕ) → Option (List ℕ × Token) → Job) → Import → Job
import_view job i = job (map string_bytes i.files.now) (option_map place_view i.destination)

abbrev pub errand_view : Transfer → Job
errand_view (Policies i) = import_view policies i
errand_view (Status i) = import_view status i
errand_view (Published e) = published e.folder.now (place_view e.source)
