-- What is wrong with the value of `page`.
use Rattle.std.specs.Prelude.{
  ℕ,
  List,
  Bool,
  true,
  false,
  not,
  ◌&&◌,
  codes,
  if◌then◌else◌,
  Option,
  Some,
  None,
  is_some,
  option_and_then,
  Result,
  Ok,
  Err,
}
use Rattle.mds_text.specs.Fault.{Fault}
use Rattle.mds_text.specs.Fields.{find_member, present}
use Rattle.mds_text.specs.Reading.{read_text}
use Rattle.mds_text.specs.Tree.{Json, null, Members}
use Rattle.server_settings.specs.Settings.{caption_in, members_in, most_attribution, most_title, tiles_in, view_in}
use Rattle.server_settings.specs.declared.fault.PageFault.{PageFault}
use Rattle.server_settings.specs.declared.fault.PageFault.TheVariants.{NoObject, Title, View, Tiles, Attribution}

-- a part that is there, where null counts as absent, and isn't read
abbrev pub is_wrong : Option Json → Bool → Bool
is_wrong value is_read = is_some (present value) && not is_read

-- the first part that is wrong
abbrev pub fault_in : Members → Option PageFault
fault_in ms =
    if is_wrong (find_member (codes "title") ms) (is_some (caption_in most_title (find_member (codes "title") ms)))
    then Some Title
    else if is_wrong (find_member (codes "view") ms) (is_some (view_in (find_member (codes "view") ms)))
    then Some View
    else if is_wrong (find_member (codes "tiles") ms) (is_some (tiles_in (find_member (codes "tiles") ms)))
    then Some Tiles
    else if is_wrong (find_member (codes "attribution") ms)
    (is_some (caption_in most_attribution (find_member (codes "attribution") ms)))
    then Some Attribution
    else None

abbrev pub fault_among : Option Members → Option PageFault
fault_among None = Some NoObject
fault_among (Some ms) = fault_in ms

abbrev pub is_null : Json → Bool
is_null null = true
is_null value = false

abbrev pub fault_of : Json → Option PageFault
fault_of value = if is_null value then None else fault_among (members_in value)

-- of a configuration's document
abbrev pub fault_at : Json → Option PageFault
fault_at document = option_and_then fault_of (option_and_then (find_member (codes "page")) (members_in document))

abbrev pub fault_read : Result Json Fault → Option PageFault
fault_read (Ok document) = fault_at document
fault_read (Err fault) = None

-- of its text
abbrev pub page_fault : List ℕ → Option PageFault
page_fault configuration = fault_read (read_text configuration)

-- the rest of a message, after the member's name
abbrev pub fault_wording : PageFault → List ℕ
fault_wording NoObject = codes ": no object"
fault_wording Title = codes ".title: no text of 1 to 100 characters"
fault_wording View =
    codes ".view: no object with lat from -90 to 90, lng from -180 to 180 and a whole zoom from 0 to 22"
fault_wording Tiles = codes ".tiles: no address as https://HOST/{z}/{x}/{y}.png"
fault_wording Attribution = codes ".attribution: no text of 1 to 200 characters"
