-- What the member `page` of a configuration says of the page for people, and the text of it that the page reads.
use Rattle.std.specs.Prelude.{
  ℕ,
  ℤ,
  pos,
  List,
  [],
  ◌∷◌,
  ◌++◌,
  Bool,
  not,
  ◌&&◌,
  nat_le,
  length,
  filter,
  codes,
  if◌then◌else◌,
  Option,
  Some,
  None,
  option_map,
  option_and_then,
  Result,
  Ok,
  Err,
}
use Rattle.mds_geometry.specs.Coordinate.{coordinate_of, most_latitude, most_longitude}
use Rattle.mds_text.specs.Fault.{Fault}
use Rattle.mds_text.specs.Fields.{find_member}
use Rattle.mds_text.specs.Printed.{printed}
use Rattle.mds_text.specs.Reading.{read_text}
use Rattle.mds_text.specs.Tree.{Json, int, text, degrees, object, Members, members_of}
use Rattle.mds_text.specs.declared.field.Field.TheVariants.{Coordinates}
use Rattle.server_settings.specs.Address.{is_address}
use Rattle.server_settings.specs.declared.first_view.FirstView.{FirstView}
use Rattle.server_settings.specs.declared.settings.Settings.{Settings}

-- a byte that begins a character of UTF-8 (RFC 3629, section 3)
abbrev pub begins_char : ℕ → Bool
begins_char b = not (nat_le 128 b && nat_le b 191)

-- the most characters of a title, and of an attribution
abbrev pub most_title : ℕ
most_title = 100

abbrev pub most_attribution : ℕ
most_attribution = 200

-- one character or more, and at most so many
abbrev pub is_caption : ℕ → List ℕ → Bool
is_caption most s = nat_le 1 (length s) && nat_le (length (filter begins_char s)) most

-- the members of an object
abbrev pub members_in : Json → Option Members
members_in (object ms) = Some ms
members_in value = None

abbrev pub caption_in : ℕ → Option Json → Option (List ℕ)
caption_in most (Some (text s)) = if is_caption most s then Some s else None
caption_in most value = None

abbrev pub tiles_in : Option Json → Option (List ℕ)
tiles_in (Some (text s)) = if is_address s then Some s else None
tiles_in value = None

-- degrees, at most so many from zero
abbrev pub taken : Result ℤ Fault → Option ℤ
taken (Ok units) = Some units
taken (Err fault) = None

abbrev pub degrees_in : ℕ → Option Json → Option ℤ
degrees_in most (Some value) = taken (coordinate_of most Coordinates value)
degrees_in most None = None

-- a zoom of Web Mercator: at 0 the world is 256 pixels wide, and twice as wide at each further one
abbrev pub most_zoom : ℕ
most_zoom = 22

abbrev pub zoom_in : Option Json → Option ℕ
zoom_in (Some (int (pos n))) = if nat_le n most_zoom then Some n else None
zoom_in value = None

abbrev pub view_of : Members → Option FirstView
view_of ms =
    option_and_then (λ lat. option_and_then (λ lng. option_map (λ zoom. record { lat = lat; lng = lng; zoom = zoom })
    (zoom_in (find_member (codes "zoom") ms)))
    (degrees_in most_longitude (find_member (codes "lng") ms)))
    (degrees_in most_latitude (find_member (codes "lat") ms))

abbrev pub view_in : Option Json → Option FirstView
view_in value = option_and_then view_of (option_and_then members_in value)

-- what is given
pub record Given : Type 0 where
  pub title : Option (List ℕ)
  pub view : Option FirstView
  pub tiles : Option (List ℕ)
  pub attribution : Option (List ℕ)

abbrev pub given : Settings → Given
given s =
    record {
      title = option_map (λ t. t.now) s.title;
      view = s.view;
      tiles = option_map (λ t. t.now) s.tiles;
      attribution = option_map (λ t. t.now) s.attribution;
    }

-- the members of the value of `page`; a part that is none of its kind counts as absent
abbrev pub given_in : Members → Given
given_in ms =
    record {
      title = caption_in most_title (find_member (codes "title") ms);
      view = view_in (find_member (codes "view") ms);
      tiles = tiles_in (find_member (codes "tiles") ms);
      attribution = caption_in most_attribution (find_member (codes "attribution") ms);
    }

abbrev pub page_in : Option Json → Option Given
page_in value = option_map given_in (option_and_then members_in value)

abbrev pub page_of : Json → Option Given
page_of document = option_and_then (λ ms. page_in (find_member (codes "page") ms)) (members_in document)

abbrev pub page_read : Result Json Fault → Option Given
page_read (Ok value) = page_of value
page_read (Err fault) = None

-- of a configuration's text
abbrev pub settings_of : List ℕ → Option Given
settings_of configuration = page_read (read_text configuration)

-- the page's title, where a configuration gives it one: the city's
abbrev pub title_of : Option Given → Option (List ℕ)
title_of page = option_and_then (λ g. g.title) page

abbrev pub page_title : List ℕ → Option (List ℕ)
page_title configuration = title_of (settings_of configuration)

-- a member with this name, where there is a value
abbrev pub named : List ℕ → Option Json → List (List ℕ × Json)
named name None = []
named name (Some value) = (name, value) ∷ []

abbrev pub view_json : FirstView → Json
view_json v =
    object (members_of
    ((codes "lat", degrees v.lat) ∷ (codes "lng", degrees v.lng) ∷ (codes "zoom", int (pos v.zoom)) ∷ []))

-- the document that the page reads
abbrev pub given_members : Given → List (List ℕ × Json)
given_members g =
    named (codes "city") (option_map text g.title)
    ++ named (codes "view") (option_map view_json g.view)
    ++ named (codes "tiles") (option_map text g.tiles)
    ++ named (codes "attribution") (option_map text g.attribution)

abbrev pub text_of : Given → List ℕ
text_of g = printed (object (members_of (given_members g)))
