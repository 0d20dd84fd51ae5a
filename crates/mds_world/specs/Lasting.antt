-- The policies whose matches rest on published documents alone, and so are final, and what a row matches of them.
use denote.Struct.Props as logic
use Rattle.std.specs.Prelude.{◌≡◌, List, [], Bool, false, map, option_map, Option, Some, None, IfSome, All, slice_index_or}
use Rattle.std.specs.Coded.{Π_prop}
use Rattle.std.specs.List.{list_all}
use Rattle.std.specs.Option.{option_map_or}
use Rattle.mds_policy.specs.Policy.{Policy}
use Rattle.mds_bitmaps.specs.Masks.{matches}
use Rattle.mds_bitmaps.specs.Index as kept
use Rattle.mds_bitmaps.specs.Index.{IsListed}
use Rattle.mds_bitmaps.specs.declared.bitmap_index.IndexedFleet.{IndexedFleet}
use Rattle.mds_fleet.specs.Fleet.{Fits, Fleet, Vehicles}
use Rattle.mds_catalog.specs.Publication.{Publication, find_policy, is_geography_published, published_area}

-- the geographies of all its rules are published
abbrev pub is_placed : List Publication → Policy → Bool
is_placed publications policy = list_all (λ rule. list_all (is_geography_published publications) rule.geographies) policy.rules

-- the policies that are published with their geographies, and for each rule of these whether a row matches it
abbrev pub lasting_in : List Publication → kept.Published
lasting_in publications =
    record {
      lasting = λ id. option_map_or (λ p. is_placed publications p.document) (find_policy publications id) false;
      bits = λ id row. option_map_or (λ p. map (matches (published_area publications) row) p.document.rules) (find_policy publications id) [];
    }

-- the published policy with this one's identifier is this one
abbrev pub IsOfItsId : List Publication → Policy → Type 0
IsOfItsId publications policy = option_map (λ p. p.document) (find_policy publications policy.id) ≡ Some policy

-- that an index is right has one proof at most, so it may be a ghost field
listed_prop : (published : kept.Published) (vehicles : Vehicles) (listed : Option IndexedFleet) → IsProp (IfSome listed (IsListed published vehicles))
listed_prop published vehicles None = Prim.hlevel logic.props
listed_prop published vehicles (Some listed) = Prim.hlevel logic.props

pub fits_prop : (published : kept.Published) (book : Fleet) → IsProp (Fits published book)
fits_prop published book = Π_prop (λ vehicles. Π_prop (λ ordered. Π_prop (λ same. listed_prop published vehicles book.kept.listed)))

pub all_fit_prop : (published : kept.Published) (books : List Fleet) → IsProp (All (Fits published) books)
all_fit_prop published books = Π_prop (λ k. Π_prop (λ d. Π_prop (λ within. fits_prop published (slice_index_or books k d))))
