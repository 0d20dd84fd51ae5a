-- What a publisher has published, and whether it may publish more; prefixes of longer lists.
use mathlib.Core.List.{IsPrefix}
use Rattle.std.specs.Prelude.{◌<◌, List, Bool, length, refl}
use Rattle.std.specs.Coded.{Coded, code_by, coded×, coded_bool}
use Rattle.mds_catalog.specs.Publication.{Publication}
use Rattle.mds_snapshot.specs.Codes.{coded_publications}

pub record Publishing : Type 0 where
  pub publications : List Publication
  pub is_open : Bool

pub coded_publishing : Coded Publishing
coded_publishing =
    code_by (List Publication × Bool) (coded× coded_publications coded_bool) (λ p. (p.publications, p.is_open)) (λ t. record { publications = t.0; is_open = t.1 })
    (λ _. refl)

-- a list is a prefix of another, which is longer
abbrev pub IsShorterFront : List Publication → List Publication → Type 0
IsShorterFront front list = IsPrefix front list × (length front < length list)
