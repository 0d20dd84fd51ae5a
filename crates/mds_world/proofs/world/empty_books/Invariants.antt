use Rattle.std.proofs.Common.{◌≡◌, All, map, take}
use Rattle.std.specs.FinMap.{empty}
use Rattle.mds_bitmaps.specs.Index.{Published}
use Rattle.mds_fleet.specs.Fleet.{Fits}
use Rattle.mds_request.specs.Configuration.{operator}
use Rattle.mds_world.proofs.world.empty_books.Given as goal

abbrev pub invariant-loop-operator : goal.invariant-loop-operator
invariant-loop-operator l =
    (map (λ book. book.rows) l.books.items ≡ map (λ o. empty) (map operator (take l.operator-index l.operators)))
    × (map (λ book. book.limit) l.books.items ≡ map (λ o. o.limit) (map operator (take l.operator-index l.operators)))
    × ((published : Published) → All (Fits published) l.books.items)
