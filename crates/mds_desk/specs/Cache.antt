-- The entries of the response cache.
use Rattle.std.specs.Prelude.{List}
use Rattle.std.specs.List.{All}
use Rattle.mds_catalog.specs.Publication.{Publication}
use Rattle.mds_desk.specs.declared.cache.CachedBody.{CachedBody}
use Rattle.mds_desk.specs.CacheKey.{IsBodyOf}

-- each body is that of its key at this front
abbrev pub AreBodies : List Publication → List CachedBody → Type 0
AreBodies front entries = All (λ e. IsBodyOf front e.key e.body) entries
