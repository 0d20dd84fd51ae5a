-- What a browser may load for the page (Content Security Policy Level 3).
use Rattle.std.specs.Prelude.{ℕ, List, [], ◌++◌, codes, Option, Some, None}
use Rattle.server_settings.specs.Address.{origin_of}
use Rattle.server_settings.specs.Settings.{Given, settings_of}

-- a further source of pictures: the origin of the tiles
abbrev pub tile_source : Option (List ℕ) → List ℕ
tile_source None = []
tile_source (Some address) = codes " " ++ origin_of address

-- The page has no script and no style inside it. Pictures come from the same origin, from inside the page (`data:`),
-- and from the origin of the tiles, where there are tiles.
abbrev pub policy_for : Option (List ℕ) → List ℕ
policy_for tiles =
    codes "default-src 'none'; script-src 'self'; worker-src 'self'; style-src 'self'; img-src 'self' data:"
    ++ tile_source tiles
    ++ codes "; connect-src 'self'; form-action 'none'; base-uri 'none'; frame-ancestors 'none'"

abbrev pub policy_given : Option Given → List ℕ
policy_given None = policy_for None
policy_given (Some given) = policy_for given.tiles

-- of a configuration's text
abbrev pub policy_of : List ℕ → List ℕ
policy_of configuration = policy_given (settings_of configuration)
