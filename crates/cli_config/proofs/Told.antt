-- The message about a limit.
use Rattle.std.proofs.Common.{◌≡◌, ℕ, List, Some, option_map, ap, ◌∙◌}
use Rattle.uuid.specs.Text.{hyphenated_text, lower}
use Rattle.cli_config.specs.declared.limits.Bound.{Bound}
use Rattle.cli_config.specs.declared.limits.Low.{Low}
use Rattle.cli_config.specs.Limits.{low_from, low_limit, low_wording}

pub low_told : (bounds : List Bound) (id written text : List ℕ) (low : Low)
    → Some low ≡ low_from 0 id bounds
    → written ≡ hyphenated_text lower id
    → text ≡ low_wording written low
    → Some text ≡ low_limit bounds id
low_told bounds id written text low found spelled told =
    ap Some (told ∙ ap (λ w. low_wording w low) spelled) ∙ ap (option_map (low_wording (hyphenated_text lower id))) found
