use Rattle.std.proofs.Common.{◌∙◌, ap, sym}
use Rattle.cli_config.specs.Limits.{bounds, low_from}
use Rattle.cli_config.proofs.Told.{low_told}
use Rattle.cli_config.proofs.limits.Limits.too_low.Goals as goal

pub returns-in_ok-low_text-in-Some : goal.returns-in_ok-low_text-in-Some
returns-in_ok-low_text-in-Some c =
    low_told (bounds c.args.self.now) c.args.id _ _ c.in-Some.low (sym c.in-Some.is ∙ c.low_of.ensures ∙ ap (low_from 0 c.args.id) c.as_slice.ensures.value)
    (c.as_str.ensures.value ∙ c.in_ok-id-in-Some.ensures.text) c.in_ok-low_text-in-Some.ensures
