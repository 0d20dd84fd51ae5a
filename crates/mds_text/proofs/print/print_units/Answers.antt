use Rattle.std.proofs.Common.{◌++◌, sym, subst, ap, ◌∙◌}
use Rattle.std.proofs.lemmas.Str.{IsUtf8-from_ascii}
use Rattle.std.specs.Str.{IsUtf8}
use Rattle.mds_text.specs.Printed.{printed_degrees}
use Rattle.mds_text.proofs.Printing.{IsAscii-printed}
use Rattle.mds_text.proofs.print.print_units.Goals as goal

pub from_utf8_unchecked-requires : goal.from_utf8_unchecked-requires
from_utf8_unchecked-requires c =
    subst IsUtf8 (sym (c.in_ok-print_degrees.ensures ∙ ap (λ before. before ++ printed_degrees c.args.units) c.new-out.ensures.items))
    (IsUtf8-from_ascii (printed_degrees c.args.units) (IsAscii-printed c.args.units))
