use Rattle.std.proofs.Common.{◌≡◌, ◌≤◌, ◌++◌, sym, ap, subst, ◌∙◌}
use Rattle.std.proofs.lemmas.List.Elements.{All-from_recursion}
use Rattle.std.specs.List.{All}
use Rattle.mds_text.specs.Printed.{printed}
use Rattle.mds_text.specs.View.{view}
use Rattle.mds_text.proofs.Lines.{IsLine-printed}
use Rattle.mds_text.proofs.print.print_tree.Goals as goal

pub returns-clause-one_line : goal.returns-clause-one_line
returns-clause-one_line c =
    let line = All-from_recursion (λ b. 32 ≤ b) _ (IsLine-printed (view c.args.tree.now)) in
    let text : c.print_value.new.out.items ≡ printed (view c.args.tree.now) =
    c.in_ok-print_value.ensures ∙ ap (λ before. before ++ printed (view c.args.tree.now)) c.new-out.ensures.items in
    subst (λ bytes. All (λ b. 32 ≤ b) bytes) (sym text) line
