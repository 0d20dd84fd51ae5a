use Rattle.std.proofs.Common.{ℕ, List, ◌++◌, codes, ap, ◌∙◌}
use Rattle.mds_text.specs.Printed.{printed}
use Rattle.cli_vehicles.specs.Published.{bare, or_null, geography_text}
use Rattle.cli_vehicles.proofs.Pieces.{behind}
use Rattle.cli_vehicles.proofs.published.geography_text.Goals as goal

pub returns : goal.returns
unfolding geography_text
returns c =
    let described = behind (or_null printed) (codes "{\"description\":") c.in_ok-push_member.ensures c.new-text.ensures.items c.member_of.ensures in
    let named = behind (or_null printed) (codes ",\"geography_id\":") c.in_ok-push_member-2.ensures described c.member_of-2.ensures in
    let shaped = behind (or_null bare) (codes ",\"geography_json\":") c.in_ok-push_bare_member.ensures named c.member_of-3.ensures in
    let called = behind (or_null printed) (codes ",\"name\":") c.in_ok-push_member-3.ensures shaped c.member_of-4.ensures in
    let dated = behind (or_null printed) (codes ",\"published_date\":") c.in_ok-push_member-4.ensures called c.member_of-5.ensures in
    c.in_ok-extend_from_slice.ensures.items ∙ ap (λ (t : List ℕ). t ++ codes "}") dated
