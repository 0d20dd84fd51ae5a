use Rattle.std.proofs.Common.{◌≡◌, [], Some, IsUtf8, sym, ap, ◌∙◌, arith, rules}
use Rattle.json.specs.Json.{value}
use Rattle.json.specs.Lex.{tokens}
use Rattle.serde_json.specs.Read.{converted, max_depth}
use Rattle.mds_json.specs.Node.{node_view}
use Rattle.mds_json.specs.Direct.{tree_value, quoted_in}
use Rattle.mds_json.proofs.Agreeing.{read_text-direct, count-direct}
use Rattle.mds_json.proofs.direct.read_direct.Goals as goal

pub returns : goal.returns
returns c =
    let none : c.read.new.reader ≡ [] = search rules in
    let bytes : c.in-Ok.text.now ≡ c.args.bytes.now = search rules in
    let utf8 : IsUtf8 c.args.bytes.now = search rules in
    let start : c.in_ok-reader.reader ≡ tokens c.args.bytes.now = c.in_ok-reader.ensures.ok ∙ ap tokens bytes in
    let read : converted tree_value (value max_depth (tokens c.args.bytes.now)) ≡ Some (node_view c.in_ok-tree.tree, []) =
    ap (λ ts. converted tree_value (value max_depth ts)) (sym start) ∙ c.in_ok-tree.ensures.ok ∙ ap (λ ts. Some (node_view c.in_ok-tree.tree, ts)) none in
    record {
      tree = read_text-direct c.args.bytes.now (node_view c.in_ok-tree.tree) utf8 read;
      quoted = omega (arith, c.in_ok-tree.ensures.counted, ap quoted_in none, ap quoted_in start, count-direct c.args.bytes.now (node_view c.in_ok-tree.tree) read);
    }
