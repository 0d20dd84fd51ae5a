use Rattle.std.proofs.Common.{◌∙◌, ap, length, option_map, refl, slice_get, sym, arith}
use Rattle.std.proofs.lemmas.List.{length-map}
use Rattle.std.proofs.lemmas.Option.{same_Some, slice_get-map, slice_get_read, slice_get_within}
use Rattle.server_page.specs.File.{files}
use Rattle.server_page.specs.declared.tagged_file.TaggedFile.{TaggedFile}
use Rattle.server_page.proofs.page.Page.tagged_file.Goals as goal

pub returns : goal.returns
returns c =
    let leaves = c.args.self.now.leaves.items in
    let i = c.index-index.result in
    let leaf = c.index.result.now in
    let as_many = ap length c.args.self.now.whole in
    let within = slice_get_within files i c.args.file c.index-index.ensures in
    let there = slice_get_read leaves (length leaves) i leaf refl (omega (arith, length-map leaves (λ (it : TaggedFile). it.file))) c.index.ensures in
    same_Some leaf.file c.args.file
    (ap (option_map (λ (it : TaggedFile). it.file)) (sym there)
    ∙ (sym (slice_get-map (λ (it : TaggedFile). it.file) leaves i) ∙ (ap (λ fs. slice_get fs i) c.args.self.now.whole ∙ c.index-index.ensures)))
