use Rattle.std.proofs.Common.{◌≡◌, map, take}
use Rattle.server_page.specs.declared.tagged_file.TaggedFile.{TaggedFile}
use Rattle.server_page.proofs.page.tag_files.Given as goal

-- a tagged file for each file before this one
abbrev pub invariant-loop-file : goal.invariant-loop-file
invariant-loop-file l = map (λ (leaf : TaggedFile). leaf.file) l.leaves.items ≡ take l.file-index l.files
