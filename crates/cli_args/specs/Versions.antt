-- The line that `--version` prints.
use Rattle.std.specs.Prelude.{ℕ, List, [], ◌∷◌, ◌++◌, codes}

-- the commit in brackets, where it is known
abbrev pub commit_part : List ℕ → List ℕ
commit_part [] = []
commit_part (byte ∷ bytes) = codes " (" ++ (byte ∷ bytes) ++ codes ")"

abbrev pub version_line : (version commit : List ℕ) → List ℕ
version_line version commit = codes "ruffletuff " ++ version ++ commit_part commit
