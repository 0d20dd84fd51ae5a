-- Which files are opened to be read.
use Rattle.std.specs.Prelude.{ℕ, List, take, Bool, ◌||◌, bytes_eq, codes}

-- standard input, or another file that the program was given open
abbrev pub is_given_open : (path : List ℕ) → Bool
is_given_open path = bytes_eq path (codes "/dev/stdin") || bytes_eq (take 8 path) (codes "/dev/fd/")

-- a regular file, or one that was given open: no FIFO, socket, device or folder by a path of its
-- own
abbrev pub is_opened : (path : List ℕ) → (is_regular : Bool) → Bool
is_opened path is_regular = is_regular || is_given_open path
