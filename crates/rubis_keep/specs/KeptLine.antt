-- The line that says that all that was kept is answered.
use Rattle.std.specs.Prelude.{◌++◌, ◌∷◌, [], ℕ, List, codes, decimal}

-- numbers, the first behind this mark, and each other behind a colon
abbrev pub numbers_behind : List ℕ → List ℕ → List ℕ
numbers_behind mark [] = []
numbers_behind mark (n ∷ more) = mark ++ decimal n ++ numbers_behind (codes ":") more

abbrev pub kept_line : ℕ → List ℕ → List ℕ
kept_line records counts = codes "kept," ++ decimal records ++ numbers_behind (codes ",") counts ++ codes "\n"
