-- The text of a check, of this project.
use Rattle.std.specs.Prelude.{ℕ, List, [], ◌∷◌, ◌++◌, codes}
use Rattle.std.specs.Fmt.{decimal}
use Rattle.cim_words.specs.Written.{line_feed}

-- `ok` and the number of different statements
abbrev pub check_text : ℕ → List ℕ
check_text count = codes "ok " ++ decimal count ++ line_feed ∷ []
