-- Named contents, as the list of pairs of a name's bytes and a content's bytes. All of it is of this project.
use Rattle.std.specs.Prelude.{ℕ, ◌==◌, List, [], ◌∷◌, Option, Some, None, if◌then◌else◌}
use Rattle.std.specs.Cmp.Lexicographic.{pointwise}

-- what the first file of this name contains, where there is one
abbrev pub content_of : List (List ℕ × List ℕ) → List ℕ → Option (List ℕ)
content_of [] name = None
content_of (file ∷ rest) name =
    if pointwise ◌==◌ file.0 name then Some file.1 else content_of rest name
