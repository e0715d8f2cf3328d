-- Lines of words, of this project.
use Rattle.std.specs.Prelude.{ℕ, List, [], ◌∷◌, ◌++◌, Bool, ◌==◌}
use Rattle.std.specs.List.{slice_split}
use Rattle.cim_words.specs.Written.{line_feed}

abbrev pub space : ℕ
space = 0x20

abbrev pub is_space : ℕ → Bool
is_space byte = byte == space

-- The words of a line: what stands between single spaces. Two spaces in a row have an empty word between them.
unfoldable pub words_of : List ℕ → List (List ℕ)
words_of line = slice_split is_space line

-- words in their order, each after a space
abbrev pub spaced : List (List ℕ) → List ℕ
spaced [] = []
spaced (word ∷ words) = space ∷ word ++ spaced words

-- words as a text, with a space between each two, and as a line that ends with a line feed
abbrev pub words_text : List ℕ → List (List ℕ) → List ℕ
words_text first words = first ++ spaced words

abbrev pub words_line : List ℕ → List (List ℕ) → List ℕ
words_line first words = words_text first words ++ line_feed ∷ []
