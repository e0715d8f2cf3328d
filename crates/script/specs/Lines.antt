-- The lines of a script, of this project: each begins with its console.
use Rattle.std.specs.Prelude.{ℕ, ◌≡◌, ◌≤◌, ◌++◌, List, ◌∷◌, length, codes}
use Rattle.std.specs.Fmt.{decimal}
use Rattle.cim_words.specs.Written.{line_limit}
use Rattle.desk.specs.Consoles.{IsConsole}
use Rattle.wire.specs.Words.{space}

-- what stands before a request and before its reply: `c`, the console in decimal, and a space
abbrev pub behind_console : ℕ → List ℕ → List ℕ
behind_console console text = codes "c" ++ decimal console ++ space ∷ text

-- the word by which a console stages a document
abbrev pub stage_word : List ℕ
stage_word = codes "stage"

-- a line that is not too long asks something of a console
pub record Asks (line : List ℕ) (console : ℕ) (request : List ℕ) : Type 0 where
  pub fits : length line ≤ line_limit
  pub is_console : IsConsole console
  pub layout : line ≡ behind_console console request

-- a line that is not too long names no console
pub record NamesNoConsole (line : List ℕ) : Type 0 where
  pub fits : length line ≤ line_limit
  pub none : (console : ℕ) (request : List ℕ) → IsConsole console → line ≡ behind_console console request → ⊥
