-- The turns of a script, of this project: each line that asks something, with the document that it stages.
use Rattle.std.specs.Prelude.{ℕ, List, [], ◌∷◌, ◌++◌, Option, Some, None, Bool, true, ◌==◌, if◌then◌else◌}
use Rattle.std.specs.List.{list_any, range_with_len}
use Rattle.std.specs.Str.{bytes_eq}
use Rattle.desk.specs.Consoles.{most_consoles}
use Rattle.nt_text.specs.Document.{lines_of}
use Rattle.script.specs.Lines.{behind_console, stage_word}
use Rattle.staging.specs.Documents.{closes}

-- whether a line says nothing: it is empty, or begins with `#`
abbrev pub is_skipped : List ℕ → Bool
is_skipped [] = true
is_skipped (byte ∷ _) = byte == 0x23

-- the consoles, and the line by which one of them stages a document
abbrev pub consoles : List ℕ
consoles = range_with_len 1 most_consoles

abbrev pub stage_line : ℕ → List ℕ
stage_line console = behind_console console (stage_word)

-- whether a document begins after a line: a console stages one
unfoldable pub opens : List ℕ → Bool
opens line = list_any (λ console. bytes_eq line (stage_line console)) consoles

-- a line that asks something, and the lines of the document after it
pub record Turn : Type 0 where
  pub line : List ℕ
  pub document : List (List ℕ)

abbrev pub alone : List ℕ → Turn
alone line = record { line = line; document = [] }

abbrev pub with_line : Turn → List ℕ → Turn
with_line turn line = record { line = turn.line; document = turn.document ++ line ∷ [] }

-- The turns in lines, the first of which may stand within a document that a turn before them began. Outside a document lines that say
-- nothing are skipped; a document goes on to the line that ends it, or else to the last line.
abbrev pub turns_from : Option Turn → List (List ℕ) → List Turn
turns_from None [] = []
turns_from None (line ∷ lines) =
    if is_skipped line then turns_from None lines
    else if opens line then turns_from (Some (alone line)) lines
    else alone line ∷ turns_from None lines
turns_from (Some begun) [] = begun ∷ []
turns_from (Some begun) (line ∷ lines) =
    if closes line then with_line begun line ∷ turns_from None lines else turns_from (Some (with_line begun line)) lines

-- the turns of a script
abbrev pub turns_of : List ℕ → List Turn
turns_of script = turns_from None (lines_of script)
