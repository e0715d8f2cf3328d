-- Documents that a console stages, of this project: what is kept of one, line by line, and what ends it.
use Rattle.std.specs.Prelude.{ℕ, ◌≡◌, List, [], ◌∷◌, ◌++◌, length, take, drop, Option, Some, None, Bool, ◌&&◌, if◌then◌else◌, nat_lt}
use Rattle.std.specs.List.{flat_map, list_all}
use Rattle.std.specs.Str.{bytes_eq}
use Rattle.cim_words.specs.Written.{line_feed}
use Rattle.difference.specs.Document.{IsDocument}
use Rattle.difference.specs.Faults.{IsFault}
use Rattle.nt_text.specs.Grammar.{is_blank}
use Rattle.room_words.specs.Differences.{Changes, heading_text, most_bytes}
use Rattle.room_words.specs.declared.heading.Heading.TheVariants as heading
use Rattle.room_words.specs.declared.stage_fault.StageFault.{StageFault}
use Rattle.room_words.specs.declared.stage_fault.StageWord.TheVariants as word

-- the bytes of a staged document: each line with a line feed as its end
abbrev pub document_text : List (List ℕ) → List ℕ
document_text = flat_map (λ line. line ++ line_feed ∷ [])

-- whether a document ends with a line: its last heading stands there, with spaces and tabs after it at will
unfoldable pub closes : List ℕ → Bool
closes line =
    bytes_eq (take (length (heading_text heading.End)) line) (heading_text heading.End)
    && list_all is_blank (drop (length (heading_text heading.End)) line)

-- what is kept of a text: all of it, or nothing where it is too long
abbrev pub kept : List ℕ → Option (List ℕ)
kept text = if nat_lt most_bytes (length text) then None else Some text

-- what is kept after one more line
abbrev pub more_kept : Option (List ℕ) → List ℕ → Option (List ℕ)
more_kept None line = None
more_kept (Some text) line = kept (text ++ line ++ line_feed ∷ [])

-- what is kept says a difference, or has a fault
abbrev pub Says : Option (List ℕ) → Changes → Type 0
Says (Some text) d = IsDocument text d
Says None d = ⊥

abbrev pub HasFault : Option (List ℕ) → StageFault → Type 0
HasFault (Some text) bad = IsFault text bad
HasFault None bad = bad ≡ record { line = 0; word = word.TooLong }
