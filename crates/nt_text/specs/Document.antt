-- Documents: bytes that fall into lines, each read for itself (RDF 1.1 N-Triples, section 2; the ends of lines are this project's).
use Rattle.std.specs.Prelude.{ℕ, ◌+◌, ◌≡◌, ◌⊎◌, List, [], ◌∷◌, ◌++◌, length, Bool, true, false, if◌then◌else◌, ◌==◌}
use Rattle.cim_words.specs.Written.{line_feed, carriage_return}
use Rattle.cim_words.specs.declared.statement.Statement.{Statement}
use Rattle.nt_text.specs.Reading.{nothing, holds, refused, IsReading}
use Rattle.nt_text.specs.declared.refusal.LineRefusal.{LineRefusal}

-- The bytes with each end of a line as one line feed. A line ends at LF, at CR LF, or at a CR that no LF follows: an LF right
-- after a CR belongs to the end that the CR began. The first argument says whether a CR stands right before the bytes.
abbrev pub feeds_after : Bool → List ℕ → List ℕ
feeds_after return [] = []
feeds_after return (byte ∷ bytes) =
    if byte == carriage_return then line_feed ∷ feeds_after true bytes
    else if byte == line_feed then (if return then feeds_after false bytes else line_feed ∷ feeds_after false bytes)
    else byte ∷ feeds_after false bytes

-- a byte at the front of the first line
abbrev pub at_front : ℕ → List (List ℕ) → List (List ℕ)
at_front byte [] = (byte ∷ []) ∷ []
at_front byte (line ∷ lines) = (byte ∷ line) ∷ lines

-- what stands before each line feed, and a rest if it has bytes
abbrev pub cut_at_feeds : List ℕ → List (List ℕ)
cut_at_feeds [] = []
cut_at_feeds (byte ∷ bytes) = if byte == line_feed then [] ∷ cut_at_feeds bytes else at_front byte (cut_at_feeds bytes)

-- the lines of a document, without their ends
unfoldable pub lines_of : List ℕ → List (List ℕ)
lines_of bytes = cut_at_feeds (feeds_after false bytes)

-- the lines hold these statements, in order, and say nothing else
abbrev pub AreRead : List (List ℕ) → List Statement → Type 0
AreRead [] statements = statements ≡ []
AreRead (line ∷ lines) statements =
    (IsReading line nothing × AreRead lines statements)
    ⊎ ((s : Statement) × (rest : List Statement) × IsReading line (holds s) × (statements ≡ s ∷ rest) × AreRead lines rest)

-- the bytes are a document of these statements
abbrev pub IsDocument : List ℕ → List Statement → Type 0
IsDocument bytes statements = AreRead (lines_of bytes) statements

-- the first bad line of a document, counted from 1, why it is refused, and the statements of the lines before it
pub record IsBadDocument (bytes : List ℕ) (number : ℕ) (why : LineRefusal) (found : List Statement) : Type 0 where
  pub before : List (List ℕ)
  pub bad : List ℕ
  pub after : List (List ℕ)
  pub lines : lines_of bytes ≡ before ++ bad ∷ after
  pub counted : number ≡ length before + 1
  pub read : AreRead before found
  pub refuses : IsReading bad (refused why)

-- reading stopped within a document, and these are the statements of the lines before
pub record IsStopped (bytes : List ℕ) (found : List Statement) : Type 0 where
  pub before : List (List ℕ)
  pub after : List (List ℕ)
  pub lines : lines_of bytes ≡ before ++ after
  pub read : AreRead before found
