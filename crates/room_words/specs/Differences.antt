-- Differences between two models (after the reverse, forward and precondition parts of IEC 61970-552), and the text that is written for
-- one, of this project.
use Rattle.std.specs.Prelude.{ℕ, ◌≤◌, List, [], ◌∷◌, ◌++◌, length, codes, Contains}
use Rattle.std.specs.List.{flat_map}
use Rattle.cim_words.specs.Held.{IsStatement}
use Rattle.cim_words.specs.Written.{line_feed, line_limit, written, written_line}
use Rattle.cim_words.specs.declared.statement.Statement.{Statement}
use Rattle.room_words.specs.declared.heading.Heading.{Heading}
use Rattle.room_words.specs.declared.heading.Heading.TheVariants as heading

-- What a difference says: a header, what has to be in the model beforehand, what is taken out of it and what is put into it, each in the
-- order of the document, with its repeats.
pub record Changes : Type 0 where
  pub header : List Statement
  pub pre : List Statement
  pub rev : List Statement
  pub fwd : List Statement

-- what stands on the line of a heading
abbrev pub heading_text : Heading → List ℕ
heading_text heading.Header = codes "%header"
heading_text heading.Preconditions = codes "%preconditions"
heading_text heading.Reverse = codes "%reverse"
heading_text heading.Forward = codes "%forward"
heading_text heading.End = codes "%end"

-- a heading and the statements under it, each on a line that ends with a line feed
abbrev pub written_under : Heading → List Statement → List ℕ
written_under h statements = heading_text h ++ line_feed ∷ flat_map written statements

-- the text of a difference: all five headings, and the statements under the first four
unfoldable pub written_difference : Changes → List ℕ
written_difference d =
    written_under heading.Header d.header ++ written_under heading.Preconditions d.pre ++ written_under heading.Reverse d.rev
    ++ written_under heading.Forward d.fwd ++ written_under heading.End []

-- how many statements each list has at most, and how many bytes a document and the text of a difference have at most
abbrev pub most_listed : ℕ
most_listed = 200000

abbrev pub most_bytes : ℕ
most_bytes = 67108864

-- a list that a difference can have: it is not too long, and the written line of each of its statements is not either
pub record IsListed (listed : List Statement) : Type 0 where
  pub few : length listed ≤ most_listed
  pub possible : (s : Statement) → Contains listed s → IsStatement s
  pub narrow : (s : Statement) → Contains listed s → length (written_line s) ≤ line_limit

-- a difference that there can be
pub record IsDifference (d : Changes) : Type 0 where
  pub header : IsListed d.header
  pub pre : IsListed d.pre
  pub rev : IsListed d.rev
  pub fwd : IsListed d.fwd
  pub short : length (written_difference d) ≤ most_bytes
