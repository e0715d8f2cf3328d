-- Documents of a difference: lines with headings among them, of this project (the triples are lines of RDF 1.1 N-Triples).
use Rattle.std.specs.Prelude.{ℕ, ◌≡◌, ◌<◌, ◌≤◌, ◌⊎◌, List, [], ◌∷◌, ◌++◌, length, Option, Some, None, IfSome}
use Rattle.cim_words.specs.declared.statement.Statement.{Statement}
use Rattle.nt_text.specs.Document.{lines_of}
use Rattle.nt_text.specs.Grammar.{IsGap}
use Rattle.nt_text.specs.Reading.{nothing, holds, IsReading}
use Rattle.room_words.specs.Differences.{Changes, heading_text, most_bytes, most_listed, written_difference}
use Rattle.room_words.specs.declared.heading.Heading.{Heading}
use Rattle.room_words.specs.declared.heading.Heading.TheVariants as heading

-- A line of a heading: its text, and then spaces and tabs at will.
pub record IsHeading (line : List ℕ) (h : Heading) : Type 0 where
  pub gap : List ℕ
  pub layout : line ≡ heading_text h ++ gap
  pub blank : IsGap gap

-- a line that begins with a percent sign
abbrev pub percent : ℕ
percent = 0x25

abbrev pub IsMarked : List ℕ → Type 0
IsMarked line = (rest : List ℕ) × (line ≡ percent ∷ rest)

-- the place of a heading in the order of headings
abbrev pub rank : Heading → ℕ
rank heading.Header = 1
rank heading.Preconditions = 2
rank heading.Reverse = 3
rank heading.Forward = 4
rank heading.End = 5

-- the heading that came last, if one came, and what was said under the headings so far
pub record Standing : Type 0 where
  pub under : Option Heading
  pub said : Changes

-- before the first line
abbrev pub at_start : Standing
at_start = record { under = None; said = record { header = []; pre = []; rev = []; fwd = [] } }

-- a heading may come where it stands after the heading that came last
abbrev pub MayCome : Option Heading → Heading → Type 0
MayCome under h = IfSome under (λ (last : Heading). rank last < rank h)

-- The list of a heading, and the changes with one more statement in it. Before the first heading and after the last one there is no list.
abbrev pub list_of : Option Heading → Changes → Option (List Statement)
list_of None d = None
list_of (Some heading.Header) d = Some d.header
list_of (Some heading.Preconditions) d = Some d.pre
list_of (Some heading.Reverse) d = Some d.rev
list_of (Some heading.Forward) d = Some d.fwd
list_of (Some heading.End) d = None

abbrev pub with_said : Heading → Statement → Changes → Changes
with_said heading.Header s d = record d { header = d.header ++ s ∷ [] }
with_said heading.Preconditions s d = record d { pre = d.pre ++ s ∷ [] }
with_said heading.Reverse s d = record d { rev = d.rev ++ s ∷ [] }
with_said heading.Forward s d = record d { fwd = d.fwd ++ s ∷ [] }
with_said heading.End s d = d

-- A line leads from one standing to the next in one of three ways: it says nothing, and all is as before; it is a heading that may come;
-- or it holds a statement, which comes last in the list of the heading, where that has room.
pub record Names (line : List ℕ) (before after : Standing) : Type 0 where
  pub named : Heading
  pub is : IsHeading line named
  pub may : MayCome before.under named
  pub leads : after ≡ record { under = Some named; said = before.said }

pub record Adds (line : List ℕ) (before after : Standing) : Type 0 where
  pub last : Heading
  pub statement : Statement
  pub listed : List Statement
  pub under : before.under ≡ Some last
  pub list : list_of before.under before.said ≡ Some listed
  pub room : length listed < most_listed
  pub reads : IsReading line (holds statement)
  pub leads : after ≡ record { under = before.under; said = with_said last statement before.said }

abbrev pub IsLine : List ℕ → Standing → Standing → Type 0
IsLine line before after = (IsReading line nothing × (after ≡ before)) ⊎ (Names line before after ⊎ Adds line before after)

-- lines lead from a standing to another, one after the other
abbrev pub Lead : List (List ℕ) → Standing → Standing → Type 0
Lead [] before after = after ≡ before
Lead (line ∷ lines) before after = (next : Standing) × IsLine line before next × Lead lines next after

-- A document of a difference: its lines lead from the start to the last heading, and neither it nor the written form of what it says is
-- too long.
pub record IsDocument (bytes : List ℕ) (d : Changes) : Type 0 where
  pub short : length bytes ≤ most_bytes
  pub lines : Lead (lines_of bytes) at_start (record { under = Some heading.End; said = d })
  pub written : length (written_difference d) ≤ most_bytes
