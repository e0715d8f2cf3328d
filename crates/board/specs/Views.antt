-- The views of the seats: how they begin, and how they are cut and joined.
use Rattle.std.specs.Prelude.{ℕ, ◌+◌, false, cond, List, [], ◌∷◌, ◌++◌, length, replicate, slice_index, Some, None}
use Rattle.board.specs.declared.views.Knows.{Knows}
use Rattle.board.specs.declared.views.Old.{Old}
use Rattle.board.specs.declared.views.Sending.{Sending}
use Rattle.board.specs.declared.views.Watching.{Watching}
use Rattle.board.specs.declared.views.Role.{Role}
use Rattle.board.specs.declared.views.Role.TheVariants.{Spent, Reader, Writer}
use Rattle.board.specs.Lists.{longer}
use Rattle.board.specs.Word.{is_fresh, number_in}

-- the number that was sent to a console last
abbrev pub sent_at : Sending → ℕ → ℕ
sent_at p console = slice_index p.sent console

-- the slot of a console that the writer has
abbrev pub back_at : Sending → ℕ → ℕ
back_at p console = slice_index p.back console

-- the number that is newest at a reader's console: the word's where it is fresh, else that of the version which the reader has
abbrev pub newest : ℕ → Watching → ℕ
newest word r = cond (is_fresh word) (number_in word) r.number

-- a reader that has looked, and found this word
abbrev pub looked : ℕ → Watching → Watching
looked word r = record r { founds = r.founds ++ newest word r ∷ []; pending = is_fresh word }

-- what each look of a reader found newest
abbrev pub founds_of : Role → List ℕ
founds_of (Reader r) = r.founds
founds_of _ = []

-- how many consoles have a reader, by the writer's role
abbrev pub started_of : Role → ℕ
started_of (Writer p) = p.started
started_of _ = 0

-- one reader more
abbrev pub one_more : Role → Role
one_more (Writer p) = Writer (record p { started = p.started + 1 })
one_more role = role

module _ {I O : Type 0} where
  -- the writer's view when the table is made, for n consoles
  abbrev pub opened : ℕ → List I → O → Knows I O
  opened n list origin = record { role = Writer (record { sent = replicate n (length list); back = replicate n 0; held = 0; started = 0 }); list = list; olds = []; origin = Some origin }

  -- the view of the next reader, which has seen the first version and has not looked
  abbrev pub newcomer : Knows I O → Knows I O
  newcomer v = record v { role = Reader (record { console = started_of v.role; founds = []; front = 1; number = length v.list; pending = false; ready = false }); olds = [] }

  -- the same view in the writer's role, and in a reader's
  abbrev pub as_writer : Knows I O → Sending → Knows I O
  as_writer v p = record v { role = Writer p }

  abbrev pub as_reader : Knows I O → Watching → Knows I O
  as_reader v r = record v { role = Reader r }

  -- what is split off a view to be joined to another: its list and where that began
  abbrev pub with_role : Role → Knows I O → Knows I O
  with_role role v = record v { role = role; olds = [] }

  -- what is kept aside of a joined view
  abbrev pub old_of : Knows I O → Old I O
  old_of v = record { list = v.list; origin = v.origin }

  -- a reader's view that a note was joined to
  abbrev pub informed : Knows I O → Knows I O → Knows I O
  informed v note = record v { list = longer v.list note.list; olds = v.olds ++ old_of v ∷ old_of note ∷ [] }

  -- the writer's view that a copy of a reader's was joined to
  abbrev pub compared : Knows I O → Knows I O → Knows I O
  compared v copy = record v { olds = v.olds ++ old_of copy ∷ [] }

  -- what a joined seat is left with
  abbrev pub spent : Knows I O
  spent = record { role = Spent; list = []; olds = []; origin = None }

  -- what was kept aside has been compared
  abbrev pub settled : Knows I O → Knows I O
  settled v = record v { olds = [] }
