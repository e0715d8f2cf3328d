-- What contracts see of the ends of a board.
use Rattle.std.specs.Prelude.{ℕ, List, [], refl, Option, Some}
use Rattle.std.specs.Coded.{Coded, code_by, coded×, coded_ℕ, coded_list, coded_option}
use Rattle.atomic_table.specs.Seated.{TableId, table_id_coded}

-- a reader: its board, its console, where the board's first version began, the list that it has seen, the number that each look found newest, and the version of the last look
pub record ReaderState (V I O : Type 0) : Type 0 where
  pub board : TableId
  pub console : ℕ
  pub origin : Option O
  pub seen : List I
  pub founds : List ℕ
  pub shown : Option V

-- the writer: its board, how many consoles that has, where its first version began, the version published last, and how many were published
pub record WriterState (V O : Type 0) : Type 0 where
  pub board : TableId
  pub consoles : ℕ
  pub origin : Option O
  pub last : V
  pub told : ℕ

-- a note: its board, where the first version began, and what was published
pub record NoteState (I O : Type 0) : Type 0 where
  pub board : TableId
  pub origin : Option O
  pub noted : List I

-- a version and how many consoles there are shares for
pub record CopiesState (V : Type 0) : Type 0 where
  pub version : V
  pub consoles : ℕ

-- each is stored as the tuple of its fields
abbrev pub reader_code : {V I O : Type 0} → Coded V → Coded I → Coded O → Coded (ReaderState V I O)
reader_code {V} {I} {O} cv ci co =
    code_by (TableId × (ℕ × (Option O × (List I × (List ℕ × Option V)))))
    (coded× table_id_coded (coded× coded_ℕ (coded× (coded_option co) (coded× (coded_list ci) (coded× (coded_list coded_ℕ) (coded_option cv))))))
    (λ r. (r.board, (r.console, (r.origin, (r.seen, (r.founds, r.shown))))))
    (λ p. record { board = p.0; console = p.1.0; origin = p.1.1.0; seen = p.1.1.1.0; founds = p.1.1.1.1.0; shown = p.1.1.1.1.1 })
    (λ _. refl)

abbrev pub writer_code : {V O : Type 0} → Coded V → Coded O → Coded (WriterState V O)
writer_code {V} {O} cv co =
    code_by (TableId × (ℕ × (Option O × (V × ℕ)))) (coded× table_id_coded (coded× coded_ℕ (coded× (coded_option co) (coded× cv coded_ℕ))))
    (λ w. (w.board, (w.consoles, (w.origin, (w.last, w.told)))))
    (λ p. record { board = p.0; consoles = p.1.0; origin = p.1.1.0; last = p.1.1.1.0; told = p.1.1.1.1 })
    (λ _. refl)

abbrev pub note_code : {I O : Type 0} → Coded I → Coded O → Coded (NoteState I O)
note_code {I} {O} ci co =
    code_by (TableId × (Option O × List I)) (coded× table_id_coded (coded× (coded_option co) (coded_list ci)))
    (λ n. (n.board, (n.origin, n.noted)))
    (λ p. record { board = p.0; origin = p.1.0; noted = p.1.1 })
    (λ _. refl)

abbrev pub copies_code : {V : Type 0} → Coded V → Coded (CopiesState V)
copies_code {V} cv = code_by (V × ℕ) (coded× cv coded_ℕ) (λ k. (k.version, k.consoles)) (λ p. record { version = p.0; consoles = p.1 }) (λ _. refl)

-- a reader that has not looked yet, of this board and console, with the first version in view
abbrev pub newly_seated : {V I O : Type 0} → TableId → ℕ → List I → O → V → ReaderState V I O
newly_seated board console list origin first = record { board = board; console = console; origin = Some origin; seen = list; founds = []; shown = Some first }
