-- What each step on the table tells the seat that takes it. m is the seat before, m' the seat after, and found the word.
use Rattle.std.specs.Prelude.{◌≡◌, ℕ, ◌+◌, ◌*◌, ◌^◌, ◌<◌, ◌≤◌, true, false, List, ◌∷◌, length, slice_set, Option, Some, None}
use Rattle.atomic_table.specs.Table.{Me, Step, rest}
use Rattle.board.specs.declared.views.Knows.{Knows}
use Rattle.board.specs.declared.views.Sending.{Sending}
use Rattle.board.specs.declared.views.Watching.{Watching}
use Rattle.board.specs.declared.views.Role.TheVariants.{Reader, Writer}
use Rattle.board.specs.Lists.{IsPrefix, last_or}
use Rattle.board.specs.Word.{slot_in, number_in}
use Rattle.board.specs.Views.{back_at, newest, looked, as_writer, as_reader, settled}
use Rattle.board.specs.Rule.{AreOlds}

module _ {V I O : Type 0} where
  -- the writer takes its slot of a console
  abbrev pub claims : Step (Option V) → Me (Option V) (Knows I O) → ℕ → Me (Option V) (Knows I O) → Type 0
  claims st m found m' = (p : Sending) → m.0.role ≡ Writer p → m' ≡ (as_writer m.0 (record p { held = p.held + 1 }), (3 * st.word + back_at p st.word, None) ∷ m.1)

  -- a reader takes its slot
  abbrev pub arms : Step (Option V) → Me (Option V) (Knows I O) → ℕ → Me (Option V) (Knows I O) → Type 0
  arms st m found m' = (r : Watching) → m.0.role ≡ Reader r → m' ≡ (as_reader m.0 (record r { ready = true }), (3 * r.console + r.front, None) ∷ m.1)

  -- a reader gives its slot back
  abbrev pub leaves : Step (Option V) → Me (Option V) (Knows I O) → ℕ → Me (Option V) (Knows I O) → Type 0
  leaves st m found m' = (r : Watching) → m.0.role ≡ Reader r → m' ≡ (as_reader m.0 (record r { ready = false }), rest m.1)

  -- a reader looks: what is newest is at least all that it has seen
  abbrev pub looks : Step (Option V) → Me (Option V) (Knows I O) → ℕ → Me (Option V) (Knows I O) → Type 0
  looks st m found m' = (r : Watching) → m.0.role ≡ Reader r → (m' ≡ (as_reader m.0 (looked found r), m.1)) × (length m.0.list ≤ newest found r)

  -- what was joined to the view is where its list begins
  abbrev pub settles : Step (Option V) → Me (Option V) (Knows I O) → ℕ → Me (Option V) (Knows I O) → Type 0
  settles st m found m' = (m' ≡ (settled m.0, m.1)) × AreOlds m.0.list m.0.origin m.0.olds

module _ {V I O : Type 0} (log : V → List I) (origin : V → O) where
  -- a reader that found something fresh gives its slot for the word's, where a version lies that begins with all that it has seen
  pub record Collected (m : Me (Option V) (Knows I O)) (r : Watching) (found : ℕ) (m' : Me (Option V) (Knows I O)) : Type 0 where
    pub version : V
    pub after : m' ≡ (record (as_reader m.0 (record r { front = slot_in found; number = number_in found; pending = false })) { list = log version }, (3 * r.console + slot_in found, Some version) ∷ rest m.1)
    pub begins : IsPrefix m.0.list (log version)
    pub numbered : length (log version) ≡ number_in found
    pub began_there : m.0.origin ≡ Some (origin version)
    pub as_found : last_or 0 r.founds ≤ number_in found
    pub narrow : number_in found < 2 ^ 32
    pub slot : slot_in found < 3

  abbrev pub collects : Step (Option V) → Me (Option V) (Knows I O) → ℕ → Me (Option V) (Knows I O) → Type 0
  collects st m found m' = (r : Watching) → m.0.role ≡ Reader r → Collected m r found m'

  -- the writer gives its slot of a console, with a version, for the word's slot
  pub record Delivered (m : Me (Option V) (Knows I O)) (p : Sending) (c : ℕ) (v : V) (found : ℕ) (m' : Me (Option V) (Knows I O)) : Type 0 where
    pub left : Option V
    pub slot : slot_in found < 3
    pub after : m' ≡ (record (as_writer m.0 (record p { sent = slice_set p.sent c (length (log v)); back = slice_set p.back c (slot_in found) })) { list = log v }, (3 * c + slot_in found, left) ∷ rest m.1)

  abbrev pub delivers : Step (Option V) → Me (Option V) (Knows I O) → ℕ → Me (Option V) (Knows I O) → Type 0
  delivers st m found m' = (p : Sending) (k : ℕ) (v : V) → m.0.role ≡ Writer p → m.1 ≡ (k, Some v) ∷ rest m.1 → Delivered m p st.word v found m'
