-- What the types of the ends keep of their seats.
use Rattle.std.specs.Prelude.{◌≡◌, ℕ, ◌+◌, ◌*◌, ◌<◌, true, false, List, [], ◌∷◌, length, Option, Some, None, All}
use Rattle.atomic_table.specs.Table.{Me}
use Rattle.board.specs.declared.views.Knows.{Knows}
use Rattle.board.specs.declared.views.Sending.{Sending}
use Rattle.board.specs.declared.views.Watching.{Watching}
use Rattle.board.specs.declared.views.Role.TheVariants.{Note, Reader, Writer}
use Rattle.board.specs.Rule.{IsVersion}
use Rattle.board.specs.Views.{sent_at}

-- a reader between two calls, with these looks
abbrev pub watching : ℕ → List ℕ → ℕ → ℕ → Watching
watching console founds slot number = record { console = console; founds = founds; front = slot; number = number; pending = false; ready = true }

-- a reader that found something fresh and has not collected it
abbrev pub pending_at : ℕ → List ℕ → ℕ → ℕ → Watching
pending_at console founds slot number = record { console = console; founds = founds; front = slot; number = number; pending = true; ready = true }

-- the slots in hand, from this console on, all empty
abbrev pub hands : {V : Type 0} → ℕ → List ℕ → List (ℕ × Option V)
hands console [] = []
hands console (slot ∷ slots) = (3 * console + slot, None) ∷ hands (console + 1) slots

module _ {V I O : Type 0} (log : V → List I) (origin : V → O) where
  -- a reader's seat between two calls
  pub record IsWatching (m : Me (Option V) (Knows I O)) (console : ℕ) (founds : List ℕ) (slot number : ℕ) (version : V) : Type 0 where
    pub role : m.0.role ≡ Reader (watching console founds slot number)
    pub settled : m.0.olds ≡ []
    pub small : slot < 3
    pub carried : m.1 ≡ (3 * console + slot, None) ∷ []
    pub is_version : IsVersion log origin m.0.list m.0.origin number version

  -- a reader's seat that has found something fresh and not collected it
  pub record IsPending (m : Me (Option V) (Knows I O)) (console : ℕ) (founds : List ℕ) (slot number : ℕ) (version : V) : Type 0 where
    pub role : m.0.role ≡ Reader (pending_at console founds slot number)
    pub settled : m.0.olds ≡ []
    pub small : slot < 3
    pub carried : m.1 ≡ (3 * console + slot, None) ∷ []
    pub is_version : IsVersion log origin m.0.list m.0.origin number version

  -- the writer's seat between two calls: what was published last was sent to each console
  pub record IsSending (m : Me (Option V) (Knows I O)) (backs : List ℕ) (last : V) : Type 0 where
    pub sending : Sending
    pub role : m.0.role ≡ Writer sending
    pub back : sending.back ≡ backs
    pub small : All (λ slot. slot < 3) backs
    pub sized : length sending.sent ≡ length backs
    pub all_held : sending.held ≡ length backs
    pub all_started : sending.started ≡ length backs
    pub all_sent : (c : ℕ) → c < length backs → sent_at sending c ≡ length m.0.list
    pub settled : m.0.olds ≡ []
    pub carried : m.1 ≡ hands 0 backs
    pub list : m.0.list ≡ log last
    pub began : m.0.origin ≡ Some (origin last)

  -- a note's seat
  pub record IsNote (m : Me (Option V) (Knows I O)) : Type 0 where
    pub role : m.0.role ≡ Note
    pub carried : m.1 ≡ []
