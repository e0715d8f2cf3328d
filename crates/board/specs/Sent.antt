-- What a delivery asks of the writer's seat, and what it leaves.
use Rattle.std.specs.Prelude.{◌≡◌, ℕ, ◌+◌, ◌*◌, ◌<◌, List, [], ◌∷◌, ◌++◌, length, take, drop, slice_set, Option, Some, None, All}
use Rattle.atomic_table.specs.Table.{Me, rest}
use Rattle.board.specs.declared.views.Knows.{Knows}
use Rattle.board.specs.declared.views.Sending.{Sending}
use Rattle.board.specs.declared.views.Role.{Role}
use Rattle.board.specs.declared.views.Role.TheVariants.{Writer}
use Rattle.board.specs.Lists.{IsPrefix}
use Rattle.board.specs.Views.{back_at, sent_at}
use Rattle.board.specs.Held.{hands}

-- what was sent after a version of this number went to a console, whose word named this slot
abbrev pub sent_there : Sending → ℕ → ℕ → ℕ → Sending
sent_there p console number slot = record p { sent = slice_set p.sent console number; back = slice_set p.back console slot }

abbrev pub role_sent : ℕ → ℕ → ℕ → Role → Role
role_sent console number slot (Writer p) = Writer (sent_there p console number slot)
role_sent console number slot role = role

-- the writer's view after that
abbrev pub sent_out : {I O : Type 0} → Knows I O → ℕ → List I → ℕ → Knows I O
sent_out v console list slot = record v { role = role_sent console (length list) slot v.role; list = list }

module _ {V I O : Type 0} (log : V → List I) (origin : V → O) where
  -- the writer has its slots and readers at each console, this slot of the console is in hand, and the version begins with what was published
  pub record CanSend (m : Me (Option V) (Knows I O)) (console back : ℕ) (v : V) : Type 0 where
    pub sending : Sending
    pub role : m.0.role ≡ Writer sending
    pub inside : console < length sending.sent
    pub all_held : sending.held ≡ length sending.sent
    pub all_started : sending.started ≡ length sending.sent
    pub back_is : back_at sending console ≡ back
    pub small : back < 3
    pub carried : m.1 ≡ (3 * console + back, None) ∷ rest m.1
    pub begins : IsPrefix m.0.list (log v)
    pub began : m.0.origin ≡ Some (origin v)

  -- the version went to the consoles below k of n
  pub record HasSent (m : Me (Option V) (Knows I O)) (backs : List ℕ) (v : V) (k n : ℕ) : Type 0 where
    pub sending : Sending
    pub role : m.0.role ≡ Writer sending
    pub back : sending.back ≡ backs
    pub long : length backs ≡ n
    pub small : All (λ slot. slot < 3) backs
    pub sized : length sending.sent ≡ n
    pub all_held : sending.held ≡ n
    pub all_started : sending.started ≡ n
    pub sent : (c : ℕ) → c < k → sent_at sending c ≡ length (log v)
    pub settled : m.0.olds ≡ []
    pub carried : m.1 ≡ hands k (drop k backs) ++ hands 0 (take k backs)
    pub begins : IsPrefix m.0.list (log v)
    pub done : 0 < k → m.0.list ≡ log v
    pub began : m.0.origin ≡ Some (origin v)
