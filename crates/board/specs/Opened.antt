-- The writer's seat while a board is opened.
use Rattle.std.specs.Prelude.{ℕ, List, [], length, replicate, Option, Some}
use Rattle.atomic_table.specs.Table.{Me}
use Rattle.board.specs.declared.views.Knows.{Knows}
use Rattle.board.specs.declared.views.Sending.{Sending}
use Rattle.board.specs.declared.views.Role.TheVariants.{Writer}
use Rattle.board.specs.Held.{hands}

-- what is known of n consoles where the writer has its slot of some, and some have a reader, and nothing was published yet
abbrev pub opening_sending : ℕ → ℕ → ℕ → ℕ → Sending
opening_sending n held started number = record { sent = replicate n number; back = replicate n 0; held = held; started = started }

-- the seat that knows that
abbrev pub opening_seat : {V I O : Type 0} → ℕ → ℕ → ℕ → List I → O → Me (Option V) (Knows I O)
opening_seat n held started list origin = (record { role = Writer (opening_sending n held started (length list)); list = list; olds = []; origin = Some origin }, hands 0 (replicate held 0))
