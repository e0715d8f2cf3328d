-- What contracts see of a link and of a door over TCP. All of it is of this project.
use Rattle.std.specs.Prelude.{ℕ}

-- a link: its stream, and how many faults of reading and of writing there were
pub record LinkState (S : Type 0) : Type 0 where
  pub stream : S
  pub read_faults : ℕ
  pub write_faults : ℕ

-- a door: how many sessions it still gives, and how many faults there were
pub record DoorCounts : Type 0 where
  pub number : ℕ
  pub faults : ℕ
