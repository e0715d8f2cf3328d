-- What a link gives and takes, and what a link in memory is. All of it is of this project.
use Rattle.std.specs.Prelude.{◌≡◌, ◌↔◌, ℕ, min, Bool, List, [], ◌++◌, length, drop, Option, Some, IfSome, if◌then◌else◌}
use Rattle.grid_out.specs.Faults.{next_count, count_after, is_listed}
use Rattle.grid_out.specs.Sink.{SinkState}

-- where the link tells what is left to read, it was left before a call too, behind these bytes
abbrev pub TakesOff : Option (List ℕ) → Option (List ℕ) → List ℕ → Type 0
TakesOff old new bytes = IfSome old (λ before. (after : List ℕ) × (new ≡ Some after) × (before ≡ bytes ++ after))

-- where the link tells what is left to read, none was taken exactly where none was left
abbrev pub EndsWhereNoneIsLeft : Option (List ℕ) → ℕ → Type 0
EndsWhereNoneIsLeft old n = IfSome old (λ before. (n ≡ 0) ↔ (before ≡ []))

-- a link in memory: the bytes that are left to read, the numbers of the reads that fail,
-- how many reads and faults of reading there were, and the side that is written to, which is a sink
pub record LinkState : Type 0 where
  pub left : List ℕ
  pub failing : List ℕ
  pub reads : ℕ
  pub faults : ℕ
  pub output : SinkState

-- whether the next read fails: the call is listed
abbrev pub read_fails : LinkState → Bool
read_fails link = is_listed link.failing link.reads

-- how many bytes the next read takes of so much space: none where it fails, else as many as there are
abbrev pub count_taken : LinkState → ℕ → ℕ
count_taken link space = if read_fails link then 0 else min space (length link.left)

-- the link after a read into so much space
abbrev pub after_read : LinkState → ℕ → LinkState
after_read link space =
    record link {
      left = drop (count_taken link space) link.left;
      reads = next_count link.reads;
      faults = count_after link.faults (read_fails link);
    }

-- the link after its other side is what it is now
abbrev pub with_output : LinkState → SinkState → LinkState
with_output link output = record link { output = output }
