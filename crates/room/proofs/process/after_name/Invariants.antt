use Rattle.std.proofs.Common.{◌≡◌, ◌++◌, drop}
use Rattle.std.specs.Vec.Iter.{into_iter_items}
use Rattle.room.proofs.process.after_name.Given as goal

-- the words so far and what is left are all but the first
abbrev pub invariant-loop-word : goal.invariant-loop-word
invariant-loop-word l = drop 1 (into_iter_items l.fn.args) ≡ l.words.items ++ into_iter_items l.word-iterator
