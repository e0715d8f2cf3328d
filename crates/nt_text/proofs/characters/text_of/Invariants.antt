use Rattle.std.proofs.Common.{length}
use Rattle.std.specs.String.{string_bytes}
use Rattle.nt_text.proofs.SpelledReads.{IsReadTo}
use Rattle.nt_text.proofs.characters.text_of.Given as goal

-- the text so far is read, and the rest is not yet
abbrev pub invariant-loop-front : goal.invariant-loop-front
invariant-loop-front l = IsReadTo l.coding l.spelled (string_bytes l.text) l.rest

abbrev pub decreases-loop-front : goal.decreases-loop-front
decreases-loop-front l = length l.rest
