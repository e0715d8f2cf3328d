use Rattle.std.proofs.Common.{◌≡◌, ◌∷◌, ◌++◌, take}
use Rattle.std.specs.List.{flat_map}
use Rattle.cim_words.specs.Written.{line_feed, written}
use Rattle.room_words.specs.Differences.{heading_text}
use Rattle.difference.proofs.writing.write_under.Given as goal

abbrev pub invariant-loop-statement : goal.invariant-loop-statement
invariant-loop-statement l = l.into.items ≡ (l.fn.into.items ++ heading_text l.fn.heading) ++ line_feed ∷ flat_map written (take l.statement-index l.statements)
