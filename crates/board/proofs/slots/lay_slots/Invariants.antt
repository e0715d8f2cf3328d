use Rattle.std.proofs.Common.{◌≡◌}
use Rattle.board.specs.Laid.{laid}
use Rattle.board.proofs.slots.lay_slots.Given as goal

abbrev pub invariant-loop-made : goal.invariant-loop-made
invariant-loop-made g l = l.slots.items ≡ laid l.made l.version
