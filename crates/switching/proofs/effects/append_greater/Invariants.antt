use Rattle.std.proofs.Common.{◌≡◌, ◌++◌, nat_lt, take}
use Rattle.std.specs.List.{filter}
use Rattle.room_words.specs.Overlay.{position_number}
use Rattle.room_words.specs.declared.overlay.Position.{Position}
use Rattle.switching.proofs.effects.append_greater.Given as goal

abbrev pub invariant-loop-position : goal.invariant-loop-position
invariant-loop-position l = l.new.items ≡ l.fn.new.items ++ filter (λ (one : Position). nat_lt l.switch.number (position_number one)) (take l.position-index l.positions)
