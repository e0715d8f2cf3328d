use Rattle.std.proofs.Common.{◌≡◌, take, false}
use Rattle.std.specs.List.{list_any}
use Rattle.room_words.specs.Items.{makes}
use Rattle.link_rules.proofs.members.is_made.Given as goal

abbrev pub invariant-loop-item : goal.invariant-loop-item
invariant-loop-item l = list_any (makes l.place) (take l.item-index l.overlay.items) ≡ false
