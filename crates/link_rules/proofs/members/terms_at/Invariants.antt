use Rattle.std.proofs.Common.{◌≡◌, ◌++◌, take}
use Rattle.std.specs.List.{flat_map}
use Rattle.cim_model.specs.Live.{real_terms_at}
use Rattle.room_words.specs.Items.{item_terms_at}
use Rattle.link_rules.proofs.members.terms_at.Given as goal

abbrev pub invariant-loop-item : goal.invariant-loop-item
invariant-loop-item l = l.terms.items ≡ real_terms_at l.index l.place ++ flat_map (item_terms_at l.place) (take l.item-index l.overlay.items)
