-- When two places and two terminals are one, and the order of terminals, of this project.
use Rattle.std.specs.Prelude.{Bool, false, ◌==◌, ◌&&◌}
use Rattle.std.specs.Ordering.{nat_cmp, ordering_then}
use Rattle.std.specs.declared.cmp.Ordering.{Ordering}
use Rattle.std.specs.declared.cmp.Ordering.TheVariants.{Less, Greater}
use Rattle.room_words.specs.declared.anchor.Anchor.{Anchor}
use Rattle.room_words.specs.declared.anchor.Anchor.TheVariants as anchor
use Rattle.room_words.specs.declared.term.Term.{Term}
use Rattle.room_words.specs.declared.term.TermKey.{TermKey}
use Rattle.room_words.specs.declared.term.TermKey.TheVariants as key

-- places are one where both are the same node, or the same side of one item
abbrev pub same_anchor : Anchor → Anchor → Bool
same_anchor (anchor.Node n) (anchor.Node other) = n.number == other.number
same_anchor (anchor.Side item side) (anchor.Side other part) = item.number == other.number && side == part
same_anchor _ _ = false

-- terminals are one where their owners and their keys are
abbrev pub same_key : TermKey → TermKey → Bool
same_key (key.Real t) (key.Real u) = t.number == u.number
same_key (key.Side side) (key.Side part) = side == part
same_key _ _ = false

abbrev pub same_term : Term → Term → Bool
same_term t u = t.owner.number == u.owner.number && same_key t.key u.key

-- terminals stand in order by owner, and those of one owner by key: those of a model by identifier, and then those of an item by side
abbrev pub key_order : TermKey → TermKey → Ordering
key_order (key.Real t) (key.Real u) = nat_cmp t.number u.number
key_order (key.Real t) (key.Side side) = Less
key_order (key.Side side) (key.Real u) = Greater
key_order (key.Side side) (key.Side part) = nat_cmp side part

abbrev pub term_order : Term → Term → Ordering
term_order t u = ordering_then (nat_cmp t.owner.number u.owner.number) (key_order t.key u.key)
