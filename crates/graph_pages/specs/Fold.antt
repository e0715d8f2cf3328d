-- The fold of an identifier, which says where its entry stands. Of this project: any other would do that spreads what stands in a model.
use Rattle.std.specs.Prelude.{ℕ, ◌+◌, ◌*◌, ◌/◌, ◌%◌, ◌^◌}
use Rattle.room_words.specs.declared.anchor.Anchor.{Anchor}
use Rattle.room_words.specs.declared.anchor.Anchor.TheVariants as anchor

-- Both halves of a number, each with a weight of its own.
unfoldable pub weighed : ℕ → ℕ
weighed number = number / 2 ^ 64 * 0x2545F4914F6CDD1D + number % 2 ^ 64 * 0x1E3779B97F4A7C15

-- Both halves of what they weigh, added up within 64 bits.
unfoldable pub fold_of_number : ℕ → ℕ
fold_of_number number = (weighed number / 2 ^ 64 + weighed number % 2 ^ 64) % 2 ^ 64

-- A node's place goes by the node's identifier, and a side's by the item's identifier and by the side.
abbrev pub fold_of_anchor : Anchor → ℕ
fold_of_anchor (anchor.Node node) = fold_of_number node.number
fold_of_anchor (anchor.Side item side) = (fold_of_number item.number + side) % 2 ^ 64
