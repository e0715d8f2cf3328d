-- Which item makes a side.
use Rattle.std.proofs.Common.{◌≡◌, ℕ, inl, inr, true, false, ◌&&◌, ◌==◌, sym}
use Rattle.cim_words.specs.declared.identifier.Id.{Id}
use Rattle.room_words.specs.Items.{item_number, makes}
use Rattle.room_words.specs.declared.anchor.Anchor.TheVariants as anchor
use Rattle.room_words.specs.declared.items.TempItem.{TempItem}
use Rattle.room_words.specs.declared.items.TempItem.TheVariants as item
use Rattle.plain_laws.proofs.Truth.{and_first}
use Rattle.std.proofs.lemmas.Bool.{or_cases, eqb-true}

-- a side that an item makes is its own
pub maker_number : (one : TempItem) (id : Id) (number : ℕ) → makes (anchor.Side id number) one ≡ true → item_number one ≡ id.number
maker_number (item.Cut cut segment at is_open) id number is = elim (or_cases (id.number == cut.number && number == 1) _ is) [
  | inl first ↦ sym (eqb-true id.number cut.number (and_first (id.number == cut.number) _ first))
  | inr more ↦ elim (or_cases (id.number == cut.number && number == 2) false more) [
    | inl second ↦ sym (eqb-true id.number cut.number (and_first (id.number == cut.number) _ second))
    | inr none ↦ absurd cc
  ]
]
maker_number (item.Clamp clamp segment at) id number is = elim (or_cases (id.number == clamp.number && number == 1) false is) [
  | inl first ↦ sym (eqb-true id.number clamp.number (and_first (id.number == clamp.number) _ first))
  | inr none ↦ absurd cc
]
maker_number (item.Jumper jumper first second phases is_open) id number is = absurd cc
maker_number (item.Ground ground at phases) id number is = absurd cc
