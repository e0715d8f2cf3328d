-- Places and terminals that their tests do not tell apart are one, and the order of terminals goes one way.
use Rattle.std.proofs.Common.{◌≡◌, true, ◌==◌, inl, inr, ap, ap₂, subst, arith}
use Rattle.std.specs.Cmp.{IsEquivalence, both_ways}
use Rattle.std.specs.Ordering.{nat_cmp}
use Rattle.std.specs.declared.cmp.Ordering.TheVariants.{Less}
use Rattle.std.proofs.lemmas.Bool.{and_from, and_parts, eqb-true}
use Rattle.plain_laws.proofs.Numbers.{cmp_equal, cmp_less, cmp_one_way, equal_itself}
use Rattle.plain_laws.proofs.Sorted.{IsOneWay, then_less}
use Rattle.cim_words.proofs.Statements.{same_id}
use Rattle.room_words.specs.Terms.{key_order, same_anchor, same_key, same_term, term_order}
use Rattle.room_words.specs.declared.anchor.Anchor.{Anchor}
use Rattle.room_words.specs.declared.anchor.Anchor.TheVariants as anchor
use Rattle.room_words.specs.declared.term.Term.{Term}
use Rattle.room_words.specs.declared.term.TermKey.{TermKey}
use Rattle.room_words.specs.declared.term.TermKey.TheVariants as key

-- ---- places

pub anchor_itself : (a : Anchor) → same_anchor a a ≡ true
anchor_itself (anchor.Node n) = equal_itself n.number
anchor_itself (anchor.Side item side) = and_from (item.number == item.number) (side == side) (equal_itself item.number) (equal_itself side)

pub anchor_exact : (a b : Anchor) → same_anchor a b ≡ true → a ≡ b
anchor_exact (anchor.Node n) (anchor.Node m) h = ap anchor.Node (same_id n m (eqb-true n.number m.number h))
anchor_exact (anchor.Node n) (anchor.Side item side) h = cc
anchor_exact (anchor.Side item side) (anchor.Node n) h = cc
anchor_exact (anchor.Side item side) (anchor.Side other part) h =
    let parts = and_parts (item.number == other.number) (side == part) h in
    ap₂ anchor.Side (same_id item other (eqb-true item.number other.number parts.0)) (eqb-true side part parts.1)

pub same_anchor_laws : IsEquivalence same_anchor
same_anchor_laws = record {
  refl = anchor_itself;
  symm = λ a b. both_ways (same_anchor a b) (same_anchor b a) (turned a b) (turned b a);
  congr = λ a b c h. ap (λ (other : Anchor). same_anchor other c) (anchor_exact a b h);
}
  where
    turned : (a b : Anchor) → same_anchor a b ≡ true → same_anchor b a ≡ true
    turned a b h = subst (λ (c : Anchor). same_anchor c a ≡ true) (anchor_exact a b h) (anchor_itself a)

-- ---- terminals

key_itself : (k : TermKey) → same_key k k ≡ true
key_itself (key.Real id) = equal_itself id.number
key_itself (key.Side n) = equal_itself n

key_exact : (k l : TermKey) → same_key k l ≡ true → k ≡ l
key_exact (key.Real a) (key.Real b) h = ap key.Real (same_id a b (eqb-true a.number b.number h))
key_exact (key.Real a) (key.Side n) h = cc
key_exact (key.Side n) (key.Real b) h = cc
key_exact (key.Side n) (key.Side m) h = ap key.Side (eqb-true n m h)

pub term_itself : (t : Term) → same_term t t ≡ true
term_itself t = and_from (t.owner.number == t.owner.number) (same_key t.key t.key) (equal_itself t.owner.number) (key_itself t.key)

pub term_exact : (t u : Term) → same_term t u ≡ true → t ≡ u
term_exact t u h i =
    let parts = and_parts (t.owner.number == u.owner.number) (same_key t.key u.key) h in
    record { owner = same_id t.owner u.owner (eqb-true t.owner.number u.owner.number parts.0) i; key = key_exact t.key u.key parts.1 i }

-- ---- the order of terminals

keys_one_way : (k l : TermKey) → key_order k l ≡ Less → key_order l k ≡ Less → ⊥
keys_one_way (key.Real t) (key.Real u) is back = cmp_one_way t.number u.number is back
keys_one_way (key.Real t) (key.Side b) is back = cc
keys_one_way (key.Side a) (key.Real u) is back = cc
keys_one_way (key.Side a) (key.Side b) is back = cmp_one_way a b is back

pub terms_one_way : IsOneWay (λ t u. term_order t u ≡ Less)
terms_one_way t u is back = elim (then_less (nat_cmp t.owner.number u.owner.number) (key_order t.key u.key) is) [
  | inl less ↦ elim (then_less (nat_cmp u.owner.number t.owner.number) (key_order u.key t.key) back) [
    | inl more ↦ cmp_one_way t.owner.number u.owner.number less more
    | inr (same, keys) ↦ (let up = cmp_less t.owner.number u.owner.number less in let level = cmp_equal u.owner.number t.owner.number same in omega arith)
  ]
  | inr (same, keys) ↦ elim (then_less (nat_cmp u.owner.number t.owner.number) (key_order u.key t.key) back) [
    | inl more ↦ (let up = cmp_less u.owner.number t.owner.number more in let level = cmp_equal t.owner.number u.owner.number same in omega arith)
    | inr (level, also) ↦ keys_one_way t.key u.key keys also
  ]
]
