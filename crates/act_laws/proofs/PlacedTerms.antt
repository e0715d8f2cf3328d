-- The places once an item is placed, and the terminals at each: one more at an anchor of the item, and else no more.
use Rattle.std.proofs.Common.{◌≡◌, ◌↔◌, ℕ, ◌+◌, ◌≤◌, ◌⊎◌, inl, inr, List, [], ◌∷◌, ◌++◌, map, length, Bool, true, false, ◌&&◌, ◌==◌, cond, IsTrue, None, refl, ap, sym, ◌∙◌, arith, length-append}
use Rattle.std.specs.List.{IsDistinct, flat_map, list_any}
use Rattle.std.proofs.lemmas.Grind.{flat_map-append}
use Rattle.cim_words.specs.Limits.{most_at_place}
use Rattle.cim_words.specs.declared.identifier.Id.{Id}
use Rattle.cim_words.specs.declared.statement.Statement.{Statement}
use Rattle.cim_model.specs.Live.{is_place, real_terms_at, terms_at}
use Rattle.room_words.specs.Items.{anchors, side, item_number, item_terms_at, makes, term_in}
use Rattle.room_words.specs.Overlay.{item_of}
use Rattle.room_words.specs.Terms.{same_anchor}
use Rattle.room_words.specs.declared.anchor.Anchor.{Anchor}
use Rattle.room_words.specs.declared.anchor.Anchor.TheVariants as anchor
use Rattle.room_words.specs.declared.items.TempItem.{TempItem}
use Rattle.room_words.specs.declared.items.TempItem.TheVariants as item
use Rattle.room_words.specs.declared.overlay.Overlay.{Overlay}
use Rattle.room_words.specs.declared.term.Term.{Term}
use Rattle.act_laws.proofs.Makers.{maker_number}
use Rattle.act_laws.proofs.Passed.{CanBePlaced}
use Rattle.act_laws.proofs.Still.{Takes}
use Rattle.act_laws.proofs.PlacedMarks.{with_item}
use Rattle.plain_laws.proofs.Members.{Among, among_left}
use Rattle.plain_laws.proofs.Numbers.{equal_itself}
use Rattle.plain_laws.proofs.Options.{find_none}
use Rattle.plain_laws.proofs.Tests.{among_any, any_among}
use Rattle.plain_laws.proofs.Truth.{and_first}
use Rattle.std.proofs.lemmas.Bool.{false_from_ne_true, eqb-true}

-- ---- places: those that there were

still_place : (m : List Statement) (o : Overlay) (one : TempItem) (place : Anchor) → is_place m o place ≡ true → is_place m (with_item o one) place ≡ true
still_place m o one (anchor.Node n) is = is
still_place m o one (anchor.Side id number) is =
    let maker = any_among (makes (anchor.Side id number)) o.items is in
    among_any (makes (anchor.Side id number)) (o.items ++ one ∷ []) maker.0 (among_left o.items (one ∷ []) maker.0 maker.1) maker.2

-- no place is a side of an item that is not there yet
no_maker : (o : Overlay) (id : Id) (place : Id) (number : ℕ) → item_of o id.number ≡ None → list_any (makes (anchor.Side place number)) o.items ≡ true → id.number ≡ place.number → ⊥
no_maker o id place number fresh made same =
    let maker = any_among (makes (anchor.Side place number)) o.items made in
    let other : (item_number maker.0 == id.number) ≡ false = find_none (λ (one : TempItem). item_number one == id.number) o.items maker.0 fresh maker.1 in
    let its : (item_number maker.0 == id.number) ≡ true = ap (λ (n : ℕ). n == id.number) (maker_number maker.0 place number maker.2 ∙ sym same) ∙ equal_itself id.number in
    let no : true ≡ false = sym its ∙ other in
    cc

not_own : (m : List Statement) (o : Overlay) (id : Id) (number : ℕ) (place : Anchor) → item_of o id.number ≡ None → is_place m o place ≡ true → same_anchor (anchor.Side id number) place ≡ false
not_own m o id number (anchor.Node n) fresh is = refl
not_own m o id number (anchor.Side place part) fresh is =
    false_from_ne_true (id.number == place.number && number == part) (λ own. no_maker o id place part fresh is (eqb-true id.number place.number (and_first (id.number == place.number) (number == part) own)))

-- ---- terminals

abbrev Terms : Anchor → TempItem → ℕ
Terms place one = length (item_terms_at place one)

terms_more : (m : List Statement) (o : Overlay) (one : TempItem) (place : Anchor) → length (terms_at m (with_item o one) place) ≡ length (terms_at m o place) + Terms place one
terms_more m o one place =
    let new = ap length (flat_map-append (item_terms_at place) o.items (one ∷ [])) in
    let after = length-append (real_terms_at m place) (flat_map (item_terms_at place) (o.items ++ one ∷ [])) in
    let before = length-append (real_terms_at m place) (flat_map (item_terms_at place) o.items) in
    let items = length-append (flat_map (item_terms_at place) o.items) (item_terms_at place one ++ []) in
    let own = length-append (item_terms_at place one) [] in
    omega (arith, new, after, before, items, own)

-- none of its terminals stands at a place that there was, or one does and the place is one of its anchors
abbrev Ends : TempItem → Anchor → Type 0
Ends one place = (Terms place one ≡ 0) ⊎ ((Terms place one ≡ 1) × Among (anchors one) place)

abbrev Same : Type 0
Same = (a b : Anchor) → IsTrue (same_anchor a b) ↔ (a ≡ b)

ground_ends : (s : Anchor × Term) (place : Anchor) (b : Bool) → Same → same_anchor s.0 place ≡ b
    → (length (map term_in (cond b (s ∷ []) [])) ≡ 0) ⊎ ((length (map term_in (cond b (s ∷ []) [])) ≡ 1) × Among (s.0 ∷ []) place)
ground_ends s place true same is = inr (refl, inl ((same s.0 place).0 is))
ground_ends s place false same is = inl refl

jumper_ends : (s t : Anchor × Term) (place : Anchor) (b c : Bool) → Same → same_anchor s.0 place ≡ b → same_anchor t.0 place ≡ c → same_anchor s.0 t.0 ≡ false
    → (length (map term_in (cond b (s ∷ cond c (t ∷ []) []) (cond c (t ∷ []) []))) ≡ 0)
    ⊎ ((length (map term_in (cond b (s ∷ cond c (t ∷ []) []) (cond c (t ∷ []) []))) ≡ 1) × Among (s.0 ∷ t.0 ∷ []) place)
jumper_ends s t place true true same first second apart =
    let one : s.0 ≡ t.0 = (same s.0 place).0 first ∙ sym ((same t.0 place).0 second) in
    let no : true ≡ false = sym ((same s.0 t.0).1 one) ∙ apart in
    absurd cc
jumper_ends s t place true false same first second apart = inr (refl, inl ((same s.0 place).0 first))
jumper_ends s t place false true same first second apart = inr (refl, inr (inl ((same t.0 place).0 second)))
jumper_ends s t place false false same first second apart = inl refl

ends : (m : List Statement) (o : Overlay) (one : TempItem) (place : Anchor) → Same → CanBePlaced m o one → is_place m o place ≡ true → Ends one place
unfolding IsDistinct
ends m o (item.Cut id segment at is_open) place same can is = inl (rw (not_own m o id 1 place can.fresh is, not_own m o id 2 place can.fresh is) refl)
ends m o (item.Clamp id segment at) place same can is = inl (rw (not_own m o id 1 place can.fresh is) refl)
ends m o (item.Jumper id first second phases is_open) place same can is =
    jumper_ends (first, side id 1) (second, side id 2) place (same_anchor first place) (same_anchor second place) same refl refl can.different.0.0
ends m o (item.Ground id at phases) place same can is = ground_ends (at, side id 1) place (same_anchor at place) same refl

few_terms : (m : List Statement) (o : Overlay) (one : TempItem) (place : Anchor) → CanBePlaced m o one → length (terms_at m o place) ≤ most_at_place → Ends one place
    → length (terms_at m (with_item o one) place) ≤ most_at_place
few_terms m o one place can few (inl none) = let more = terms_more m o one place in omega (arith, more, none)
few_terms m o one place can few (inr (is, there)) = let more = terms_more m o one place in let room = can.takes place there in omega (arith, more, is, room)

pub takes : (m : List Statement) (o : Overlay) (one : TempItem) (place : Anchor) → Same → CanBePlaced m o one → Takes m o place → Takes m (with_item o one) place
takes m o one place same can before = record {
  is = still_place m o one place before.is;
  few = few_terms m o one place can before.few (ends m o one place same can before.is);
}
