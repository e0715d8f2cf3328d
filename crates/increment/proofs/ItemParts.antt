-- The stars and the places that an item has no part in: those that do not change with it.
use Rattle.std.proofs.Common.{◌≡◌, ◌↔◌, ℕ, inl, inr, [], map, true, false, ◌==◌, IsTrue, Option, Some, None, ap, sym, subst}
use Rattle.std.specs.List.{list_any}
use Rattle.std.proofs.lemmas.Bool.{eqb-true, false_from_ne_true}
use Rattle.std.proofs.lemmas.Option.{same_Some}
use Rattle.cim_model.specs.Live.{item_segment_number}
use Rattle.cim_model.specs.Marks.{is_item_on, item_mark}
use Rattle.cim_model.specs.Network.{is_some_number}
use Rattle.plain_laws.proofs.Filters.{filter_none}
use Rattle.plain_laws.proofs.Members.{Among, among_map}
use Rattle.plain_laws.proofs.Tests.{among_none, any_among}
use Rattle.room_words.specs.Items.{as_list, item_number, item_terms_at, makes, own_places, standing, term_in}
use Rattle.room_words.specs.Terms.{same_anchor}
use Rattle.room_words.specs.declared.anchor.Anchor.{Anchor}
use Rattle.room_words.specs.declared.items.TempItem.{TempItem}
use Rattle.room_words.specs.declared.items.TempItem.TheVariants as item
use Rattle.room_words.specs.declared.term.Term.{Term}
use Rattle.segment_cuts.specs.declared.mark.Mark.{Mark}
use Rattle.increment.specs.Touched.{item_places, item_stars}

-- the test tells places apart
abbrev pub AreCompared : Type 0
AreCompared = (a b : Anchor) → IsTrue (same_anchor a b) ↔ (a ≡ b)

-- it is another one, and does not stand on it
pub record HasNoPartIn (one : TempItem) (x : ℕ) : Type 0 where
  pub other : (item_number one == x) ≡ false
  pub off : is_item_on x one ≡ false

-- it does not make it, and has no terminal there
pub record HasNoPartAt (one : TempItem) (place : Anchor) : Type 0 where
  pub made : makes place one ≡ false
  pub terms : item_terms_at place one ≡ []

-- ---- stars

listed_number : (x : ℕ) (found : Option ℕ) → is_some_number x found ≡ true → Among (as_list found) x
listed_number x None is = absurd cc
listed_number x (Some y) is = inl (eqb-true y x is)

pub no_part_in : (one : TempItem) (x : ℕ) → ¬ (Among (item_stars one) x) → HasNoPartIn one x
no_part_in one x none = record {
  other = false_from_ne_true (item_number one == x) (λ same. none (inl (eqb-true (item_number one) x same)));
  off = false_from_ne_true (is_item_on x one) (λ on. none (inr (listed_number x (item_segment_number one) on)));
}

-- ---- places

-- the places that a cut or a clamp makes are those at which its sides stand
own_listed : (one : TempItem) (place : Anchor) → Among (own_places one) place → Among (item_places one) place
own_listed (item.Cut id segment at is_open) place there = there
own_listed (item.Clamp id segment at) place there = there
own_listed (item.Jumper id first second phases is_open) place there = absurd there
own_listed (item.Ground id at phases) place there = absurd there

made_listed : (one : TempItem) (place : Anchor) → AreCompared → makes place one ≡ true → Among (item_places one) place
made_listed one place compared is =
    let own = any_among (same_anchor place) (own_places one) is in
    subst (Among (item_places one)) (sym ((compared place own.0).0 own.2)) (own_listed one own.0 own.1)

side_listed : (one : TempItem) (place : Anchor) (s : Anchor × Term) → AreCompared → Among (standing one) s → same_anchor s.0 place ≡ true → Among (item_places one) place
side_listed one place s compared there at =
    subst (Among (item_places one)) ((compared s.0 place).0 at) (among_map (λ (s : Anchor × Term). s.0) (standing one) s there)

no_side : (one : TempItem) (place : Anchor) → AreCompared → ¬ (Among (item_places one) place) → list_any (λ (s : Anchor × Term). same_anchor s.0 place) (standing one) ≡ false
no_side one place compared none =
    among_none (λ (s : Anchor × Term). same_anchor s.0 place) (standing one) (λ s there. false_from_ne_true (same_anchor s.0 place) (λ at. none (side_listed one place s compared there at)))

pub no_part_at : (one : TempItem) (place : Anchor) → AreCompared → ¬ (Among (item_places one) place) → HasNoPartAt one place
no_part_at one place compared none = record {
  made = false_from_ne_true (makes place one) (λ is. none (made_listed one place compared is));
  terms = ap (map term_in) (filter_none (λ (s : Anchor × Term). same_anchor s.0 place) (standing one) (no_side one place compared none));
}

-- ---- the mark of an item has its identifier

pub mark_number : (one : TempItem) (found : Mark) → item_mark one ≡ Some found → found.id.number ≡ item_number one
mark_number (item.Cut id segment at is_open) found is = ap (λ (mark : Mark). mark.id.number) (sym (same_Some _ found is))
mark_number (item.Clamp id segment at) found is = ap (λ (mark : Mark). mark.id.number) (sym (same_Some _ found is))
mark_number (item.Jumper id first second phases is_open) found is = absurd cc
mark_number (item.Ground id at phases) found is = absurd cc
