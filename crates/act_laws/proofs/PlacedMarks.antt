-- The marks on a segment once an item is placed: one more where it stands on it, and still apart.
use Rattle.std.proofs.Common.{◌≡◌, ℕ, ◌+◌, ◌<◌, ◌≤◌, ◌⊎◌, inl, inr, List, [], ◌∷◌, ◌++◌, length, Bool, true, false, ◌==◌, cond, nat_le, Option, Some, None, refl, ap, sym, ◌∙◌, subst, arith, length-append, append_assoc, append-nil}
use Rattle.std.specs.List.{filter, filter_map, list_all}
use Rattle.std.proofs.lemmas.Bool.Decides.{nat_tests}
use Rattle.std.proofs.lemmas.List.Elements.{filter-append, filter_map-append}
use Rattle.std.proofs.lemmas.Option.{same_Some}
use Rattle.cim_words.specs.Limits.{most_marks}
use Rattle.cim_words.specs.declared.length.Length.{Length}
use Rattle.cim_words.specs.declared.statement.Statement.{Statement}
use Rattle.cim_model.specs.Live.{item_segment_number}
use Rattle.cim_model.specs.Marks.{is_item_on, item_mark, item_marks, marks_of, marks_on}
use Rattle.cim_model.specs.Refusals.{in_the_way, least, marks_at}
use Rattle.cim_model.specs.Stands.{AreApart}
use Rattle.room_words.specs.Items.{item_length}
use Rattle.room_words.specs.declared.items.TempItem.{TempItem}
use Rattle.room_words.specs.declared.items.TempItem.TheVariants as item
use Rattle.room_words.specs.declared.overlay.Overlay.{Overlay}
use Rattle.segment_cuts.specs.declared.mark.Mark.{Mark}
use Rattle.act_laws.proofs.Passed.{CanBePlaced}
use Rattle.act_laws.proofs.Still.{Bears}
use Rattle.cim_model.proofs.MarkLists.{some_number_is}
use Rattle.plain_laws.proofs.Least.{has_least}
use Rattle.plain_laws.proofs.Members.{Among, among_filter}
use Rattle.plain_laws.proofs.Numbers.{equal_itself}
use Rattle.plain_laws.proofs.Options.{if_some, find_none}
use Rattle.plain_laws.proofs.Pairs.{pairs_append, pairs_one}
use Rattle.plain_laws.proofs.Tests.{among_all}

abbrev pub with_item : Overlay → TempItem → Overlay
with_item o one = record { items = o.items ++ one ∷ []; positions = o.positions }

-- ---- marks: those that were there, and that of the item where it stands on the segment

abbrev new_marks : ℕ → TempItem → List Mark
new_marks x one = filter_map item_mark (filter (is_item_on x) (one ∷ []))

marks_more : (m : List Statement) (o : Overlay) (x : ℕ) (one : TempItem) → marks_on m (with_item o one) x ≡ marks_on m o x ++ new_marks x one
marks_more m o x one =
    ap (λ (items : List TempItem). marks_of m x ++ filter_map item_mark items) (filter-append (is_item_on x) o.items (one ∷ []))
    ∙ ap (λ (marks : List Mark). marks_of m x ++ marks) (filter_map-append item_mark (filter (is_item_on x) o.items) (filter (is_item_on x) (one ∷ [])))
    ∙ sym (append_assoc (marks_of m x) (item_marks o x) (new_marks x one))

-- a mark of it is its own, on its segment
pub record IsNewMark (x : ℕ) (one : TempItem) (found : Mark) : Type 0 where
  pub mark : item_mark one ≡ Some found
  pub on : item_segment_number one ≡ Some x

marks_if : (x : ℕ) (one : TempItem) (b : Bool) (found : Option Mark) → is_item_on x one ≡ b → item_mark one ≡ found
    → (filter_map item_mark (cond b (one ∷ []) []) ≡ []) ⊎ ((mark : Mark) × (filter_map item_mark (cond b (one ∷ []) []) ≡ mark ∷ []) × IsNewMark x one mark)
marks_if x one false found on is = inl refl
marks_if x one true None on is = inl (rw is refl)
marks_if x one true (Some mark) on is = inr (mark, rw is refl, record { mark = is; on = some_number_is x (item_segment_number one) on })

new_marks_are : (x : ℕ) (one : TempItem) → (new_marks x one ≡ []) ⊎ ((mark : Mark) × (new_marks x one ≡ mark ∷ []) × IsNewMark x one mark)
new_marks_are x one = marks_if x one (is_item_on x one) (item_mark one) refl refl

few_marks : (m : List Statement) (o : Overlay) (x : ℕ) (one : TempItem) → CanBePlaced m o one → length (marks_on m o x) ≤ most_marks → length (marks_on m (with_item o one) x) ≤ most_marks
few_marks m o x one can few = elim (new_marks_are x one) [
  | inl none ↦ (let new : length (new_marks x one) ≡ 0 = ap length none in omega (arith, few, long, new))
  | inr (mark, is, own) ↦ (
      let new : length (new_marks x one) ≡ 1 = ap length is in
      let room = if_some (λ (x : ℕ). length (marks_on m o x) < most_marks) (item_segment_number one) x own.on can.marks in
      omega (arith, room, long, new)
      )
]
  where
    long : length (marks_on m (with_item o one) x) ≡ length (marks_on m o x) + length (new_marks x one)
    long = ap length (marks_more m o x one) ∙ length-append (marks_on m o x) (new_marks x one)

-- marks of which none is in the way share no length with a cut, and with a clamp only where they are clamps

in_order : (a b : ℕ) → a ≤ b → nat_le a b ≡ true
in_order a b is = grind (arith, nat_tests)

no_least : (marks : List Mark) (a : Mark) → least marks ≡ None → Among marks a → ⊥
no_least [] a none there = there
no_least (x ∷ marks) a none there =
    let found = has_least (λ (mark : Mark). mark.id.number) x marks in
    let test : Mark → Bool = λ (one : Mark). list_all (λ (other : Mark). nat_le one.id.number other.id.number) (x ∷ marks) in
    let fails : test found.one ≡ false = find_none test (x ∷ marks) found.one none found.listed in
    let passes : test found.one ≡ true = among_all (λ (other : Mark). nat_le found.one.id.number other.id.number) (x ∷ marks) (λ other has. in_order found.one.id.number other.id.number (found.least other has)) in
    let no : true ≡ false = sym passes ∙ fails in
    cc

at_length : (marks : List Mark) (a : Mark) (length : Length) → Among marks a → a.length ≡ length → Among (filter (λ (one : Mark). one.length.mm == length.mm) marks) a
at_length marks a length there same =
    among_filter (λ (one : Mark). one.length.mm == length.mm) marks a there (ap (λ (l : Length). l.mm == length.mm) same ∙ equal_itself length.mm)

shares : (one : TempItem) (marks : List Mark) (a mark : Mark) → in_the_way one (filter (λ (other : Mark). other.length.mm == item_length one) marks) ≡ None → item_mark one ≡ Some mark
    → Among marks a → a.length ≡ mark.length → (a.divides ≡ false) × (mark.divides ≡ false)
shares (item.Cut id segment at is_open) marks a mark free is there same =
    let own : at ≡ mark.length = ap (λ (m : Mark). m.length) (same_Some _ mark is) in
    absurd (no_least (filter (λ (other : Mark). other.length.mm == at.mm) marks) a free (at_length marks a at there (same ∙ sym own)))
shares (item.Clamp id segment at) marks a mark free is there same =
    let own : at ≡ mark.length = ap (λ (m : Mark). m.length) (same_Some _ mark is) in
    let clamp : false ≡ mark.divides = ap (λ (m : Mark). m.divides) (same_Some _ mark is) in
    (find_none (λ (other : Mark). other.divides) (filter (λ (other : Mark). other.length.mm == at.mm) marks) a free (at_length marks a at there (same ∙ sym own)), sym clamp)
shares (item.Jumper id first second phases is_open) marks a mark free is there same = absurd cc
shares (item.Ground id at phases) marks a mark free is there same = absurd cc

abbrev Shares : Mark → Mark → Type 0
Shares a b = a.length ≡ b.length → (a.divides ≡ false) × (b.divides ≡ false)

apart_marks : (m : List Statement) (o : Overlay) (x : ℕ) (one : TempItem) → CanBePlaced m o one → AreApart (marks_on m o x) → AreApart (marks_on m (with_item o one) x)
apart_marks m o x one can apart = subst AreApart (sym (marks_more m o x one)) (elim (new_marks_are x one) [
  | inl none ↦ subst (λ (marks : List Mark). AreApart (marks_on m o x ++ marks)) (sym none) (subst AreApart (sym (append-nil (marks_on m o x))) apart)
  | inr (mark, is, own) ↦ subst (λ (marks : List Mark). AreApart (marks_on m o x ++ marks)) (sym is)
      (pairs_append Shares (marks_on m o x) (mark ∷ []) apart (pairs_one Shares mark) (λ a b here there. elim there [
        | inl same ↦ subst (Shares a) same
            (shares one (marks_on m o x) a mark (if_some (λ (x : ℕ). in_the_way one (marks_at m o x (item_length one)) ≡ None) (item_segment_number one) x own.on can.free) own.mark here)
        | inr none ↦ absurd none
      ]))
])

pub bears : (m : List Statement) (o : Overlay) (one : TempItem) → CanBePlaced m o one → Bears m o (with_item o one)
bears m o one can = record { few = λ x few. few_marks m o x one can few; apart = λ x apart. apart_marks m o x one can apart }
