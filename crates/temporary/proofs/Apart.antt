-- Marks of one segment that are apart, those of the model and those of the items.
use Rattle.std.proofs.Common.{◌≡◌, ℕ, inl, inr, List, [], ◌∷◌, ◌++◌, map, Bool, true, false, not, ◌&&◌, ◌||◌, ◌==◌, cond, nat_eq, Option, Some, None, refl, ap, sym, ◌∙◌, subst, arith}
use Rattle.std.specs.List.{AllPairs, IsDistinct, cons_option, filter_map, list_all}
use Rattle.std.proofs.lemmas.List.Kept.{AllPairs-cons}
use Rattle.std.proofs.lemmas.Bool.{and_from, eqb-false, eqb-true}
use Rattle.cim_model.proofs.LiveMarks.{mark_has_item_id}
use Rattle.plain_laws.proofs.Each.{all_from_among, each_read}
use Rattle.plain_laws.proofs.Filters.{filter_map_filter}
use Rattle.plain_laws.proofs.Members.{Among, among_filter_map, contains_among, filter_map_among}
use Rattle.plain_laws.proofs.Numbers.{equal_itself}
use Rattle.plain_laws.proofs.Pairs.{pairs_across, pairs_any, pairs_append, pairs_second}
use Rattle.plain_laws.proofs.Tests.{all_among, among_all}
use Rattle.plain_laws.proofs.Truth.{and_first, and_second}
use Rattle.cim_words.specs.declared.length.Length.{Length}
use Rattle.cim_words.specs.declared.statement.Statement.{Statement}
use Rattle.cim_model.specs.Live.{item_segment_number}
use Rattle.cim_model.specs.Marks.{is_item_on, item_mark, marks_of, marks_on}
use Rattle.cim_model.specs.Stands.{AreApart}
use Rattle.cim_model.specs.Values.{as_length, number_of_id}
use Rattle.cim_model.proofs.MarkLists.{some_number_is}
use Rattle.room_words.specs.Items.{item_number}
use Rattle.room_words.specs.declared.items.TempItem.{TempItem}
use Rattle.room_words.specs.declared.overlay.Overlay.{Overlay}
use Rattle.segment_cuts.specs.declared.mark.Mark.{Mark}
use Rattle.temporary.specs.Parts.{if_there, is_apart, is_apart_at_home, is_beside, mark_on, may_share}

-- ---- two marks

abbrev Shares : Mark → Mark → Type 0
Shares a b = a.length ≡ b.length → (a.divides ≡ false) × (b.divides ≡ false)

neither_cut : (level a b : Bool) → (not level || not a && not b) ≡ true → level ≡ true → (a ≡ false) × (b ≡ false)
neither_cut true true b may is = absurd cc
neither_cut true false true may is = absurd cc
neither_cut true false false may is = (refl, refl)
neither_cut false a b may is = absurd cc

may_cut : (level a b : Bool) → (level ≡ true → (a ≡ false) × (b ≡ false)) → (not level || not a && not b) ≡ true
may_cut true true b shares = absurd (let no : true ≡ false = (shares refl).0 in cc)
may_cut true false true shares = absurd (let no : true ≡ false = (shares refl).1 in cc)
may_cut true false false shares = refl
may_cut false a b shares = refl

shares : (a b : Mark) → may_share a b ≡ true → Shares a b
shares a b may same = neither_cut (a.length.mm == b.length.mm) a.divides b.divides may (ap (λ (l : Length). l.mm == b.length.mm) same ∙ equal_itself b.length.mm)

may : (a b : Mark) → Shares a b → may_share a b ≡ true
may a b shares = may_cut (a.length.mm == b.length.mm) a.divides b.divides (λ level. shares (ap as_length (eqb-true a.length.mm b.length.mm level)))

turned : (a b : Mark) → Shares a b → Shares b a
turned a b shares same = let is = shares (sym same) in (is.1, is.0)

-- ---- lists of marks

any_share : (xs : List Mark) (a b : Mark) → AllPairs Shares xs → Among xs a → Among xs b → (a ≡ b → ⊥) → Shares a b
any_share xs a b pairs here there apart = elim (pairs_any Shares xs pairs a b (contains_among xs a here) (contains_among xs b there)) [
  | inl share ↦ share
  | inr others ↦ elim others [ inl is ↦ absurd (apart is) | inr share ↦ turned b a share ]
]

-- ---- the marks of items

number_if : (one : TempItem) (mark : Mark) (b : Bool) → cond b (item_mark one) None ≡ Some mark → mark.id.number ≡ item_number one
number_if one mark true is = sym (ap number_of_id (mark_has_item_id one mark is))
number_if one mark false is = absurd cc

number_on : (x : ℕ) (one : TempItem) (mark : Mark) → mark_on x one ≡ Some mark → mark.id.number ≡ item_number one
number_on x one mark is = number_if one mark (is_item_on x one) is

-- ---- apart in pairs where each is apart

next_item : (x : ℕ) (one : TempItem) (items : List TempItem) (found : Option Mark) → mark_on x one ≡ found
    → ((a b : Mark) (other : TempItem) → mark_on x one ≡ Some a → Among items other → mark_on x other ≡ Some b → Shares a b)
    → AllPairs Shares (filter_map (mark_on x) items) → AllPairs Shares (cons_option found (filter_map (mark_on x) items))
next_item x one items None is each rest = rest
next_item x one items (Some a) is each rest =
    AllPairs-cons Shares a (filter_map (mark_on x) items) (all_from_among (Shares a) (filter_map (mark_on x) items) (λ b there.
    let from = filter_map_among (mark_on x) items b there in
    each a b from.0 is from.1 from.2)) rest

items_share : (x : ℕ) (items : List TempItem) → IsDistinct nat_eq (map item_number items)
    → ((one other : TempItem) (a b : Mark) → Among items one → Among items other → (item_number one ≡ item_number other → ⊥) → mark_on x one ≡ Some a → mark_on x other ≡ Some b → Shares a b)
    → AllPairs Shares (filter_map (mark_on x) items)
unfolding IsDistinct
items_share x [] distinct each = λ i j d less below. absurd (omega arith)
items_share x (one ∷ items) distinct each =
    next_item x one items (mark_on x one) refl (λ a b other is there on. each one other a b (inl refl) (inr there) (eqb-false (item_number one) (item_number other) (each_read (λ n. nat_eq (item_number one) n ≡ false) item_number items other distinct.0 there)) is on)
    (items_share x items distinct.1 (λ one' other a b here there apart is on. each one' other a b (inr here) (inr there) apart is on))

apart_parts : (m : List Statement) (o : Overlay) (x : ℕ) (one : TempItem) (mark : Mark) → mark_on x one ≡ Some mark → is_apart m o x one ≡ true
    → (list_all (may_share mark) (marks_of m x) ≡ true) × (list_all (is_beside x mark) o.items ≡ true)
apart_parts m o x one mark is apart =
    let test : Option Mark → Bool = λ (found : Option Mark). if_there found (λ (mark : Mark). list_all (may_share mark) (marks_of m x) && list_all (is_beside x mark) o.items) in
    let passes : (list_all (may_share mark) (marks_of m x) && list_all (is_beside x mark) o.items) ≡ true = sym (ap test is) ∙ apart in
    (and_first _ _ passes, and_second _ _ passes)

beside_if : (a b : Mark) (same : Bool) → (b.id.number == a.id.number) ≡ same → (a.id.number ≡ b.id.number → ⊥) → (same || may_share a b) ≡ true → may_share a b ≡ true
beside_if a b true is apart passes = absurd (apart (sym (eqb-true b.id.number a.id.number is)))
beside_if a b false is apart passes = passes

beside_shares : (x : ℕ) (a b : Mark) (other : TempItem) → mark_on x other ≡ Some b → (a.id.number ≡ b.id.number → ⊥) → is_beside x a other ≡ true → Shares a b
beside_shares x a b other is apart passes =
    let test : Option Mark → Bool = λ (found : Option Mark). if_there found (λ (mark : Mark). mark.id.number == a.id.number || may_share a mark) in
    shares a b (beside_if a b (b.id.number == a.id.number) refl apart (sym (ap test is) ∙ passes))

pub apart_marks : (m : List Statement) (o : Overlay) (x : ℕ) → IsDistinct nat_eq (map item_number o.items) → AreApart (marks_of m x)
    → ((one : TempItem) → Among o.items one → is_apart m o x one ≡ true) → AreApart (marks_on m o x)
apart_marks m o x distinct model each =
    subst (λ (marks : List Mark). AllPairs Shares (marks_of m x ++ marks)) (sym (filter_map_filter (is_item_on x) item_mark o.items))
    (pairs_append Shares (marks_of m x) (filter_map (mark_on x) o.items) model (items_share x o.items distinct (λ one other a b here there apart is on.
    beside_shares x a b other on (λ same. apart (sym (number_on x one a is) ∙ same ∙ number_on x other b on))
    (all_among (is_beside x a) o.items (apart_parts m o x one a is (each one here)).1 other there)))
    (λ a b here there.
    let from = filter_map_among (mark_on x) o.items b there in
    turned b a (shares b a (all_among (may_share b) (marks_of m x) (apart_parts m o x from.0 b from.2 (each from.0 from.1)).0 a here))))

-- ---- and each is apart where they are apart in pairs

beside_case : (a b : Mark) (same : Bool) → (b.id.number == a.id.number) ≡ same → ((a ≡ b → ⊥) → Shares a b) → (same || may_share a b) ≡ true
beside_case a b true is share = refl
beside_case a b false is share = may a b (share (λ alike. let itself : (b.id.number == a.id.number) ≡ true = ap (λ (z : Mark). b.id.number == z.id.number) alike ∙ equal_itself b.id.number in
    let no : true ≡ false = sym itself ∙ is in cc))

beside_on : (x : ℕ) (a : Mark) (items : List TempItem) (other : TempItem) (found : Option Mark) → mark_on x other ≡ found → Among items other → AllPairs Shares (filter_map (mark_on x) items)
    → Among (filter_map (mark_on x) items) a → if_there found (λ (mark : Mark). mark.id.number == a.id.number || may_share a mark) ≡ true
beside_on x a items other None is there pairs here = refl
beside_on x a items other (Some b) is there pairs here =
    beside_case a b (b.id.number == a.id.number) refl (λ apart. any_share (filter_map (mark_on x) items) a b pairs here (among_filter_map (mark_on x) items other b there is) apart)

apart_if : (m : List Statement) (o : Overlay) (x : ℕ) (one : TempItem) (found : Option Mark) → mark_on x one ≡ found → Among o.items one → AllPairs Shares (marks_of m x ++ filter_map (mark_on x) o.items)
    → if_there found (λ (mark : Mark). list_all (may_share mark) (marks_of m x) && list_all (is_beside x mark) o.items) ≡ true
apart_if m o x one None is there pairs = refl
apart_if m o x one (Some mark) is there pairs =
    let among = among_filter_map (mark_on x) o.items one mark there is in
    and_from _ _ (among_all (may_share mark) (marks_of m x) (λ other has. may mark other (turned other mark (pairs_across Shares (marks_of m x) (filter_map (mark_on x) o.items) pairs other mark (contains_among (marks_of m x) other has) (contains_among (filter_map (mark_on x) o.items) mark among)))))
    (among_all (is_beside x mark) o.items (λ other has. beside_on x mark o.items other (mark_on x other) refl has (pairs_second Shares (marks_of m x) (filter_map (mark_on x) o.items) pairs) among))

pub apart_each : (m : List Statement) (o : Overlay) (x : ℕ) → AreApart (marks_on m o x) → (one : TempItem) → Among o.items one → is_apart m o x one ≡ true
apart_each m o x apart one there =
    apart_if m o x one (mark_on x one) refl there (subst (λ (marks : List Mark). AllPairs Shares (marks_of m x ++ marks)) (filter_map_filter (is_item_on x) item_mark o.items) apart)

-- ---- at the segment on which it stands

elsewhere : (m : List Statement) (o : Overlay) (x : ℕ) (one : TempItem) (b : Bool) → is_item_on x one ≡ b → is_apart_at_home m o one ≡ true → is_apart m o x one ≡ true
elsewhere m o x one true on apart =
    let home : item_segment_number one ≡ Some x = some_number_is x (item_segment_number one) on in
    sym (ap (λ (found : Option ℕ). if_there found (λ (x : ℕ). is_apart m o x one)) home) ∙ apart
elsewhere m o x one false on apart =
    ap (λ (b : Bool). if_there (cond b (item_mark one) None) (λ (mark : Mark). list_all (may_share mark) (marks_of m x) && list_all (is_beside x mark) o.items)) on

pub apart_anywhere : (m : List Statement) (o : Overlay) (x : ℕ) (one : TempItem) → is_apart_at_home m o one ≡ true → is_apart m o x one ≡ true
apart_anywhere m o x one apart = elsewhere m o x one (is_item_on x one) refl apart
