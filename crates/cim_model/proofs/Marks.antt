-- Cuts and clamps of a model without fault: the segments on which they stand, and their places.
use Rattle.std.proofs.Common.{◌≡◌, ℕ, ◌⊎◌, inl, inr, List, Bool, true, false, Option, Some, None, refl, ap, sym, ◌∙◌, ◌≢◌, ◌≤◌, [], ◌∷◌, not, ◌&&◌, ◌||◌, ◌==◌, nat_eq, is_some, unwrap_or, subst, arith, ⊎_elim}
use Rattle.std.proofs.lemmas.Option.{same_Some}
use Rattle.std.specs.List.{cons_option, filter_map, list_any}
use Rattle.std.proofs.lemmas.Bool.{eqb-true, not-false, or_parts}
use Rattle.cim_model.proofs.LengthBounds.{said_within}
use Rattle.cim_model.specs.Values.{length_said}
use Rattle.cim_model.specs.Stated.{clamp_lengths, clamps_of, cut_lengths, cuts_of, ids_said, or_zero, stated_lengths}
use Rattle.cim_words.specs.Limits.{most_length}
use Rattle.plain_laws.proofs.Members.{Among, among_filter, among_filter_map, among_filter_passes}
use Rattle.plain_laws.proofs.Numbers.{equal_itself}
use Rattle.plain_laws.proofs.Tests.{among_any, none_among}
use Rattle.plain_laws.proofs.Truth.{and_first_false, and_second_false}
use Rattle.cim_words.specs.Groups.{is_clamp, is_cut, is_segment, is_terminal}
use Rattle.cim_words.specs.declared.class.Class.{Class}
use Rattle.cim_words.specs.declared.class.Class.TheVariants as class
use Rattle.cim_words.specs.declared.known_prop.KnownProp.{KnownProp}
use Rattle.cim_words.specs.Properties as property
use Rattle.cim_words.specs.declared.object.Object.{Object}
use Rattle.cim_words.specs.declared.object.Object.TheVariants as object
use Rattle.cim_words.specs.declared.statement.Statement.{Statement}
use Rattle.cim_model.specs.Model.{counts, id_said, is_empty, is_of, naming, said}
use Rattle.cim_model.specs.Network.{class_in, first, is_class, mark_length, or_else, segment_of, value_of}
use Rattle.cim_model.specs.Profile.{IsFaultless, breaks_form, breaks_owner, breaks_place, has_form, is_beyond, is_clamp_misplaced, is_cut_misplaced, is_target, names_target, references, share_one, shares_place, shares_with_clamp, shares_with_cut, states_wrongly, values}
use Rattle.cim_model.proofs.Classes.{is_of_by_class}
use Rattle.cim_model.proofs.FaultlessSubjects.{breaks_no_rule, named_value, target_said}
use Rattle.cim_model.proofs.SaidLemmas.{IsStated, of_class_is_subject, said_subject, says_naming, value_stated}

-- the first value that is there is one of the two
pub either_value : {V : Type 0} (a b : Option V) (v : V) → or_else a b ≡ Some v → (a ≡ Some v) ⊎ (b ≡ Some v)
either_value None b v is = inr is
either_value (Some w) b v is = inl is

-- what is of a class is of no other class
other_test : (test other : Class → Bool) (c : Option Class) → ((d : Class) → test d ≡ true → other d ≡ false) → is_class test c ≡ true → is_class other c ≡ false
other_test test other None apart is = refl
other_test test other (Some c) apart is = apart c is

pub not_other : (test other : Class → Bool) (m : List Statement) (x : ℕ) → IsFaultless m → ((c : Class) → test c ≡ true → other c ≡ false) → is_of m test x ≡ true → is_of m other x ≡ false
not_other test other m x faultless apart is =
    is_of_by_class other m x faultless ∙ other_test test other (class_in m x) apart (sym (is_of_by_class test m x faultless) ∙ is)

segment_no_clamp : (c : Class) → is_segment c ≡ true → is_clamp c ≡ false
segment_no_clamp class.ACLineSegment is = refl
segment_no_clamp _ is = absurd cc

segment_no_cut : (c : Class) → is_segment c ≡ true → is_cut c ≡ false
segment_no_cut class.ACLineSegment is = refl
segment_no_cut _ is = absurd cc

-- a property that does not count states nothing
pub uncounted : {V : Type 0} (reads : Object → Option V) (m : List Statement) (x : ℕ) (k : KnownProp) → counts m x k ≡ false → value_of reads m x k ≡ None
uncounted reads m x k counted = rw counted refl

-- what a cut or a clamp names is a segment
target_segment : (m : List Statement) (k : KnownProp) (o : Object) (x : ℕ) → ((z : ℕ) → is_target m k z ≡ is_of m is_segment z) → names_target m k o ≡ true → id_said o ≡ Some x → is_of m is_segment x ≡ true
target_segment m k (object.Id id) x segments right is = ap (is_of m is_segment) (sym (same_Some id.number x is)) ∙ sym (segments id.number) ∙ right
target_segment m k (object.Name text) x segments right is = absurd cc
target_segment m k (object.Text text) x segments right is = absurd cc

stated_segment : (m : List Statement) (k : KnownProp) (x y : ℕ) → IsFaultless m → Among references k → ((z : ℕ) → is_target m k z ≡ is_of m is_segment z) → IsStated id_said m y k x → is_of m is_segment x ≡ true
stated_segment m k x y faultless listed segments stated =
    target_segment m k stated.object x segments (target_said m y k stated.object faultless listed stated.counts stated.said) stated.read

-- what stands on something is a cut or a clamp, and stands on a segment
pub on_segment : (m : List Statement) (x y : ℕ) → IsFaultless m → segment_of m y ≡ Some x → (is_of m is_segment x ≡ true) × ((is_of m is_cut y ≡ true) ⊎ (is_of m is_clamp y ≡ true))
on_segment m x y faultless on = elim (either_value (value_of id_said m y property.clamp_segment) (value_of id_said m y property.cut_segment) x on) [
  | inl clamp ↦ (let stated = value_stated id_said m y property.clamp_segment x clamp in (stated_segment m property.clamp_segment x y faultless (inr (inr (inl refl))) (λ z. refl) stated, inr stated.counts))
  | inr cut ↦ (let stated = value_stated id_said m y property.cut_segment x cut in (stated_segment m property.cut_segment x y faultless (inr (inr (inr (inl refl)))) (λ z. refl) stated, inl stated.counts))
]

-- a segment stands on nothing
pub segment_on_none : (m : List Statement) (x : ℕ) → IsFaultless m → is_of m is_segment x ≡ true → segment_of m x ≡ None
segment_on_none m x faultless segment =
    rw (uncounted id_said m x property.clamp_segment (not_other is_segment is_clamp m x faultless segment_no_clamp segment), uncounted id_said m x property.cut_segment (not_other is_segment is_cut m x faultless segment_no_cut segment)) refl

-- ---- places of cuts and clamps

-- ---- a cut is no clamp

cut_no_clamp : (c : Class) → is_cut c ≡ true → is_clamp c ≡ false
cut_no_clamp class.Cut is = refl
cut_no_clamp _ is = absurd cc

clamp_no_cut : (c : Class) → is_clamp c ≡ true → is_cut c ≡ false
clamp_no_cut class.Clamp is = refl
clamp_no_cut _ is = absurd cc

pub no_clamp : (m : List Statement) (y : ℕ) → IsFaultless m → is_of m is_cut y ≡ true → is_of m is_clamp y ≡ false
no_clamp m y faultless cut = not_other is_cut is_clamp m y faultless cut_no_clamp cut

no_cut : (m : List Statement) (y : ℕ) → IsFaultless m → is_of m is_clamp y ≡ true → is_of m is_cut y ≡ false
no_cut m y faultless clamp = not_other is_clamp is_cut m y faultless clamp_no_cut clamp

-- ---- a mark is within the greatest length

of_zero : (o : Option ℕ) → ((n : ℕ) → o ≡ Some n → n ≤ most_length) → unwrap_or o 0 ≤ most_length
of_zero None within = omega arith
of_zero (Some n) within = within n refl

stated_within : (m : List Statement) (y : ℕ) (k : KnownProp) (n : ℕ) → value_of length_said m y k ≡ Some n → n ≤ most_length
stated_within m y k n is = let stated : IsStated length_said m y k n = value_stated length_said m y k n is in said_within stated.object n stated.read

pub mark_within : (m : List Statement) (y : ℕ) → mark_length m y ≤ most_length
mark_within m y = of_zero (or_else (value_of length_said m y property.clamp_length) (value_of length_said m y property.cut_length)) (λ n is.
    ⊎_elim (stated_within m y property.clamp_length n) (stated_within m y property.cut_length n) (either_value (value_of length_said m y property.clamp_length) (value_of length_said m y property.cut_length) n is))

-- ---- its length is the one that the rules speak of

form_said : (m : List Statement) (x : ℕ) (k : KnownProp) (o : Object) → IsFaultless m → Among values k → counts m x k ≡ true → Among (said m x k) o → has_form k o ≡ true
form_said m x k o faultless listed counted there =
    let kept : breaks_form m x ≡ false = breaks_no_rule m 7 x faultless (said_subject m x k o there) in
    let right : list_any (λ o. not (has_form k o)) (said m x k) ≡ false = and_first_false (list_any (λ o. not (has_form k o)) (said m x k)) (counts m x k) (none_among (states_wrongly m x) values k kept listed) counted in
    not-false (has_form k o) (none_among (λ o. not (has_form k o)) (said m x k) o right there)

first_length : (o : Option ℕ) (more : List ℕ) → is_some o ≡ true → Among (cons_option o more) (unwrap_or (first (cons_option o more)) 0)
first_length None more some = absurd cc
first_length (Some n) more some = inl refl

length_or_zero : (os : List Object) → ((o : Object) → Among os o → is_some (length_said o) ≡ true) → Among (or_zero os) (unwrap_or (first (filter_map length_said os)) 0)
length_or_zero [] read = inl refl
length_or_zero (o ∷ os) read = first_length (length_said o) (filter_map length_said os) (read o (inl refl))

or_else_none : {V : Type 0} (a : Option V) → or_else a None ≡ a
or_else_none None = refl
or_else_none (Some v) = refl

cut_length : (m : List Statement) (y : ℕ) → IsFaultless m → is_of m is_cut y ≡ true → Among (cut_lengths m y) (mark_length m y)
cut_length m y faultless cut =
    rw (uncounted length_said m y property.clamp_length (no_clamp m y faultless cut), cut)
    (length_or_zero (said m y property.cut_length) (λ o there. form_said m y property.cut_length o faultless (inr (inr (inr (inr (inr (inr (inl refl))))))) cut there))

clamp_length : (m : List Statement) (y : ℕ) → IsFaultless m → is_of m is_clamp y ≡ true → Among (clamp_lengths m y) (mark_length m y)
clamp_length m y faultless clamp =
    rw (uncounted length_said m y property.cut_length (no_cut m y faultless clamp), or_else_none (value_of length_said m y property.clamp_length), clamp)
    (length_or_zero (said m y property.clamp_length) (λ o there. form_said m y property.clamp_length o faultless (inr (inr (inr (inr (inr (inl refl)))))) clamp there))

-- ---- it is among the cuts or the clamps of its segment

cut_states : (m : List Statement) (x y : ℕ) → IsFaultless m → is_of m is_cut y ≡ true → segment_of m y ≡ Some x → IsStated id_said m y property.cut_segment x
cut_states m x y faultless cut on = value_stated id_said m y property.cut_segment x (rw (uncounted id_said m y property.clamp_segment (no_clamp m y faultless cut)) at on)

pub mark_listed : (m : List Statement) (x y : ℕ) → segment_of m y ≡ Some x → Among (cuts_of m x) y ⊎ Among (clamps_of m x) y
mark_listed m x y on = elim (either_value (value_of id_said m y property.clamp_segment) (value_of id_said m y property.cut_segment) x on) [
  | inl clamp ↦ (let stated = value_stated id_said m y property.clamp_segment x clamp in inr (among_filter (is_of m is_clamp) (naming m property.clamp_segment x) y (says_naming m property.clamp_segment x y stated.object stated.said stated.read) stated.counts))
  | inr cut ↦ (let stated = value_stated id_said m y property.cut_segment x cut in inl (among_filter (is_of m is_cut) (naming m property.cut_segment x) y (says_naming m property.cut_segment x y stated.object stated.said stated.read) stated.counts))
]

-- ---- no cut is at the length of another mark

place_free : (m : List Statement) (x y : ℕ) → IsFaultless m → is_of m is_cut y ≡ true → segment_of m y ≡ Some x → shares_place m y (cut_lengths m y) x ≡ false
place_free m x y faultless cut on =
    let kept : breaks_place m y ≡ false = breaks_no_rule m 8 y faultless (of_class_is_subject m is_cut y cut) in
    let stated : IsStated id_said m y property.cut_segment x = cut_states m x y faultless cut on in
    let placed : is_cut_misplaced m y ≡ false = of_cut (is_of m is_clamp y) (is_clamp_misplaced m y) (is_of m is_cut y) (is_cut_misplaced m y) kept cut in
    let free = none_among (λ s. is_beyond (cut_lengths m y) (stated_lengths m s) || shares_place m y (cut_lengths m y) s) (ids_said m y property.cut_segment) x placed
    (among_filter_map id_said (said m y property.cut_segment) stated.object x stated.said stated.read) in
    (or_parts (is_beyond (cut_lengths m y) (stated_lengths m x)) (shares_place m y (cut_lengths m y) x) free).1
  where
    of_cut : (a b c d : Bool) → (a && b || c && d) ≡ false → c ≡ true → d ≡ false
    of_cut a b true d h is = (or_parts (a && b) d h).1
    of_cut a b false d h is = absurd cc

shared : (ns ms : List ℕ) (n : ℕ) → Among ns n → Among ms n → share_one ns ms ≡ true
shared ns ms n here there = among_any (λ k. list_any (nat_eq k) ms) ns n here (among_any (nat_eq n) ms n there (equal_itself n))

other_shares : (y z : ℕ) (ns ms : List ℕ) (n k : ℕ) → y ≢ z → n ≡ k → Among ns n → Among ms k → (not (z == y) && share_one ns ms) ≡ false → ⊥
other_shares y z ns ms n k other same here there none = differs (z == y) refl
  where
    shares : share_one ns ms ≡ true
    shares = shared ns ms n here (subst (Among ms) (sym same) there)

    differs : (b : Bool) → (z == y) ≡ b → ⊥
    differs true is = other (sym (eqb-true z y is))
    differs false is = let both : (not (z == y) && share_one ns ms) ≡ true = rw (is, shares) refl in cc

pub cut_apart : (m : List Statement) (x y z : ℕ) → IsFaultless m → is_of m is_cut y ≡ true → segment_of m y ≡ Some x → segment_of m z ≡ Some x → y ≢ z → mark_length m y ≡ mark_length m z → ⊥
cut_apart m x y z faultless cut on on' other same =
    let free = or_parts (shares_with_cut m y (cut_lengths m y) x) (shares_with_clamp m y (cut_lengths m y) x) (place_free m x y faultless cut on) in
    let own = cut_length m y faultless cut in
    elim (mark_listed m x z on') [
      | inl cut' ↦ other_shares y z (cut_lengths m y) (cut_lengths m z) (mark_length m y) (mark_length m z) other same own (cut_length m z faultless (among_filter_passes (is_of m is_cut) (naming m property.cut_segment x) z cut'))
          (none_among (λ v. not (v == y) && share_one (cut_lengths m y) (cut_lengths m v)) (cuts_of m x) z free.0 cut')
      | inr clamp' ↦ other_shares y z (cut_lengths m y) (clamp_lengths m z) (mark_length m y) (mark_length m z) other same own (clamp_length m z faultless (among_filter_passes (is_of m is_clamp) (naming m property.clamp_segment x) z clamp'))
          (none_among (λ v. not (v == y) && share_one (cut_lengths m y) (clamp_lengths m v)) (clamps_of m x) z free.1 clamp')
    ]

-- ---- each cut and each clamp stands on something, and nothing else does

names_one : (m : List Statement) (y : ℕ) → breaks_owner m y ≡ false → ((is_of m is_clamp y && is_empty (said m y property.clamp_segment)) ≡ false) × ((is_of m is_cut y && is_empty (said m y property.cut_segment)) ≡ false)
names_one m y kept =
    let first = is_of m is_terminal y && is_empty (said m y property.conducting_equipment) in
    let parts = or_parts (first || is_of m is_clamp y && is_empty (said m y property.clamp_segment)) (is_of m is_cut y && is_empty (said m y property.cut_segment)) kept in
    ((or_parts first (is_of m is_clamp y && is_empty (said m y property.clamp_segment)) parts.0).1, parts.1)

clamp_stands : (m : List Statement) (y : ℕ) → IsFaultless m → is_of m is_clamp y ≡ true → is_some (segment_of m y) ≡ true
clamp_stands m y faultless clamp =
    let kept : breaks_owner m y ≡ false = breaks_no_rule m 3 y faultless (of_class_is_subject m is_clamp y clamp) in
    let named = and_second_false (is_of m is_clamp y) (is_empty (said m y property.clamp_segment)) (names_one m y kept).0 clamp in
    let x = named_value m y property.clamp_segment faultless (inr (inr (inr (inr (inr (inr (inr (inl refl)))))))) (inr (inr (inl refl))) clamp named in
    ap (λ (o : Option ℕ). is_some (or_else o (value_of id_said m y property.cut_segment))) x.1

cut_stands : (m : List Statement) (y : ℕ) → IsFaultless m → is_of m is_cut y ≡ true → is_some (segment_of m y) ≡ true
cut_stands m y faultless cut =
    let kept : breaks_owner m y ≡ false = breaks_no_rule m 3 y faultless (of_class_is_subject m is_cut y cut) in
    let named = and_second_false (is_of m is_cut y) (is_empty (said m y property.cut_segment)) (names_one m y kept).1 cut in
    let x = named_value m y property.cut_segment faultless (inr (inr (inr (inr (inr (inr (inr (inr (inr (inl refl)))))))))) (inr (inr (inr (inl refl)))) cut named in
    rw (uncounted id_said m y property.clamp_segment (no_clamp m y faultless cut)) (ap (λ (o : Option ℕ). is_some o) x.1)

stands_if : (m : List Statement) (y : ℕ) (a b : Bool) → is_of m is_cut y ≡ a → is_of m is_clamp y ≡ b → IsFaultless m → is_some (segment_of m y) ≡ (a || b)
stands_if m y true b cut clamp faultless = cut_stands m y faultless cut
stands_if m y false true cut clamp faultless = clamp_stands m y faultless clamp
stands_if m y false false cut clamp faultless = rw (uncounted id_said m y property.clamp_segment clamp, uncounted id_said m y property.cut_segment cut) refl

pub mark_stands : (m : List Statement) (y : ℕ) → IsFaultless m → is_some (segment_of m y) ≡ (is_of m is_cut y || is_of m is_clamp y)
mark_stands m y faultless = stands_if m y (is_of m is_cut y) (is_of m is_clamp y) refl refl faultless
