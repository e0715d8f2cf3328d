-- Words that spell a value have ASCII bytes alone.
use Rattle.std.proofs.Common.{◌≡◌, ◌<◌, ◌-◌, ◌^◌, ◌&&◌, ◌==◌, ◌⊎◌, ℕ, List, [], ◌∷◌, ◌++◌, Option, Some, None, Bool, true, false, if◌then◌else◌, length, get_or, option_map, slice_index, inl, inr, arith, refl, sym, subst}
use Rattle.std.proofs.lemmas.Bool.{and_parts, cases_lt}
use Rattle.std.proofs.lemmas.Bool.Decides.{nat_tests}
use Rattle.std.proofs.lemmas.Fmt.{IsAscii-decimal}
use Rattle.std.proofs.lemmas.List.Sums.{AllPass-from_list_all}
use Rattle.std.proofs.lemmas.Str.{IsAscii-append, IsUtf8-from_ascii}
use Rattle.std.proofs.lemmas.Str.Ascii.{IsAscii-cons, IsAscii-from_reads, IsAscii-nil}
use Rattle.std.specs.Fmt.{decimal}
use Rattle.std.specs.Int.{from_be_bytes, w128}
use Rattle.std.specs.List.{list_all}
use Rattle.std.specs.Prelude.{codes}
use Rattle.std.specs.Str.{IsAscii, IsUtf8}
use Rattle.cim_words.specs.IdText.{plain_number}
use Rattle.cim_words.specs.Phases.{has_no_phase, phase_text, secondary_text, text_if}
use Rattle.cim_words.specs.declared.phases.PhaseSet.{PhaseSet}
use Rattle.uuid.specs.Text.{by_index, digits_of, has_hyphens, hyphen_place, is_hex_digit, parsed_simple, byte_of_digits}
use Rattle.uuid.proofs.TextLemmas.{by_index_at}

-- ---- identifiers

-- the bytes of an identifier are above the space and below 128
abbrev pub IsPlain : ℕ → Type 0
IsPlain byte = (44 < byte) × (byte < 128)

hex_plain : (digit : ℕ) → is_hex_digit digit ≡ true → IsPlain digit
hex_plain digit hex = (grind (arith, nat_tests), grind (arith, nat_tests))

taken : {X : Type 0} (test : Bool) (value : Option X) (f : X → ℕ) (n : ℕ) → option_map f (if test then value else None) ≡ Some n
    → (test ≡ true) × (option_map f value ≡ Some n)
taken true value f n some = (refl, some)
taken false value f n some = cc

digits_plain : (hex : List ℕ) (n : ℕ) → option_map (from_be_bytes w128) (parsed_simple hex) ≡ Some n → (k : ℕ) → k < 32 → IsPlain (get_or hex k 0)
digits_plain hex n some k within =
    let read = taken ((length hex == 32) && list_all is_hex_digit hex) (Some (by_index 16 (byte_of_digits hex))) (from_be_bytes w128) n some in
    let tests = and_parts (length hex == 32) (list_all is_hex_digit hex) read.0 in
    let long : length hex ≡ 32 = grind (arith, nat_tests, tests.0) in
    hex_plain (get_or hex k 0) (AllPass-from_list_all is_hex_digit hex tests.1 k 0 (omega arith))

hyphens_small : (text : List ℕ) → has_hyphens text ≡ true
    → (slice_index text 8 ≡ 45) × (slice_index text 13 ≡ 45) × (slice_index text 18 ≡ 45) × (slice_index text 23 ≡ 45)
hyphens_small text has = grind (arith, nat_tests)

-- each place of the hyphenated form is that of a digit or of a hyphen
place_of : (i : ℕ) → i < 36 → ((j : ℕ) × (j < 32) × (hyphen_place j ≡ i)) ⊎ ((i ≡ 8) ⊎ ((i ≡ 13) ⊎ ((i ≡ 18) ⊎ (i ≡ 23))))
place_of i within =
    elim (cases_lt i 8) [
      | inl low ↦ inl (i, omega arith, grind (arith, nat_tests))
      | inr high ↦ elim (cases_lt i 13) [
        | inl low ↦ elim (cases_lt i 9) [
          | inl one ↦ inr (inl (omega arith))
          | inr more ↦ inl (i - 1, omega arith, grind (arith, nat_tests))
        ]
        | inr high ↦ elim (cases_lt i 18) [
          | inl low ↦ elim (cases_lt i 14) [
            | inl one ↦ inr (inr (inl (omega arith)))
            | inr more ↦ inl (i - 2, omega arith, grind (arith, nat_tests))
          ]
          | inr high ↦ elim (cases_lt i 23) [
            | inl low ↦ elim (cases_lt i 19) [
              | inl one ↦ inr (inr (inr (inl (omega arith))))
              | inr more ↦ inl (i - 3, omega arith, grind (arith, nat_tests))
            ]
            | inr high ↦ elim (cases_lt i 24) [
              | inl one ↦ inr (inr (inr (inr (omega arith))))
              | inr more ↦ inl (i - 4, omega arith, grind (arith, nat_tests))
            ]
          ]
        ]
      ]
    ]

pub id_plain : (text : List ℕ) (n : ℕ) → plain_number text ≡ Some n → (length text ≡ 36) × ((i : ℕ) → i < 36 → IsPlain (get_or text i 0))
unfolding plain_number
id_plain text n some =
    let read = taken ((length text == 36) && has_hyphens text) (parsed_simple (digits_of text)) (from_be_bytes w128) n some in
    let tests = and_parts (length text == 36) (has_hyphens text) read.0 in
    let long : length text ≡ 36 = grind (arith, nat_tests, tests.0) in
    let hyphens = hyphens_small text tests.1 in
    let digit = λ (j : ℕ) (within : j < 32). subst IsPlain (by_index_at 32 (λ i. slice_index text (hyphen_place i)) j 0 within) (digits_plain (digits_of text) n read.1 j within) in
    let at = λ (k : ℕ). IsPlain (get_or text k 0) in (
      long,
      λ i within. elim (place_of i within) [
        | inl (j, near, is) ↦ subst at is (digit j near)
        | inr (inl is) ↦ subst at (sym is) (omega (arith, hyphens.0), omega (arith, hyphens.0))
        | inr (inr (inl is)) ↦ subst at (sym is) (omega (arith, hyphens.1), omega (arith, hyphens.1))
        | inr (inr (inr (inl is))) ↦ subst at (sym is) (omega (arith, hyphens.2), omega (arith, hyphens.2))
        | inr (inr (inr (inr is))) ↦ subst at (sym is) (omega (arith, hyphens.3), omega (arith, hyphens.3))
      ],
    )

pub id_ascii : (text : List ℕ) (n : ℕ) → plain_number text ≡ Some n → IsAscii text
id_ascii text n some =
    let plain = id_plain text n some in
    IsAscii-from_reads text 36 (omega (arith, plain.0)) (λ i within. (plain.1 i within).1)

no_value : (o : Option ℕ) → ((n : ℕ) → o ≡ Some n → ⊥) → o ≡ None
no_value None none = refl
no_value (Some n) none = absurd (none n refl)

-- a word that is not UTF-8 spells no identifier
pub no_id : (word : List ℕ) → (IsUtf8 word → ⊥) → plain_number word ≡ None
no_id word other = no_value (plain_number word) (λ n is. other (IsUtf8-from_ascii word (id_ascii word n is)))

-- ---- phases

if_ascii : (wanted : Bool) (part : List ℕ) → IsAscii part → IsAscii (text_if wanted part)
if_ascii true part ascii = ascii
if_ascii false part ascii = IsAscii-nil

letter_ascii : (letter : ℕ) → letter < 128 → IsAscii (letter ∷ [])
letter_ascii letter small = IsAscii-cons letter [] small IsAscii-nil

secondary_ascii : (s1 s2 : Bool) → IsAscii (secondary_text s1 s2)
secondary_ascii true true = IsAscii-cons 115 (codes "12") (omega arith) (IsAscii-cons 49 (codes "2") (omega arith) (letter_ascii 50 (omega arith)))
secondary_ascii true false = IsAscii-cons 115 (codes "1") (omega arith) (letter_ascii 49 (omega arith))
secondary_ascii false true = IsAscii-cons 115 (codes "2") (omega arith) (letter_ascii 50 (omega arith))
secondary_ascii false false = IsAscii-nil

-- what follows each part of a text of phases
abbrev pub from_dash : PhaseSet → List ℕ
from_dash set = text_if (has_no_phase set) (codes "-") ++ []

abbrev pub from_n : PhaseSet → List ℕ
from_n set = text_if set.n (codes "N") ++ from_dash set

abbrev pub from_s : PhaseSet → List ℕ
from_s set = secondary_text set.s1 set.s2 ++ from_n set

abbrev pub from_c : PhaseSet → List ℕ
from_c set = text_if set.c (codes "C") ++ from_s set

abbrev pub from_b : PhaseSet → List ℕ
from_b set = text_if set.b (codes "B") ++ from_c set

pub phase_ascii : (set : PhaseSet) → IsAscii (phase_text set)
unfolding phase_text
phase_ascii set =
    let none = IsAscii-append (text_if (has_no_phase set) (codes "-")) [] (if_ascii (has_no_phase set) (codes "-") (letter_ascii 45 (omega arith))) IsAscii-nil in
    let n = IsAscii-append (text_if set.n (codes "N")) (from_dash set) (if_ascii set.n (codes "N") (letter_ascii 78 (omega arith))) none in
    let s = IsAscii-append (secondary_text set.s1 set.s2) (from_n set) (secondary_ascii set.s1 set.s2) n in
    let c = IsAscii-append (text_if set.c (codes "C")) (from_s set) (if_ascii set.c (codes "C") (letter_ascii 67 (omega arith))) s in
    let b = IsAscii-append (text_if set.b (codes "B")) (from_c set) (if_ascii set.b (codes "B") (letter_ascii 66 (omega arith))) c in
    IsAscii-append (text_if set.a (codes "A")) (from_b set) (if_ascii set.a (codes "A") (letter_ascii 65 (omega arith))) b

-- a word that is not UTF-8 spells no phases, and no number
pub no_phases : (word : List ℕ) → (IsUtf8 word → ⊥) → (set : PhaseSet) → word ≡ phase_text set → ⊥
no_phases word other set is = other (subst IsUtf8 (sym is) (IsUtf8-from_ascii (phase_text set) (phase_ascii set)))

pub no_number : (word : List ℕ) → (IsUtf8 word → ⊥) → (n : ℕ) → n < 2 ^ 64 → word ≡ decimal n → ⊥
no_number word other n fits is = other (subst IsUtf8 (sym is) (IsUtf8-from_ascii (decimal n) (IsAscii-decimal n fits)))
