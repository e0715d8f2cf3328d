-- Which words are the decimal texts of numbers.
use Rattle.std.proofs.Common.{◌≡◌, ◌≢◌, ◌<◌, ◌^◌, ℕ, List, [], ◌∷◌, length, get_or, Result, Ok, Err, true, false, true≢false, inl, inr, arith, refl, sym, ap, ◌∙◌}
use Rattle.std.proofs.lemmas.Bool.{cases_lt}
use Rattle.std.proofs.lemmas.Bool.Decides.{nat_tests}
use Rattle.std.proofs.lemmas.Fmt.{decimal-digits_value, decimal_digit, first_decimal, parse-decimal}
use Rattle.std.proofs.lemmas.Str.Parse.{numerals_by_value, parse_plain, tells_digits, IsNumeralModel}
use Rattle.std.specs.Fmt.{decimal}
use Rattle.std.specs.Str.Parse.{AllDigits, ParsesUnsigned, digits_value}
use Rattle.wire.specs.Reading.{is_padded}

own : IsNumeralModel (AllDigits 10) (digits_value 10)
own = numerals_by_value (AllDigits 10) tells_digits

-- a decimal text has no sign and no leading zero
pub decimal_unpadded : (n : ℕ) → n < 2 ^ 64 → is_padded (decimal n) ≡ false
decimal_unpadded n fits = elim (cases_lt 0 n) [
  | inl more ↦ (let above = first_decimal n more fits in grind (arith, nat_tests))
  | inr none ↦ (let zero : n ≡ 0 = omega arith in let text : decimal n ≡ 48 ∷ [] = ap decimal zero ∙ decimal_digit 0 (omega arith) in rw text refl)
]

pub padded_none : (word : List ℕ) → is_padded word ≡ true → (n : ℕ) → n < 2 ^ 64 → word ≡ decimal n → ⊥
padded_none word padded n fits is = true≢false (sym padded ∙ ap is_padded is ∙ decimal_unpadded n fits)

-- what is parsed of a word without sign and leading zeros has that word as its decimal text (whatever an error of parsing says)
abbrev Parses : List ℕ → Result ℕ (Unit {0}) → Type 0
Parses word r = ParsesUnsigned 64 10 word r

pub parsed_is : (word : List ℕ) (n : ℕ) → is_padded word ≡ false → Parses word (Ok n) → word ≡ decimal n
parsed_is word n unpadded parses =
    let no_plus : get_or word 0 0 ≢ 43 = grind (arith, nat_tests) in
    let is = parse_plain own {E = Unit {0}} 64 word (Ok n) parses no_plus in
    let alone = λ (zero : get_or word 0 0 ≡ 48). one_alone word unpadded zero is.0.1 in
    sym (ap decimal is.1 ∙ decimal-digits_value own word is.0.0 is.0.1 alone is.0.2)
  where
    one_alone : (word : List ℕ) → is_padded word ≡ false → get_or word 0 0 ≡ 48 → 0 < length word → length word ≡ 1
    one_alone word unpadded zero some = grind (arith, nat_tests)

-- the decimal text of a number is parsed as that number
pub parsed_one : (word : List ℕ) (r : Result ℕ (Unit {0})) → Parses word r → (n : ℕ) → n < 2 ^ 64 → word ≡ decimal n → r ≡ Ok n
parsed_one word r parses n fits is = parse-decimal 64 n word r fits fits is parses

pub parsed_none : (word : List ℕ) → Parses word (Err tt) → (n : ℕ) → n < 2 ^ 64 → word ≡ decimal n → ⊥
parsed_none word parses n fits is = let same = parsed_one word (Err tt) parses n fits is in absurd cc
