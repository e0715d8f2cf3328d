-- A number that a text spells fits into 128 bits.
use Rattle.std.proofs.Common.{◌≡◌, ◌<◌, ◌+◌, ◌*◌, ◌^◌, ◌&&◌, ◌==◌, ℕ, List, Option, Some, None, Bool, true, false, if◌then◌else◌, ◌-◌, length, take, drop, get_or, option_map, slice_index, arith, refl}
use Rattle.std.proofs.lemmas.Bool.Decides.{nat_tests}
use Rattle.std.proofs.lemmas.List.Sums.{AllPass-from_list_all}
use Rattle.std.specs.Int.{from_be_bytes, w128}
use Rattle.std.specs.List.{list_all}
use Rattle.std.proofs.lemmas.Bool.{and_parts}
use Rattle.plain_laws.proofs.Options.{if_then_some}
use Rattle.uuid.specs.Text.{by_index, parsed_simple, digits_of, has_hyphens, is_hex_digit, value_of, byte_of_digits}
use Rattle.uuid.proofs.TextLemmas.{by_index_at}
use Rattle.cim_words.specs.IdText.{plain_number, iri_number, is_iri_head}

bytes_below : (bytes : List ℕ) → ((i : ℕ) → i < 16 → slice_index bytes i < 256) → from_be_bytes w128 bytes < 2 ^ 128
bytes_below bytes fit =
    let b0 = fit 0 (omega arith) in
    let b1 = fit 1 (omega arith) in
    let b2 = fit 2 (omega arith) in
    let b3 = fit 3 (omega arith) in
    let b4 = fit 4 (omega arith) in
    let b5 = fit 5 (omega arith) in
    let b6 = fit 6 (omega arith) in
    let b7 = fit 7 (omega arith) in
    let b8 = fit 8 (omega arith) in
    let b9 = fit 9 (omega arith) in
    let b10 = fit 10 (omega arith) in
    let b11 = fit 11 (omega arith) in
    let b12 = fit 12 (omega arith) in
    let b13 = fit 13 (omega arith) in
    let b14 = fit 14 (omega arith) in
    let b15 = fit 15 (omega arith) in
    omega arith

value_fits : (digit : ℕ) → is_hex_digit digit ≡ true → value_of digit < 16
value_fits digit hex = grind (arith, nat_tests)

taken : {X : Type 0} (test : Bool) (value : Option X) (f : X → ℕ) (n : ℕ) → option_map f (if test then value else None) ≡ Some n
    → (test ≡ true) × (option_map f value ≡ Some n)
taken true value f n some = (refl, some)
taken false value f n some = cc

simple_below : (hex : List ℕ) (n : ℕ) → option_map (from_be_bytes w128) (parsed_simple hex) ≡ Some n → n < 2 ^ 128
simple_below hex n some =
    let read = taken ((length hex == 32) && list_all is_hex_digit hex) (Some (by_index 16 (byte_of_digits hex))) (from_be_bytes w128) n some in
    let tests = and_parts (length hex == 32) (list_all is_hex_digit hex) read.0 in
    let long : length hex ≡ 32 = grind (arith, nat_tests, tests.0) in
    let digit = λ (k : ℕ) (within : k < 32). value_fits (get_or hex k 0) (AllPass-from_list_all is_hex_digit hex tests.1 k 0 (omega arith)) in
    let below = bytes_below (by_index 16 (byte_of_digits hex))
    (λ i within. rw (by_index_at 16 (byte_of_digits hex) i 0 within) (omega (arith, digit (2 * i) (omega arith), digit (2 * i + 1) (omega arith)))) in
    let number : from_be_bytes w128 (by_index 16 (byte_of_digits hex)) ≡ n = cc (read.1) in
    rw (← number) below

-- the number of a plain identifier fits into 128 bits
pub plain_number-below : (text : List ℕ) (n : ℕ) → plain_number text ≡ Some n → n < 2 ^ 128
unfolding plain_number
plain_number-below text n some =
    simple_below (digits_of text) n (taken ((length text == 36) && has_hyphens text) (parsed_simple (digits_of text)) (from_be_bytes w128) n some).1

-- the number of an IRI fits into 128 bits
pub iri_number-below : (text : List ℕ) (n : ℕ) → iri_number text ≡ Some n → n < 2 ^ 128
unfolding iri_number
iri_number-below text n some =
    plain_number-below _ n (if_then_some (is_iri_head (take (length text - 36) text)) (plain_number (drop (length text - 36) text)) n some).1
