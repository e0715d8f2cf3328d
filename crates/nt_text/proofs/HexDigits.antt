-- Hexadecimal digits and their values, and numbers of up to eight of them.
use Rattle.std.proofs.Common.{ℕ, zero, suc, ◌+◌, ◌*◌, ◌<◌, ◌^◌, arith, ◌≡◌, ◌==◌, true, refl, sym, ap, ◌∙◌}
use Rattle.std.proofs.lemmas.Bool.{agree_below_at, eqb-true}
use Rattle.std.specs.Char.{digit_value}
use Rattle.cim_words.specs.Written.{hex_digit}

-- a number of fewer than eight digits has room for one more
pub hex_room : (i n : ℕ) → i < 8 → n < 16 ^ i → n * 16 + 15 < 2 ^ 32
hex_room zero n few below = omega arith
hex_room (suc zero) n few below = omega arith
hex_room (suc (suc zero)) n few below = omega arith
hex_room (suc (suc (suc zero))) n few below = omega arith
hex_room (suc (suc (suc (suc zero)))) n few below = omega arith
hex_room (suc (suc (suc (suc (suc zero))))) n few below = omega arith
hex_room (suc (suc (suc (suc (suc (suc zero)))))) n few below = omega arith
hex_room (suc (suc (suc (suc (suc (suc (suc zero))))))) n few below = omega arith
hex_room (suc (suc (suc (suc (suc (suc (suc (suc i)))))))) n few below = absurd (omega arith)

-- the value of a digit that is written
pub digit_value-hex_digit : (d : ℕ) → d < 16 → digit_value (hex_digit d) ≡ d
digit_value-hex_digit d small = eqb-true (digit_value (hex_digit d)) d (agree_below_at (λ n. digit_value (hex_digit n) == n) (λ n. true) 16 d refl small)

-- so different digits are written differently
pub same_digit : (c d : ℕ) → c < 16 → d < 16 → hex_digit c ≡ hex_digit d → c ≡ d
same_digit c d small small' same = sym (digit_value-hex_digit c small) ∙ ap digit_value same ∙ digit_value-hex_digit d small'
