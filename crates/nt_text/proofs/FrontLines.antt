-- The first end of a line in bytes.
use Rattle.std.proofs.Common.{◌≡◌, ℕ, ◌+◌, ◌-◌, ◌<◌, ◌≤◌, ◌==◌, ◌||◌, List, Bool, true, length, get_or, take, drop, refl, subst, inl, inr, arith}
use Rattle.std.proofs.lemmas.Bool.{eqb-true, or_cases, or_right}
use Rattle.std.proofs.lemmas.Grind.{common_steps}
use Rattle.std.proofs.lemmas.List.{take_all}
use Rattle.cim_words.specs.Written.{line_feed, carriage_return}
use Rattle.nt_text.specs.ReaderSteps.{IsPlain, IsEnd, IsFrontLine}
use Rattle.nt_text.proofs.Cuts.{first_at}

abbrev is_end : ℕ → Bool
is_end byte = (byte == line_feed) || (byte == carriage_return)

-- before the first end there is none
plain_before : (bytes : List ℕ) (end : ℕ) → ((k : ℕ) → 0 ≤ k → k < end → is_end (get_or bytes k 0) ≡ true → ⊥) → IsPlain (take end bytes)
plain_before bytes end none = record {
  no_feed = first_at line_feed bytes end (λ k low below is. none k low below (rw is refl));
  no_return = first_at carriage_return bytes end (λ k low below is. none k low below (or_right (get_or bytes k 0 == line_feed) _ is));
}

-- bytes without an end
pub none_ends : (bytes : List ℕ) → ((k : ℕ) → 0 ≤ k → k < length bytes → is_end (get_or bytes k 0) ≡ true → ⊥) → IsPlain bytes
none_ends bytes none = subst IsPlain (take_all (length bytes) bytes (omega arith)) (plain_before bytes (length bytes) none)

one_of : (byte : ℕ) → is_end byte ≡ true → IsEnd byte
one_of byte is =
    elim (or_cases (byte == line_feed) (byte == carriage_return) is)
    [ inl e ↦ inl (eqb-true byte line_feed e) | inr e ↦ inr (eqb-true byte carriage_return e) ]

-- bytes parted at their first end
pub first_end : (bytes : List ℕ) (end : ℕ) → ((k : ℕ) → 0 ≤ k → k < end → is_end (get_or bytes k 0) ≡ true → ⊥) → end < length bytes
    → is_end (get_or bytes end 0) ≡ true
    → IsFrontLine bytes (take end bytes) (get_or bytes end 0) (take (length bytes - (end + 1)) (drop (end + 1) bytes))
first_end bytes end none within is = record {
  parts = grind (arith, common_steps);
  plain = plain_before bytes end none;
  ends = one_of (get_or bytes end 0) is;
}
