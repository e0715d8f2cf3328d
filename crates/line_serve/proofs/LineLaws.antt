-- Bytes of one line: where its end stands, when it is too long, and its carriage return.
use Rattle.std.proofs.Common.{◌≡◌, ◌≢◌, ℕ, zero, suc, ◌+◌, ◌-◌, ◌<◌, ◌≤◌, ◌==◌, Bool, true, false, not, ◌&&◌, IsTrue, List, [], ◌∷◌, ◌++◌, length, take, get_or, Option, Some, None, IfSome, IfNone, Bor, refl, sym, ap, ◌∙◌, arith, append_assoc, subst}
use Rattle.std.proofs.lemmas.Grind.{common_steps}
use Rattle.std.proofs.lemmas.Bool.Decides.{nat_tests}
use Rattle.std.proofs.lemmas.List.{take-append-le}
use Rattle.std.proofs.lemmas.List.Folds.{list_all-append}
use Rattle.std.proofs.Math.Seq.{take-length}
use Rattle.cim_words.specs.Written.{carriage_return, line_feed}
use Rattle.line_serve.specs.AnsweredLines.{is_one_line, most_line, without_return}
use Rattle.line_serve.specs.Parts.{IsTooLong}

-- a test that fails is one whose opposite holds
other : (test : Bool) → (test ≡ true → ⊥) → not test ≡ true
other true never = absurd (never refl)
other false never = refl

pub both : (a b : Bool) → a ≡ true → b ≡ true → (a && b) ≡ true
both a b one two = rw (one, two) refl

first_of : (a b : Bool) → (a && b) ≡ true → a ≡ true
first_of true b h = refl
first_of false b h = absurd cc

second_of : (a b : Bool) → (a && b) ≡ true → b ≡ true
second_of true b h = h
second_of false b h = absurd cc

-- no line feed stands in front of the first one
pub front_is_one_line : (bytes : List ℕ) (end : ℕ) → ((k : ℕ) → 0 ≤ k → k < end → (get_or bytes k 0 == line_feed) ≡ true → ⊥)
    → IsTrue (is_one_line (take end bytes))
front_is_one_line [] zero none = refl
front_is_one_line [] (suc end) none = refl
front_is_one_line (byte ∷ bytes) zero none = refl
front_is_one_line (byte ∷ bytes) (suc end) none =
    both (not (byte == line_feed)) (is_one_line (take end bytes)) (other (byte == line_feed) (λ is. none 0 (omega arith) (omega arith) is))
    (front_is_one_line bytes end (λ k low below is. none (suc k) (omega arith) (omega arith) is))

-- where there is no line feed, all is one line
pub whole_is_one_line : (bytes : List ℕ) → ((k : ℕ) → 0 ≤ k → k < length bytes → (get_or bytes k 0 == line_feed) ≡ true → ⊥)
    → IsTrue (is_one_line bytes)
whole_is_one_line bytes none =
    subst (λ (l : List ℕ). IsTrue (is_one_line l)) (take-length bytes) (front_is_one_line bytes (length bytes) none)

-- two parts of one line are one line
pub one_line_more : (a b : List ℕ) → IsTrue (is_one_line a) → IsTrue (is_one_line b) → IsTrue (is_one_line (a ++ b))
one_line_more a b one two = list_all-append _ a b ∙ both (is_one_line a) (is_one_line b) one two

-- a front part of one line is one
pub one_line_front : (n : ℕ) (bytes : List ℕ) → IsTrue (is_one_line bytes) → IsTrue (is_one_line (take n bytes))
one_line_front zero [] one = refl
one_line_front (suc n) [] one = refl
one_line_front zero (byte ∷ bytes) one = refl
one_line_front (suc n) (byte ∷ bytes) one =
    both (not (byte == line_feed)) (is_one_line (take n bytes)) (first_of (not (byte == line_feed)) (is_one_line bytes) one)
    (one_line_front n bytes (second_of (not (byte == line_feed)) (is_one_line bytes) one))

-- a line of two parts that is too long
pub too_long : (a b : List ℕ) → IsTrue (is_one_line a) → IsTrue (is_one_line b) → most_line < length a + length b → IsTooLong (a ++ b)
too_long a b one two long = record {
  long = grind (arith, common_steps);
  one_line = one_line_front (most_line + 1) (a ++ b) (one_line_more a b one two);
}

-- what follows a line that is too long does not matter
pub too_long_more : (a b : List ℕ) → IsTooLong a → IsTooLong (a ++ b)
too_long_more a b is =
    let within : most_line + 1 ≤ length a = omega (arith, is.long) in
    record {
      long = grind (arith, common_steps, is.long);
      one_line = subst (λ (l : List ℕ). IsTrue (is_one_line l)) (sym (take-append-le (most_line + 1) a b within)) is.one_line;
    }

-- the same, where a line ends among bytes or does not
pub too_long_among : (begun piece bytes : List ℕ) (behind : Option (Bor (List ℕ))) → IfSome behind (λ b. bytes ≡ piece ++ line_feed ∷ b.now)
    → IfNone behind (piece ≡ bytes) → IsTooLong (begun ++ piece) → IsTooLong (begun ++ bytes)
too_long_among begun piece bytes None some none is = rw none at is
too_long_among begun piece bytes (Some b) some none is =
    subst IsTooLong (append_assoc begun piece (line_feed ∷ b.now) ∙ ap (λ l. begun ++ l) (sym some)) (too_long_more (begun ++ piece) (line_feed ∷ b.now) is)

-- the carriage return at the end of a line is dropped
drops_return : (line : List ℕ) (n d : ℕ) → length line ≡ n + 1 → get_or line n d ≡ carriage_return → take n line ≡ without_return line
drops_return [] n d is last = absurd (omega arith)
drops_return (byte ∷ []) zero d is last = rw last refl
drops_return (byte ∷ []) (suc n) d is last = absurd (omega arith)
drops_return (byte ∷ next ∷ rest) zero d is last = absurd (omega arith)
drops_return (byte ∷ next ∷ rest) (suc n) d is last =
    ap (λ (l : List ℕ). byte ∷ l) (drops_return (next ∷ rest) n d (omega arith) last)

-- a line with no carriage return at its end stays as it is
keeps_line : (line : List ℕ) (n d : ℕ) → length line ≡ n + 1 → (get_or line n d ≡ carriage_return → ⊥) → line ≡ without_return line
keeps_line [] n d is none = refl
keeps_line (byte ∷ []) zero d is none = let other_byte : byte ≢ carriage_return = none in grind (arith, nat_tests)
keeps_line (byte ∷ []) (suc n) d is none = absurd (omega arith)
keeps_line (byte ∷ next ∷ rest) zero d is none = absurd (omega arith)
keeps_line (byte ∷ next ∷ rest) (suc n) d is none =
    ap (λ (l : List ℕ). byte ∷ l) (keeps_line (next ∷ rest) n d (omega arith) none)

-- the same of a line that is held elsewhere
pub drops_the_return : (held line : List ℕ) (count d : ℕ) → held ≡ line → count ≡ length line → 0 < count
    → get_or line (count - 1) d ≡ carriage_return → take (count - 1) held ≡ without_return line
drops_the_return held line count d same is some last =
    ap (take (count - 1)) same ∙ drops_return line (count - 1) d (omega arith) last

pub keeps_the_line : (held line : List ℕ) (count d : ℕ) → held ≡ line → count ≡ length line → 0 < count
    → (get_or line (count - 1) d ≡ carriage_return → ⊥) → held ≡ without_return line
keeps_the_line held line count d same is some none = same ∙ keeps_line line (count - 1) d (omega arith) none

pub keeps_no_line : (held line : List ℕ) (count : ℕ) → held ≡ line → count ≡ length line → count ≡ 0 → held ≡ without_return line
keeps_no_line held [] count same is none = same
keeps_no_line held (byte ∷ line) count same is none = absurd (omega arith)
