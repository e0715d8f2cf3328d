-- Lists cut in two at a mark, and at the quote that ends the characters of a literal.
use Rattle.std.proofs.Common.{◌≡◌, ◌≢◌, ℕ, zero, suc, ◌+◌, ◌-◌, ◌<◌, ◌≤◌, List, [], ◌∷◌, ◌++◌, length, get_or, take, drop, true, ◌==◌, refl, arith, Bool, false, not, ◌&&◌, if◌then◌else◌, Option, Some, None, option_map, sym, ap, ◌∙◌, drop-cons, add-one, subst}
use Rattle.std.proofs.lemmas.Grind.{common_steps}
use Rattle.std.proofs.lemmas.Bool.Decides.{nat_tests}
use Rattle.std.proofs.lemmas.Bool.{eqb-true}
use Rattle.nt_text.specs.Quotes.{closing_at}
use Rattle.cim_words.specs.Written.{backslash, quote}
use Rattle.nt_text.specs.Cut.{IsFreeOf}

-- where the first mark stands, the front has none
pub first_at : (mark : ℕ) (bytes : List ℕ) (end : ℕ) → ((k : ℕ) → 0 ≤ k → k < end → (get_or bytes k 0 == mark) ≡ true → ⊥) → IsFreeOf mark (take end bytes)
first_at mark [] zero none = tt
first_at mark [] (suc end) none = tt
first_at mark (byte ∷ bytes) zero none = tt
first_at mark (byte ∷ bytes) (suc end) none =
    let other : byte ≢ mark = λ is. none 0 (omega arith) (omega arith) (rw is (grind (arith, nat_tests))) in
    (other, first_at mark bytes end (λ k low below is. none (suc k) (omega arith) (omega arith) is))

-- where a mark stands, it parts the bytes
pub parted_at : (mark : ℕ) (bytes : List ℕ) (end : ℕ) → end < length bytes → (get_or bytes end 0 == mark) ≡ true
    → bytes ≡ take end bytes ++ mark ∷ take (length bytes - (end + 1)) (drop (end + 1) bytes)
parted_at mark bytes end within is = let same : get_or bytes end 0 ≡ mark = grind (arith, nat_tests) in grind (arith, common_steps)

-- bytes are cut in one way at their first mark
pub one_cut : (mark : ℕ) (a b x y : List ℕ) → IsFreeOf mark a → IsFreeOf mark b → a ++ mark ∷ x ≡ b ++ mark ∷ y → (a ≡ b) × (x ≡ y)
one_cut mark [] [] x y free free' h = (refl, cc)
one_cut mark [] (c ∷ b) x y free free' h = absurd (free'.0 cc)
one_cut mark (c ∷ a) [] x y free free' h = absurd (free.0 cc)
one_cut mark (c ∷ a) (d ∷ b) x y free free' h =
    let tails : a ++ mark ∷ x ≡ b ++ mark ∷ y = cc in
    let rest = one_cut mark a b x y free.1 free'.1 tails in
    let heads : c ≡ d = cc in
    let fronts : a ≡ b = rest.0 in
    let both : c ∷ a ≡ d ∷ b = cc in (both, rest.1)

-- bytes with a mark have a place where it stands
pub has_mark : (mark : ℕ) (bytes front rest : List ℕ) → bytes ≡ front ++ mark ∷ rest → ((k : ℕ) → 0 ≤ k → k < length bytes → (get_or bytes k 0 == mark) ≡ true → ⊥) → ⊥
has_mark mark bytes front rest h none =
    let within : length front < length bytes = grind (arith, common_steps) in
    let stands : get_or bytes (length front) 0 ≡ mark = grind (arith, common_steps) in
    none (length front) (omega arith) within (rw stands (grind (arith, nat_tests)))

-- free parts make a free whole
pub IsFreeOf-append : (mark : ℕ) (a b : List ℕ) → IsFreeOf mark a → IsFreeOf mark b → IsFreeOf mark (a ++ b)
IsFreeOf-append mark [] b free free' = free'
IsFreeOf-append mark (c ∷ a) b free free' = (free.0, IsFreeOf-append mark a b free.1 free')

-- ---- where the characters of a literal end

shifted : (index : ℕ) (o : Option ℕ) → option_map (λ n. (index + 1) + n) o ≡ option_map (λ n. index + n) (option_map (λ n. suc n) o)
shifted index None = refl
shifted index (Some n) = let same : (index + 1) + n ≡ index + suc n = omega arith in ap Some same

-- a byte that does not end the characters is passed
pub closing_passes : (bytes : List ℕ) (index : ℕ) (escaped : Bool) → index < length bytes → (not escaped && get_or bytes index 0 == quote) ≡ false
    → option_map (λ n. (index + 1) + n) (closing_at (not escaped && get_or bytes index 0 == backslash) (drop (index + 1) bytes))
    ≡ option_map (λ n. index + n) (closing_at escaped (drop index bytes))
closing_passes bytes index escaped within goes =
    shifted index (closing_at (not escaped && get_or bytes index 0 == backslash) (drop (index + 1) bytes))
    ∙ sym (ap (option_map (λ n. index + n)) here)
  where
    here : closing_at escaped (drop index bytes) ≡ option_map (λ n. suc n) (closing_at (not escaped && get_or bytes index 0 == backslash) (drop (index + 1) bytes))
    here = rw (drop-cons bytes index 0, goes, add-one) refl

none_shifted : (o : Option ℕ) (n : ℕ) → option_map (λ n. suc n) o ≡ Some n → (m : ℕ) × (o ≡ Some m) × (n ≡ suc m)
none_shifted None n is = absurd cc
none_shifted (Some m) n is = (m, refl, let same : n ≡ suc m = cc in same)

-- the quote stands there, and it parts the bytes
quote_at : (escaped : Bool) (byte : ℕ) (bytes : List ℕ) (end : ℕ) (closes : Bool) → (not escaped && byte == quote) ≡ closes
    → (if closes then Some 0 else option_map (λ n. suc n) (closing_at (not escaped && byte == backslash) bytes)) ≡ Some end
    → ((escaped' : Bool) (n : ℕ) → closing_at escaped' bytes ≡ Some n → bytes ≡ take n bytes ++ quote ∷ drop (suc n) bytes)
    → byte ∷ bytes ≡ take end (byte ∷ bytes) ++ quote ∷ drop (suc end) (byte ∷ bytes)
quote_at escaped byte bytes end true is at more =
    let first : end ≡ 0 = cc in
    let mark = mark_of escaped is in
    rw (first, mark) refl
  where
    mark_of : (e : Bool) → (not e && byte == quote) ≡ true → byte ≡ quote
    mark_of true h = absurd cc
    mark_of false h = eqb-true byte quote h
quote_at escaped byte bytes end false is at more =
    let next = none_shifted (closing_at (not escaped && byte == backslash) bytes) end at in
    let parts = more (not escaped && byte == backslash) next.0 next.1 in
    let P : ℕ → Type 0 = λ e. byte ∷ bytes ≡ take e (byte ∷ bytes) ++ quote ∷ drop (suc e) (byte ∷ bytes) in
    subst P (sym next.2) (ap (λ (l : List ℕ). byte ∷ l) parts)

pub quote_parts : (escaped : Bool) (bytes : List ℕ) (end : ℕ) → closing_at escaped bytes ≡ Some end → bytes ≡ take end bytes ++ quote ∷ drop (suc end) bytes
quote_parts escaped [] end at = absurd cc
quote_parts escaped (byte ∷ bytes) end at = quote_at escaped byte bytes end (not escaped && byte == quote) refl at (λ e n. quote_parts e bytes n)

-- the same, as a slice is cut
pub quote_cuts : (bytes : List ℕ) (end : ℕ) → end < length bytes → closing_at false bytes ≡ Some end
    → bytes ≡ take end bytes ++ quote ∷ take (length bytes - (end + 1)) (drop (end + 1) bytes)
quote_cuts bytes end within at = let parts = quote_parts false bytes end at in grind (arith, common_steps)
