-- What is left of bytes whose front was read.
use Rattle.std.proofs.Common.{◌≡◌, ◌↔◌, ℕ, ◌+◌, ◌<◌, min, List, [], ◌∷◌, ◌++◌, length, take, drop, refl, sym, arith}
use Rattle.std.proofs.lemmas.List.{take-append-drop, drop-drop}
use Rattle.std.proofs.lemmas.Grind.{common_steps}

-- what was left is what was read and what is left behind it
pub read_and_left : (bytes left read : List ℕ) (taken count : ℕ) →
    left ≡ drop taken bytes → read ≡ take count left → left ≡ read ++ drop (taken + count) bytes
read_and_left bytes left read taken count all front =
    rw front (rw (← drop-drop count taken bytes) (rw (← all) (sym (take-append-drop count left))))

-- where there is space, nothing is read exactly where nothing is left
pub none_read_where_none_left : (space count : ℕ) (left : List ℕ) → 0 < space → count ≡ min space (length left) →
    (count ≡ 0) ↔ (left ≡ [])
none_read_where_none_left space count [] some e = (λ none. refl, λ none. grind (arith, common_steps))
none_read_where_none_left space count (x ∷ rest) some e =
    (λ none. grind (arith, common_steps), λ none. grind (arith, common_steps))
