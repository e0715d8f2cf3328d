-- The words of a line, one after the other, and what stands behind and before a mark.
use Rattle.std.proofs.Common.{Bor, ◌≡◌, ◌≢◌, ℕ, suc, arith, List, [], ◌∷◌, ◌++◌, Bool, true, false, take, drop, Option, Some, None, IfSome, IsSomeAnd, MatchOption, refl, sym, ap, ◌∙◌}
use Rattle.std.specs.List.{onto_first, position_or_len, slice_split}
use Rattle.std.proofs.lemmas.List.{append_cancel_left, append_cancel_right}
use Rattle.wire.specs.Reading.{fields_of}
use Rattle.wire.specs.Words.{is_space, words_of}

abbrev IsCut : List ℕ → Type 0
IsCut xs = slice_split is_space xs ≡ take (position_or_len is_space xs) xs ∷ fields_of (drop (position_or_len is_space xs) xs)

cut_on : (x : ℕ) (xs : List ℕ) (b : Bool) → is_space x ≡ b → IsCut xs → IsCut (x ∷ xs)
unfolding words_of
cut_on x xs true is later = rw is refl
cut_on x xs false is later =
    let one_more : position_or_len is_space (x ∷ xs) ≡ suc (position_or_len is_space xs) = rw is (omega arith) in
    let parts : slice_split is_space (x ∷ xs) ≡ onto_first x (slice_split is_space xs) = rw is refl in
    parts ∙ ap (onto_first x) later ∙ sym (ap (λ (k : ℕ). take k (x ∷ xs) ∷ fields_of (drop k (x ∷ xs))) one_more)

cut : (xs : List ℕ) → IsCut xs
cut [] = refl
cut (x ∷ xs) = cut_on x xs (is_space x) refl (cut xs)

-- the first word ends at the first space, or where the line does
pub first_word : (line : List ℕ) → words_of line ≡ take (position_or_len is_space line) line ∷ fields_of (drop (position_or_len is_space line) line)
unfolding words_of
first_word line = cut line

-- ---- marks

pub behind_found : (o : Option (Bor (List ℕ))) (word mark : List ℕ)
    → MatchOption o ((rest : List ℕ) → word ≢ mark ++ rest) (λ x. word ≡ mark ++ x.now) → IfSome o (λ x. word ≡ mark ++ x.now)
behind_found None word mark is = tt
behind_found (Some x) word mark is = is

pub behind_only : (o : Option (Bor (List ℕ))) (word mark rest : List ℕ)
    → MatchOption o ((rest : List ℕ) → word ≢ mark ++ rest) (λ x. word ≡ mark ++ x.now) → word ≡ mark ++ rest → IsSomeAnd o (λ x. x.now ≡ rest)
behind_only None word mark rest is stands = is rest stands
behind_only (Some x) word mark rest is stands = append_cancel_left mark x.now rest (sym is ∙ stands)

pub before_found : (o : Option (Bor (List ℕ))) (word mark : List ℕ)
    → MatchOption o ((front : List ℕ) → word ≢ front ++ mark) (λ x. word ≡ x.now ++ mark) → IfSome o (λ x. word ≡ x.now ++ mark)
before_found None word mark is = tt
before_found (Some x) word mark is = is

pub before_only : (o : Option (Bor (List ℕ))) (word mark front : List ℕ)
    → MatchOption o ((front : List ℕ) → word ≢ front ++ mark) (λ x. word ≡ x.now ++ mark) → word ≡ front ++ mark → IsSomeAnd o (λ x. x.now ≡ front)
before_only None word mark front is stands = is front stands
before_only (Some x) word mark front is stands = append_cancel_right x.now front mark (sym is ∙ stands)
