-- A document has one reading, since each of its lines has one.
use Rattle.std.proofs.Common.{◌≡◌, ℕ, ◌+◌, List, [], ◌∷◌, ◌++◌, length, refl, sym, ap, ◌∙◌, subst, inl, inr}
use Rattle.cim_words.specs.declared.statement.Statement.{Statement}
use Rattle.nt_text.specs.Document.{lines_of, AreRead, IsDocument, IsBadDocument}
use Rattle.nt_text.specs.Reading.{nothing, holds, refused, IsReading}
use Rattle.nt_text.specs.declared.refusal.LineRefusal.{LineRefusal}
use Rattle.nt_text.proofs.OneReading.{one_reading}

holds_one : (s t : Statement) → holds s ≡ holds t → s ≡ t
holds_one s t same = cc

-- lines hold one list of statements
pub one_list : (lines : List (List ℕ)) (s t : List Statement) → AreRead lines s → AreRead lines t → s ≡ t
one_list [] s t is is' = is ∙ sym is'
one_list (line ∷ lines) s t (inl is) (inl is') = one_list lines s t is.1 is'.1
one_list (line ∷ lines) s t (inl is) (inr is') = absurd (let z : nothing ≡ holds is'.0 = one_reading line nothing (holds is'.0) is.0 is'.2 in cc)
one_list (line ∷ lines) s t (inr is) (inl is') = absurd (let z : holds is.0 ≡ nothing = one_reading line (holds is.0) nothing is.2 is'.0 in cc)
one_list (line ∷ lines) s t (inr is) (inr is') =
    let first : is.0 ≡ is'.0 = holds_one is.0 is'.0 (one_reading line (holds is.0) (holds is'.0) is.2 is'.2) in
    let others : is.1 ≡ is'.1 = one_list lines is.1 is'.1 is.4 is'.4 in
    is.3 ∙ ap (λ f. f ∷ is.1) first ∙ ap (λ r. is'.0 ∷ r) others ∙ sym is'.3

-- no line that is read is bad
pub read_has_no_bad : (before : List (List ℕ)) (bad : List ℕ) (after : List (List ℕ)) (s : List Statement) (why : LineRefusal)
    → AreRead (before ++ bad ∷ after) s → IsReading bad (refused why) → ⊥
read_has_no_bad [] bad after s why (inl is) unread = let z : nothing ≡ refused why = one_reading bad nothing (refused why) is.0 unread in cc
read_has_no_bad [] bad after s why (inr is) unread = let z : holds is.0 ≡ refused why = one_reading bad (holds is.0) (refused why) is.2 unread in cc
read_has_no_bad (line ∷ before) bad after s why (inl is) unread = read_has_no_bad before bad after s why is.1 unread
read_has_no_bad (line ∷ before) bad after s why (inr is) unread = read_has_no_bad before bad after is.1 why is.4 unread

read_tail : (line : List ℕ) (lines : List (List ℕ)) (s : List Statement) → AreRead (line ∷ lines) s → (t : List Statement) × AreRead lines t
read_tail line lines s (inl is) = (s, is.1)
read_tail line lines s (inr is) = (is.1, is.4)

refused_one : (a b : LineRefusal) → refused a ≡ refused b → a ≡ b
refused_one a b same = cc

-- lines have one first bad line
pub one_bad : (before before' : List (List ℕ)) (bad bad' : List ℕ) (after after' : List (List ℕ)) (s t : List Statement) (why why' : LineRefusal)
    → before ++ bad ∷ after ≡ before' ++ bad' ∷ after' → AreRead before s → AreRead before' t → IsReading bad (refused why) → IsReading bad' (refused why')
    → (before ≡ before') × (why ≡ why')
one_bad [] [] bad bad' after after' s t why why' same is is' unread unread' =
    let heads : bad ≡ bad' = cc in
    let P : List ℕ → Type 0 = λ line. IsReading line (refused why) in
    (refl, refused_one why why' (one_reading bad' (refused why) (refused why') (subst P heads unread) unread'))
one_bad [] (line ∷ before') bad bad' after after' s t why why' same is is' unread unread' =
    let heads : bad ≡ line = cc in
    let P : List ℕ → Type 0 = λ l. IsReading l (refused why) in
    absurd (read_has_no_bad [] line before' t why is' (subst P heads unread))
one_bad (line ∷ before) [] bad bad' after after' s t why why' same is is' unread unread' =
    let heads : bad' ≡ line = cc in
    let P : List ℕ → Type 0 = λ l. IsReading l (refused why') in
    absurd (read_has_no_bad [] line before s why' is (subst P heads unread'))
one_bad (line ∷ before) (line' ∷ before') bad bad' after after' s t why why' same is is' unread unread' =
    let tails : before ++ bad ∷ after ≡ before' ++ bad' ∷ after' = cc in
    let heads : line ≡ line' = cc in
    let rest = read_tail line before s is in
    let rest' = read_tail line' before' t is' in
    let found = one_bad before before' bad bad' after after' rest.0 rest'.0 why why' tails rest.1 rest'.1 unread unread' in
    (ap (λ l. l ∷ before) heads ∙ ap (λ ls. line' ∷ ls) found.0, found.1)

pub one_document : (bytes : List ℕ) (s t : List Statement) → IsDocument bytes s → IsDocument bytes t → s ≡ t
one_document bytes s t is is' = one_list (lines_of bytes) s t is is'

pub one_bad_document : (bytes : List ℕ) (n m : ℕ) (why why' : LineRefusal) (s t : List Statement) → IsBadDocument bytes n why s → IsBadDocument bytes m why' t
    → (n ≡ m) × (why ≡ why') × (s ≡ t)
one_bad_document bytes n m why why' s t is is' =
    let found = one_bad is.before is'.before is.bad is'.bad is.after is'.after s t why why' (sym is.lines ∙ is'.lines) is.read is'.read is.refuses is'.refuses in
    let P : List (List ℕ) → Type 0 = λ lines. AreRead lines s in (
      is.counted ∙ ap (λ lines. length lines + 1) found.0 ∙ sym is'.counted,
      found.1,
      one_list is'.before s t (subst P found.0 is.read) is'.read,
    )

pub no_bad_document : (bytes : List ℕ) (s : List Statement) (n : ℕ) (why : LineRefusal) (t : List Statement) → IsDocument bytes s → IsBadDocument bytes n why t → ⊥
no_bad_document bytes s n why t is bad =
    let P : List (List ℕ) → Type 0 = λ lines. AreRead lines s in
    read_has_no_bad bad.before bad.bad bad.after s why (subst P bad.lines is) bad.refuses
