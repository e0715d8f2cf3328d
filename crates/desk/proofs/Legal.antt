-- A legal history that goes on.
use Rattle.std.proofs.Common.{◌≡◌, ◌⊎◌, inl, inr, List, [], ◌∷◌, ◌++◌, ap, refl}
use Rattle.desk.specs.Legal.{Judgement, IsLegal, IsNext}
use Rattle.room_words.specs.declared.event.Entry.{Entry}

-- nothing stands in an empty list
none_within : {X : Type 0} (before : List X) (x : X) (after : List X) → [] ≡ before ++ x ∷ after → ⊥
none_within [] x after h = absurd cc
none_within (b ∷ before) x after h = absurd cc

-- what stands in a list with one more stands in the list, or is the one more
last_or_before : {X : Type 0} (xs before : List X) (x y : X) (after : List X) → xs ++ x ∷ [] ≡ before ++ y ∷ after
    → ((before ≡ xs) × (y ≡ x)) ⊎ ((rest : List X) × (xs ≡ before ++ y ∷ rest))
last_or_before [] [] x y after h = inl (refl, cc)
last_or_before [] (b ∷ before) x y after h = let rest : [] ≡ before ++ y ∷ after = cc in absurd (none_within before y after rest)
last_or_before (a ∷ xs) [] x y after h = let same : a ≡ y = cc in inr (xs, ap (λ (first : _). first ∷ xs) same)
last_or_before (a ∷ xs) (b ∷ before) x y after h =
    let rest : xs ++ x ∷ [] ≡ before ++ y ∷ after = cc in
    let same : a ≡ b = cc in
    longer a b xs before y same (last_or_before xs before x y after rest)
  where
    longer : {X : Type 0} (a b : X) (xs before : List X) {x : X} (y : X) → a ≡ b → ((before ≡ xs) × (y ≡ x)) ⊎ ((rest : List X) × (xs ≡ before ++ y ∷ rest))
        → ((b ∷ before ≡ a ∷ xs) × (y ≡ x)) ⊎ ((rest : List X) × (a ∷ xs ≡ b ∷ before ++ y ∷ rest))
    longer a b xs before y same (inl end) = let whole : before ≡ xs = end.0 in inl (cc, end.1)
    longer a b xs before y same (inr within) = let parts : xs ≡ before ++ y ∷ within.0 = within.1 in inr (within.0, cc)

-- nothing is legal, and a legal history with an entry that may come next
pub legal_empty : (judges : Judgement) → IsLegal judges []
legal_empty judges before entry after h = absurd (none_within before entry after h)

pub legal_grows : (judges : Judgement) (log : List Entry) (entry : Entry) → IsLegal judges log → IsNext judges log entry → IsLegal judges (log ++ entry ∷ [])
legal_grows judges log entry legal next before other after h = one (last_or_before log before entry other after h)
  where
    one : ((before ≡ log) × (other ≡ entry)) ⊎ ((rest : List Entry) × (log ≡ before ++ other ∷ rest)) → IsNext judges before other
    one (inl last) = rw (last.0, last.1) next
    one (inr within) = legal before other within.0 within.1
