-- What consoles have seen, and what they go on to see.
use Rattle.std.proofs.Common.{◌≡◌, ℕ, zero, suc, ◌+◌, ◌<◌, ◌≤◌, List, [], ◌∷◌, ◌++◌, length, take, drop, drop-cons, get_or, set, refl, sym, ap, subst, ◌∙◌, arith, take-append-drop}
use Rattle.std.proofs.lemmas.Grind.{common_steps}
use Rattle.desk.specs.Legal.{IsLegal, IsNext, Judgement}
use Rattle.room_core.specs.Views.{HasSeen}
use Rattle.room_words.specs.declared.event.Entry.{Entry}

-- a front of a list is that front of every list that goes on from it
pub take-front : {X : Type 0} (n : ℕ) (xs more : List X) → n ≤ length xs → take n (xs ++ more) ≡ take n xs
take-front n xs more within = grind (arith, common_steps)

-- what was seen of a history is seen of what goes on from it
pub seen_still : {O : Type 0} {origin other : O} {log shown : List Entry} (more : List Entry) → HasSeen origin other log shown → HasSeen origin other (log ++ more) shown
seen_still {O} {origin} {other} {log} {shown} more seen =
    record {
      begins = seen.begins;
      within = let at_most : length shown ≤ length log = seen.within in grind (arith, common_steps);
      prefix = seen.prefix ∙ sym (take-front (length shown) log more seen.within);
    }

-- the whole history is seen
pub seen_whole : {O : Type 0} (origin : O) (log : List Entry) → HasSeen origin origin log log
seen_whole origin log = record { begins = refl; within = omega arith; prefix = grind (arith, common_steps) }

-- a list is parted where one of its elements stands, and begins with that element and what stands before it
pub parted_at : {X : Type 0} (xs : List X) (n : ℕ) (x : X) → n < length xs → x ≡ get_or xs n x → xs ≡ take n xs ++ x ∷ drop (n + 1) xs
parted_at xs n x within is = let same : get_or xs n x ≡ x = sym is in grind (arith, common_steps)

pub one_further : {X : Type 0} (xs : List X) (n : ℕ) (x : X) → n < length xs → x ≡ get_or xs n x → take n xs ++ x ∷ [] ≡ take (n + 1) xs
one_further xs n x within is = let whole = parted_at xs n x within is in grind (arith, common_steps)

-- an entry of a legal history may come after what stands before it
pub next_within : {judges : Judgement} (log : List Entry) (n : ℕ) (entry : Entry) → IsLegal judges log → n < length log → entry ≡ get_or log n entry → IsNext judges (take n log) entry
next_within log n entry legal within is = legal (take n log) entry (drop (n + 1) log) (parted_at log n entry within is)

length_take : {X : Type 0} (n : ℕ) (xs : List X) → n ≤ length xs → length (take n xs) ≡ n
length_take n xs within = grind (arith, common_steps)

-- a front of the history is seen where a version has it
pub seen_front : {O : Type 0} {origin other : O} (log shown : List Entry) (n : ℕ) → other ≡ origin → n ≤ length log → shown ≡ take n log → HasSeen origin other log shown
seen_front log shown n begins within is =
    let long : length shown ≡ n = ap length is ∙ length_take n log within in
    record { begins = begins; within = rw long within; prefix = rw long is }

-- a version that has seen a front of a legal history goes on by the entry that stands next in it
pub next_seen : {O : Type 0} {origin other : O} {judges : Judgement} (log shown whole : List Entry) (n : ℕ) (entry : Entry) → HasSeen origin other log shown → IsLegal judges log
    → whole ≡ log → n ≡ length shown → length shown < length log → entry ≡ get_or whole n entry → IsNext judges shown entry × (shown ++ entry ∷ [] ≡ take (length shown + 1) log)
next_seen {judges} log shown whole n entry seen legal same counted more is =
    let stands : entry ≡ get_or log (length shown) entry = is ∙ (λ i. get_or (same i) (counted i) entry) in
    let next = next_within log (length shown) entry legal more stands in
    (subst (λ front. IsNext judges front entry) (sym seen.prefix) next, ap (λ (front : List Entry). front ++ entry ∷ []) seen.prefix ∙ one_further log (length shown) entry more stands)

-- a number in a list that rises leaves none lower
pub set_rises : (xs : List ℕ) (i j n : ℕ) → get_or xs i 0 ≤ n → get_or xs j 0 ≤ get_or (set xs i n) j 0
set_rises [] i j n rises = omega arith
set_rises (x ∷ xs) zero zero n rises = rises
set_rises (x ∷ xs) zero (suc j) n rises = omega arith
set_rises (x ∷ xs) (suc i) zero n rises = omega arith
set_rises (x ∷ xs) (suc i) (suc j) n rises = set_rises xs i j n rises
