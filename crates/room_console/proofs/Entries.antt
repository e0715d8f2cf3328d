-- In a legal log no entry stands twice.
use Rattle.std.proofs.Common.{◌≡◌, ◌+◌, ◌<◌, inl, inr, List, [], ◌∷◌, ◌++◌, length, cond, ap, arith, length-append, ◌==◌}
use Rattle.std.specs.Prelude.{Contains}
use Rattle.std.proofs.lemmas.List.Elements.{filter-append}
use Rattle.desk.specs.Consoles.{entries_of}
use Rattle.desk.specs.Legal.{Judgement, IsLegal, IsNext}
use Rattle.plain_laws.proofs.Members.{Among, among_contained}
use Rattle.plain_laws.proofs.Numbers.{equal_itself}
use Rattle.room_words.specs.declared.event.Entry.{Entry}

-- what stands before an item of a list, and what after it
parted : {X : Type 0} (xs : List X) (x : X) → Among xs x → (before : List X) × (after : List X) × (xs ≡ before ++ x ∷ after)
parted [] x there = absurd there
parted (y ∷ ys) x (inl is) = ([], ys, ap (λ (first : _). first ∷ ys) is)
parted (y ∷ ys) x (inr there) = let rest = parted ys x there in (y ∷ rest.0, rest.1, ap (λ (others : List _). y ∷ others) rest.2)

-- with an entry of its own a console has more of them
more_entries : (before after : List Entry) (entry : Entry) → length (entries_of entry.console before) < length (entries_of entry.console (before ++ entry ∷ after))
more_entries before after entry =
    let its : entries_of entry.console (entry ∷ after) ≡ entry ∷ entries_of entry.console after =
    ap (λ b. cond b (entry ∷ entries_of entry.console after) (entries_of entry.console after)) (equal_itself entry.console) in
    let both : length (entries_of entry.console (before ++ entry ∷ after)) ≡ length (entries_of entry.console before ++ entries_of entry.console (entry ∷ after)) =
    ap length (filter-append (λ (other : Entry). other.console == entry.console) before (entry ∷ after)) in
    let count : length (entries_of entry.console (entry ∷ after)) ≡ length (entry ∷ entries_of entry.console after) = ap length its in
    omega (arith, both, count, length-append (entries_of entry.console before) (entries_of entry.console (entry ∷ after)))

-- what may come next has not stood
pub has_not_stood : (judges : Judgement) (log : List Entry) (entry : Entry) → IsLegal judges log → IsNext judges log entry → Contains log entry → ⊥
has_not_stood judges log entry legal next there =
    let parts = parted log entry (among_contained log entry there) in
    let earlier = legal parts.0 entry parts.1 parts.2 in
    let more = more_entries parts.0 parts.1 entry in
    let whole : length (entries_of entry.console log) ≡ length (entries_of entry.console (parts.0 ++ entry ∷ parts.1)) = ap (λ (list : List Entry). length (entries_of entry.console list)) parts.2 in
    let first : entry.serial ≡ length (entries_of entry.console parts.0) + 1 = earlier.serial in
    let last : entry.serial ≡ length (entries_of entry.console log) + 1 = next.serial in
    omega (arith, more, whole, first, last)
