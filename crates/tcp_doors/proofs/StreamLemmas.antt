-- From single writes of a stream to a whole call.
use Rattle.std.proofs.Common.{◌≡◌, ℕ, ◌+◌, ◌-◌, List, [], ◌++◌, length, take, drop, Option, Some, None, Result, Ok, Err, sym, ap, subst, ◌∙◌, append_assoc, append-nil, take-append-drop}
use Rattle.std.specs.Io.KnownBytes.{Appends, Keeps, WriteAppends}
use Rattle.std.proofs.lemmas.List.{take_rest}
use Rattle.std.proofs.Math.Seq.{take-append-add, take-append_seam}

-- what a stream holds after no write, after one more, and after one that failed
pub none_written : (o : Option (List ℕ)) → Appends o o []
none_written None = tt
none_written (Some xs) = sym (append-nil xs)

pub more_written : (o p q : Option (List ℕ)) (done more : List ℕ) → Appends o p done → Appends p q more → Appends o q (done ++ more)
more_written None p q done more before now = tt
more_written (Some xs) None q done more before now = absurd before
more_written (Some xs) (Some ys) None done more before now = absurd now
more_written (Some xs) (Some ys) (Some zs) done more before now = now ∙ ap (λ l. l ++ more) before ∙ append_assoc xs done more

pub still_written : (o p q : Option (List ℕ)) (done : List ℕ) → Appends o p done → Keeps p q → Appends o q done
still_written None p q done before same = tt
still_written (Some xs) None q done before same = absurd before
still_written (Some xs) (Some ys) None done before same = absurd same
still_written (Some xs) (Some ys) (Some zs) done before same = same ∙ before

-- after a last write, which may have failed, a front of all was written
pub front_so_far : (o p : Option (List ℕ)) (done rest all : List ℕ) → all ≡ done ++ rest → Appends o p done → (n : ℕ) × Appends o p (take n all)
front_so_far o p done rest all split before =
    let front : take (length done) all ≡ done = ap (take (length done)) split ∙ take-append_seam done rest in
    (length done, subst (Appends o p) (sym front) before)

pub front_after : {E : Type 0} (o p q : Option (List ℕ)) (r : Result ℕ E) (done rest all : List ℕ) → all ≡ done ++ rest → Appends o p done → WriteAppends p q r rest
    → (n : ℕ) × Appends o q (take n all)
front_after o p q (Ok n) done rest all split before wrote =
    let front : take (length done + n) all ≡ done ++ take n rest = ap (take (length done + n)) split ∙ take-append-add done rest n in
    (length done + n, subst (Appends o q) (sym front) (more_written o p q done (take n rest) before wrote))
front_after o p q (Err e) done rest all split before wrote = front_so_far o q done rest all split (still_written o p q done before wrote)

-- a front of what was left moves to what is done
pub front_moves : (all done rest : List ℕ) (n : ℕ) → all ≡ done ++ rest → all ≡ (done ++ take n rest) ++ take (length rest - n) (drop n rest)
front_moves all done rest n split =
    split ∙ ap (λ l. done ++ l) (sym (take-append-drop n rest)) ∙ sym (append_assoc done (take n rest) (drop n rest)) ∙ ap (λ l. (done ++ take n rest) ++ l) (sym (take_rest rest n))
