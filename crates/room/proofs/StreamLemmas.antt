-- From single reads and writes of a stream to all that went through it.
use Rattle.std.proofs.Common.{◌≡◌, ℕ, ◌+◌, ◌-◌, ◌<◌, ◌≤◌, List, [], ◌++◌, length, take, drop, Option, Some, None, IfSome, Result, Ok, Err, arith, refl, sym, ap, subst, ◌∙◌, append_assoc, append-nil, take-append-drop}
use Rattle.std.specs.Io.KnownBytes.{Appends, Consumes, IsAtEnd, Keeps, ReadConsumes, WriteAppends}
use Rattle.std.proofs.lemmas.List.{length-append, length-take-le, take_rest}
use Rattle.std.proofs.Math.Seq.{take-append-add, take-append_seam}

-- what a writer holds after no write, after one more, and after one that failed
pub none_written : (o : Option (List ℕ)) → Appends o o []
none_written None = tt
none_written (Some xs) = sym (append-nil xs)

pub more_written : (o p q : Option (List ℕ)) (done more : List ℕ) → Appends o p done → Appends p q more → Appends o q (done ++ more)
more_written None p q done more before now = tt
more_written (Some xs) None q done more before now = absurd before
more_written (Some xs) (Some ys) None done more before now = absurd now
more_written (Some xs) (Some ys) (Some zs) done more before now = now ∙ ap (λ l. l ++ more) before ∙ append_assoc xs done more

pub still_written : (o p q : Option (List ℕ)) (done : List ℕ) → Appends o p done → Keeps p q → Appends o q done
still_written None p q done before same = tt
still_written (Some xs) None q done before same = absurd before
still_written (Some xs) (Some ys) None done before same = absurd same
still_written (Some xs) (Some ys) (Some zs) done before same = same ∙ before

-- after a last write, which may have failed, a front of all was written
pub front_so_far : (o p : Option (List ℕ)) (done rest all : List ℕ) → all ≡ done ++ rest → Appends o p done → (n : ℕ) × Appends o p (take n all)
front_so_far o p done rest all split before =
    let front : take (length done) all ≡ done = ap (take (length done)) split ∙ take-append_seam done rest in
    (length done, subst (Appends o p) (sym front) before)

pub front_after : {E : Type 0} (o p q : Option (List ℕ)) (r : Result ℕ E) (done rest all : List ℕ) → all ≡ done ++ rest → Appends o p done → WriteAppends p q r rest
    → (n : ℕ) × Appends o q (take n all)
front_after o p q (Ok n) done rest all split before wrote =
    let front : take (length done + n) all ≡ done ++ take n rest = ap (take (length done + n)) split ∙ take-append-add done rest n in
    (length done + n, subst (Appends o q) (sym front) (more_written o p q done (take n rest) before wrote))
front_after o p q (Err e) done rest all split before wrote = front_so_far o q done rest all split (still_written o p q done before wrote)

-- a front of what was left moves to what is done
pub front_moves : (all done rest : List ℕ) (n : ℕ) → all ≡ done ++ rest → all ≡ (done ++ take n rest) ++ take (length rest - n) (drop n rest)
front_moves all done rest n split =
    split ∙ ap (λ l. done ++ l) (sym (take-append-drop n rest)) ∙ sym (append_assoc done (take n rest) (drop n rest)) ∙ ap (λ l. (done ++ take n rest) ++ l) (sym (take_rest rest n))

-- what is gone from a reader after no read, after one more, and after one that failed
pub none_read : (o : Option (List ℕ)) → Consumes o o []
none_read None = tt
none_read (Some xs) = refl

pub more_read : (o p q : Option (List ℕ)) (done more : List ℕ) → Consumes o p done → Consumes p q more → Consumes o q (done ++ more)
more_read None p q done more before now = tt
more_read (Some xs) None q done more before now = absurd before
more_read (Some xs) (Some ys) None done more before now = absurd now
more_read (Some xs) (Some ys) (Some zs) done more before now = before ∙ ap (λ l. done ++ l) now ∙ sym (append_assoc done more zs)

pub still_read : (o p q : Option (List ℕ)) (done : List ℕ) → Consumes o p done → Keeps p q → Consumes o q done
still_read None p q done before same = tt
still_read (Some xs) None q done before same = absurd before
still_read (Some xs) (Some ys) None done before same = absurd same
still_read (Some xs) (Some ys) (Some zs) done before same = before ∙ ap (λ l. done ++ l) (sym same)

-- where a read gives nothing, all was read
all_read : (o p q : Option (List ℕ)) (done : List ℕ) → Consumes o p done → Consumes p q [] × IsAtEnd q → IfSome o (λ xs. done ≡ xs)
all_read None p q done before last = tt
all_read (Some xs) None q done before last = absurd before
all_read (Some xs) (Some ys) None done before last = absurd last.0
all_read (Some xs) (Some ys) (Some zs) done before last = sym (before ∙ ap (λ l. done ++ l) (last.0 ∙ last.1) ∙ append-nil done)

pub at_end : {E : Type 0} (o p q : Option (List ℕ)) (r : Result ℕ E) (n : ℕ) (piece done : List ℕ) → Consumes o p done → ReadConsumes p q r piece → r ≡ Ok n → n ≡ 0
    → 0 < length piece → IfSome o (λ xs. done ≡ xs)
at_end o p q r n piece done before read is nothing room =
    let got = subst (λ (r : Result ℕ _). ReadConsumes p q r piece) is read in
    all_read o p q done before (subst (λ (k : ℕ). Consumes p q (take k piece)) nothing got.0, got.1 nothing room)

-- where a read gives more than is left of a cap, there was more than the cap
pub had_more : (o p : Option (List ℕ)) (done piece : List ℕ) (n left most : ℕ) → Consumes o p (done ++ take n piece) → n ≤ length piece → length done + left ≡ most → left < n
    → IfSome o (λ xs. most < length xs)
had_more None p done piece n left most gone within sum over = tt
had_more (Some xs) None done piece n left most gone within sum over = absurd gone
had_more (Some xs) (Some ys) done piece n left most gone within sum over =
    let all = ap length gone ∙ length-append (done ++ take n piece) ys in
    let front = length-append done (take n piece) in
    let taken = length-take-le n piece within in
    omega arith
