-- A reader's steps through a piece.
use Rattle.std.proofs.Common.{◌≡◌, ℕ, ◌+◌, ◌<◌, ◌≤◌, ◌==◌, List, [], ◌∷◌, ◌++◌, true, false, length, Result, Ok, Err, refl, sym, ap, ◌∙◌, subst, append_assoc, append-nil, length-append, arith}
use Rattle.std.proofs.lemmas.Bool.{eqb-true, eqb-false}
use Rattle.std.specs.Result.{OnOk, IfErr}
use Rattle.cim_words.specs.Written.{carriage_return}
use Rattle.cim_words.specs.declared.statement.Statement.{Statement}
use Rattle.nt_text.specs.Document.{AreRead}
use Rattle.nt_text.specs.Reader.{ReaderState, Gained}
use Rattle.nt_text.specs.ReaderSteps.{IsPlain, IsEnd, IsFrontLine, is_half, Steps, Fails, IsLineFault, IsKeepFault}
use Rattle.nt_text.specs.declared.refusal.NtFault.{NtFault}
use Rattle.nt_text.specs.declared.refusal.NtFault.TheVariants as fault
use Rattle.nt_text.proofs.TakenBytes.{took_line, passed_feed, kept_rest}
use Rattle.nt_text.proofs.Faults.{fails_on, line_fails, long_fails, stops}

-- two facts on a result make a third
pub on_ok_with : {P Q R : Type 0} (r : Result Unit NtFault) → (P → Q → R) → OnOk r P → OnOk r Q → OnOk r R
on_ok_with (Ok x) both p q = both p q
on_ok_with (Err e) both p q = tt

pub if_err_with : {P Q R : NtFault → Type 0} (r : Result Unit NtFault) → ((f : NtFault) → P f → Q f → R f) → IfErr r P → IfErr r Q → IfErr r R
if_err_with (Ok x) both p q = tt
if_err_with (Err e) both p q = both e p q

-- what a vector holds, by the test whether it is empty
pub none_kept : (n : ℕ) (xs : List ℕ) → n ≡ length xs → true ≡ (n == 0) → xs ≡ []
none_kept n [] len none = refl
none_kept n (x ∷ xs) len none = absurd (omega (arith, eqb-true n 0 (sym none)))

pub some_kept : (n : ℕ) (xs : List ℕ) → n ≡ length xs → false ≡ (n == 0) → 0 < length xs
some_kept n (x ∷ xs) len some = omega arith
some_kept n [] len some = absurd (eqb-false n 0 (sym some) len)

-- bytes of a line that does not end
pub step_kept : (old new : ReaderState) (front : List ℕ) → IsPlain front → false ≡ (length front == 0)
    → new ≡ record old { rest = old.rest ++ front; after_return = false } → Steps old front new []
step_kept old new [] plain some same = absurd (let z : false ≡ true = some in cc)
step_kept old new (byte ∷ front) plain some same = record {
  same_fault = ap (λ (s : ReaderState). s.fault) same;
  reads = λ before found is.
      kept_rest old new before found (byte ∷ front) is plain (ap (λ (s : ReaderState). s.rest) same) (ap (λ (s : ReaderState). s.ended) same)
      (ap (λ (s : ReaderState). s.after_return) same);
}

pub fails_kept : (old : ReaderState) (front : List ℕ) (f : NtFault) → IsPlain front → IsKeepFault f (old.ended + 1) (old.rest ++ front) → Fails old front f []
fails_kept old front fault.NoMemory plain bad = λ before found is. rw (append-nil found) (stops old before found front is)
fails_kept old front (fault.Line number why) plain bad = λ before found is. rw (append-nil found, bad.0, bad.1) (long_fails old before found front is plain bad.2)

-- the second half of CR LF
pub step_half : (old new : ReaderState) (line : List ℕ) (end : ℕ) → is_half old.after_return line end ≡ true
    → new ≡ record old { after_return = end == carriage_return } → Steps old (line ++ end ∷ []) new []
step_half old new line end half same = record {
  same_fault = ap (λ (s : ReaderState). s.fault) same;
  reads = λ before found is.
      passed_feed old new before found line end is half (ap (λ (s : ReaderState). s.rest) same) (ap (λ (s : ReaderState). s.ended) same)
      (ap (λ (s : ReaderState). s.after_return) same);
}

-- a line that ends
pub step_ended : (old new : ReaderState) (line : List ℕ) (end : ℕ) (more : List Statement) → IsPlain line → IsEnd end → is_half old.after_return line end ≡ false
    → new ≡ record old { ended = old.ended + 1; rest = []; after_return = end == carriage_return } → AreRead ((old.rest ++ line) ∷ []) more
    → Steps old (line ++ end ∷ []) new more
step_ended old new line end more plain ends whole same reads = record {
  same_fault = ap (λ (s : ReaderState). s.fault) same;
  reads = λ before found is.
      took_line old new before found line end more is plain ends whole reads (ap (λ (s : ReaderState). s.rest) same)
      (ap (λ (s : ReaderState). s.ended) same) (ap (λ (s : ReaderState). s.after_return) same);
}

pub fails_ended : (old : ReaderState) (line : List ℕ) (end : ℕ) (f : NtFault) → IsPlain line → IsEnd end → is_half old.after_return line end ≡ false
    → IsLineFault f (old.ended + 1) (old.rest ++ line) → Fails old (line ++ end ∷ []) f []
fails_ended old line end f plain ends whole bad = λ before found is. rw (append-nil found) (line_fails f old before found line end is plain ends whole bad)

-- a reader within a piece: what it took, and what is left
pub record IsTaking (old now : ReaderState) (piece left : List ℕ) (held into : List Statement) : Type 0 where
  pub taken : List ℕ
  pub more : List Statement
  pub parts : piece ≡ taken ++ left
  pub behind : into ≡ held ++ more
  pub same_fed : now.fed ≡ old.fed
  pub room : now.ended + length now.rest + length left ≤ now.fed
  pub steps : Steps old taken now more

pub taking_begins : (state : ReaderState) (piece : List ℕ) (held : List Statement) → state.ended + length state.rest + length piece ≤ state.fed
    → IsTaking state state piece piece held held
taking_begins state piece held room = record {
  taken = [];
  more = [];
  parts = refl;
  behind = sym (append-nil held);
  same_fed = refl;
  room = room;
  steps = record { same_fault = refl; reads = λ before found is. rw (append-nil before, append-nil found) is };
}

-- one step and then another
pub steps_on : (old mid new : ReaderState) (a b : List ℕ) (s t : List Statement) → Steps old a mid s → Steps mid b new t → Steps old (a ++ b) new (s ++ t)
steps_on old mid new a b s t first next = record {
  same_fault = next.same_fault ∙ first.same_fault;
  reads = λ before found is.
      let whole = next.reads (before ++ a) (found ++ s) (first.reads before found is) in
      rw (← append_assoc before a b, ← append_assoc found s t) whole;
}

fails_later : (old mid : ReaderState) (a b after : List ℕ) (f : NtFault) (s t : List Statement) → Steps old a mid s → Fails mid b f t
    → Fails old (a ++ (b ++ after)) f (s ++ t)
fails_later old mid a b after f s t first next = λ before found is.
    let whole = fails_on f ((before ++ a) ++ b) ((found ++ s) ++ t) after (next (before ++ a) (found ++ s) (first.reads before found is)) in
    let bytes : ((before ++ a) ++ b) ++ after ≡ before ++ (a ++ (b ++ after)) = simp append_assoc in
    rw (← bytes, ← append_assoc found s t) whole

front_length : (line : List ℕ) (end : ℕ) (after : List ℕ) → length (line ++ end ∷ after) ≡ length line + 1 + length after
front_length line end after = length-append line (end ∷ after) ∙ omega arith

-- a line of the piece
pub taking_goes_on : (old mid new : ReaderState) (piece left line : List ℕ) (end : ℕ) (after : List ℕ) (held into into' : List Statement)
    → IsTaking old mid piece left held into → IsFrontLine left line end after → Gained into into' (Steps mid (line ++ end ∷ []) new) → new.fed ≡ mid.fed
    → new.ended + length new.rest ≤ mid.ended + length mid.rest + length line + 1
    → IsTaking old new piece after held into'
taking_goes_on old mid new piece left line end after held into into' is front gained fed fewer = record {
  taken = is.taken ++ (line ++ end ∷ []);
  more = is.more ++ gained.0;
  parts =
      is.parts ∙ ap (λ t. is.taken ++ t) (front.parts ∙ sym (append_assoc line (end ∷ []) after))
      ∙ sym (append_assoc is.taken (line ++ end ∷ []) after);
  behind = gained.1 ∙ ap (λ t. t ++ gained.0) is.behind ∙ append_assoc held is.more gained.0;
  same_fed = fed ∙ is.same_fed;
  room = let len : length left ≡ length line + 1 + length after = ap length front.parts ∙ front_length line end after in omega (arith, is.room);
  steps = steps_on old mid new is.taken (line ++ end ∷ []) is.more gained.0 is.steps gained.2;
}

-- a line of the piece that fails
pub taking_fails : (old mid : ReaderState) (piece left line : List ℕ) (end : ℕ) (after : List ℕ) (held into into' : List Statement) (f : NtFault)
    → IsTaking old mid piece left held into → IsFrontLine left line end after → Gained into into' (Fails mid (line ++ end ∷ []) f)
    → Gained held into' (Fails old piece f)
taking_fails old mid piece left line end after held into into' f is front gained =
    let parts : piece ≡ is.taken ++ ((line ++ end ∷ []) ++ after) =
    is.parts ∙ ap (λ t. is.taken ++ t) (front.parts ∙ sym (append_assoc line (end ∷ []) after)) in
    let P : List ℕ → Type 0 = λ bytes. Fails old bytes f (is.more ++ gained.0) in (
      is.more ++ gained.0,
      gained.1 ∙ ap (λ t. t ++ gained.0) is.behind ∙ append_assoc held is.more gained.0,
      subst P (sym parts) (fails_later old mid is.taken (line ++ end ∷ []) after f is.more gained.0 is.steps gained.2),
    )

pub taking_stops : (old mid : ReaderState) (piece left : List ℕ) (held into : List Statement) (f : NtFault) → IsTaking old mid piece left held into
    → Fails mid left f [] → Gained held into (Fails old piece f)
taking_stops old mid piece left held into f is last =
    let parts : piece ≡ is.taken ++ (left ++ []) = is.parts ∙ ap (λ t. is.taken ++ t) (sym (append-nil left)) in
    let P : List ℕ → Type 0 = λ bytes. Fails old bytes f (is.more ++ []) in (
      is.more ++ [],
      is.behind ∙ ap (λ t. held ++ t) (sym (append-nil is.more)),
      subst P (sym parts) (fails_later old mid is.taken left [] f is.more [] is.steps last),
    )
