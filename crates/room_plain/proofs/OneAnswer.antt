-- The words and what the shelf tells have one answer.
use Rattle.std.proofs.Common.{◌≡◌, ℕ, ◌⊎◌, inl, inr, List, [], ◌∷◌, Option, Some, IfSome, IsTrue, true, false, refl, sym, ap, subst, ◌∙◌, Bool}
use Rattle.std.proofs.lemmas.Option.{same_Some}
use Rattle.cim_words.specs.declared.statement.Statement.{Statement}
use Rattle.room_base.specs.Base.{IsBase, RefusesBase}
use Rattle.room_base.specs.Files.{NoneIsLong, OneIsLong}
use Rattle.room_base.specs.Status.{line_of, status_of}
use Rattle.room_plain.specs.Run.{Answers, Asks, Explains, HasAnswer, IsNoCommand, IsRefused, Reads, RefusesTask, Tells, TellsFiles, is_answer}
use Rattle.room_words.specs.TraceText.{trace_text}
use Rattle.room_base.specs.declared.refusal.BaseRefusal.{BaseRefusal}
use Rattle.room_base.specs.declared.refusal.BaseRefusal.TheVariants as of_base
use Rattle.room_base.specs.declared.refusal.Refusal.{Refusal}
use Rattle.room_base.specs.declared.refusal.Refusal.TheVariants as refusal
use Rattle.room_base.specs.declared.refusal.TaskRefusal.{TaskRefusal}
use Rattle.room_base.specs.declared.refusal.TaskRefusal.TheVariants as of_task
use Rattle.room_base.specs.declared.status.Status.{Status}
use Rattle.room_base.specs.declared.status.Status.TheVariants as status
use Rattle.room_base.proofs.FileLemmas.{AllFit, AreTold, OneIsOver, as_told, fit_or_over, of_told, one_list, read_fits, told_contents, told_fits, told_over}
use Rattle.room_plain.specs.declared.task.Task.{Task}
use Rattle.room_plain.specs.declared.task.Task.TheVariants as task
use Rattle.room_plain.proofs.LawsBelow.{KeepLaws}
use Rattle.room_plain.proofs.OneCommand.{one_command}

-- a task tells one text of a set and contents, or nothing for one reason
one_text : KeepLaws → (asked : Task) (set : List Statement) (contents : List (List ℕ)) (x y : List ℕ) → Tells asked set contents x → Tells asked set contents y → x ≡ y
one_text laws task.Check set contents x y a b = a ∙ sym b
one_text laws (task.Trace source phases) set contents x y a b = a.is_text ∙ ap (trace_text 0) (laws.trace set source.number phases a.rows b.rows a.trace b.trace) ∙ sym b.is_text
one_text laws task.Play set [] x y a b = absurd a
one_text laws task.Play set (script ∷ []) x y a b = laws.script set script x y a b
one_text laws task.Play set (script ∷ other ∷ more) x y a b = absurd a

told_or_not : (asked : Task) (set : List Statement) (contents : List (List ℕ)) (x : List ℕ) (why : TaskRefusal) → Tells asked set contents x → RefusesTask asked set why → ⊥
told_or_not task.Check set contents x why tells none = none
told_or_not (task.Trace source phases) set contents x of_task.Asked tells none = let same : true ≡ false = sym tells.equipment ∙ none in absurd cc
told_or_not task.Play set contents x why tells none = none

one_reason : (asked : Task) (set : List Statement) (a b : TaskRefusal) → RefusesTask asked set a → RefusesTask asked set b → a ≡ b
one_reason task.Check set a b p q = absurd p
one_reason (task.Trace source phases) set of_task.Asked of_task.Asked p q = refl
one_reason task.Play set a b p q = absurd p

-- What comes of bytes, of what the further files contain and of a task: a text, or a refusal. Bytes are no base, or something is too
-- long, or the base tells nothing by the task.
record Told (bytes : List ℕ) (contents : List (List ℕ)) (asked : Task) (x : List ℕ) : Type 0 where
  set : List Statement
  base : IsBase bytes set
  fits : AllFit contents
  tells : Tells asked set contents x

record Untold (bytes : List ℕ) (contents : List (List ℕ)) (asked : Task) (why : TaskRefusal) : Type 0 where
  set : List Statement
  base : IsBase bytes set
  fits : AllFit contents
  refuses : RefusesTask asked set why

abbrev Refused : List ℕ → List (List ℕ) → BaseRefusal → Type 0
Refused bytes contents why = (AllFit contents × RefusesBase bytes why) ⊎ ((why ≡ of_base.Limit) × OneIsOver (bytes ∷ contents))

one_told : KeepLaws → (bytes : List ℕ) (contents : List (List ℕ)) (asked : Task) (x y : List ℕ) → Told bytes contents asked x → Told bytes contents asked y → x ≡ y
one_told laws bytes contents asked x y a b =
    let P : List Statement → Type 0 = λ set. Tells asked set contents x in
    one_text laws asked b.set contents x y (subst P (laws.set bytes a.set b.set a.base b.base) a.tells) b.tells

told_or_untold : KeepLaws → (bytes : List ℕ) (contents : List (List ℕ)) (asked : Task) (x : List ℕ) (why : TaskRefusal) → Told bytes contents asked x → Untold bytes contents asked why → ⊥
told_or_untold laws bytes contents asked x why a b =
    let P : List Statement → Type 0 = λ set. Tells asked set contents x in
    told_or_not asked b.set contents x why (subst P (laws.set bytes a.set b.set a.base b.base) a.tells) b.refuses

one_untold : KeepLaws → (bytes : List ℕ) (contents : List (List ℕ)) (asked : Task) (a b : TaskRefusal) → Untold bytes contents asked a → Untold bytes contents asked b → a ≡ b
one_untold laws bytes contents asked a b p q =
    let P : List Statement → Type 0 = λ set. RefusesTask asked set a in
    one_reason asked q.set a b (subst P (laws.set bytes p.set q.set p.base q.base) p.refuses) q.refuses

-- what is a base, with contents that fit, is not refused
fit_or_refused : KeepLaws → (bytes : List ℕ) (contents : List (List ℕ)) (set : List Statement) (why : BaseRefusal) → IsBase bytes set → AllFit contents → Refused bytes contents why → ⊥
fit_or_refused laws bytes contents set why base fits (inl refused) = laws.either bytes set why base refused.1
fit_or_refused laws bytes contents set why base fits (inr over) = fit_or_over (bytes ∷ contents) (base.read.fits, fits) over.1

-- a refused base, with contents that fit, and something that is too long are one refusal
fit_or_long : KeepLaws → (bytes : List ℕ) (contents : List (List ℕ)) (a : BaseRefusal) → AllFit contents → RefusesBase bytes a → OneIsOver (bytes ∷ contents) → a ≡ of_base.Limit
fit_or_long laws bytes contents a fits refuses (inl over) = laws.refusal bytes a of_base.Limit refuses (inl over)
fit_or_long laws bytes contents a fits refuses (inr over) = absurd (fit_or_over contents fits over)

one_refused : KeepLaws → (bytes : List ℕ) (contents : List (List ℕ)) (a b : BaseRefusal) → Refused bytes contents a → Refused bytes contents b → a ≡ b
one_refused laws bytes contents a b (inl p) (inl q) = laws.refusal bytes a b p.1 q.1
one_refused laws bytes contents a b (inl p) (inr q) = fit_or_long laws bytes contents a p.0 p.1 q.1 ∙ sym q.0
one_refused laws bytes contents a b (inr p) (inl q) = p.0 ∙ sym (fit_or_long laws bytes contents b q.0 q.1 p.1)
one_refused laws bytes contents a b (inr p) (inr q) = p.0 ∙ sym q.0

-- ---- of words, with what the shelf tells

-- what was asked for, and what holds of the bytes that the shelf tells of the base and of the further files
record Of (told : List ℕ → Option (List ℕ)) (words : List (List ℕ)) (P : List ℕ → List (List ℕ) → Task → Type 0) : Type 0 where
  asks : Asks words
  bytes : List ℕ
  contents : List (List ℕ)
  tells : told asks.name ≡ Some bytes
  tells_more : AreTold told asks.more contents
  holds : P bytes contents asks.asked

no_command : (words : List (List ℕ)) → IsNoCommand words → Asks words → ⊥
no_command words none asks = none asks.name asks.more asks.asked asks.command

-- two of the same words hold of the same bytes, contents and task
both : (told : List ℕ → Option (List ℕ)) (words : List (List ℕ)) (P Q : List ℕ → List (List ℕ) → Task → Type 0) → Of told words P → Of told words Q
    → (bytes : List ℕ) × (contents : List (List ℕ)) × (asked : Task) × P bytes contents asked × Q bytes contents asked
both told words P Q a b =
    let same = one_command words a.asks.name b.asks.name a.asks.more b.asks.more a.asks.asked b.asks.asked a.asks.command b.asks.command in
    let bytes = same_Some a.bytes b.bytes (sym a.tells ∙ ap told same.0 ∙ b.tells) in
    let M : List (List ℕ) → Type 0 = λ names. AreTold told names a.contents in
    let contents = one_list told b.asks.more a.contents b.contents (subst M same.1 a.tells_more) b.tells_more in
    let R : List ℕ → Type 0 = λ these. P these a.contents a.asks.asked in
    let S : List (List ℕ) → Type 0 = λ these. P b.bytes these a.asks.asked in
    let T : Task → Type 0 = λ asked. P b.bytes b.contents asked in
    (b.bytes, b.contents, b.asks.asked, subst T same.2 (subst S contents (subst R bytes a.holds)), b.holds)

-- what was read, as the shelf tells it
record WasRead (told : List ℕ → Option (List ℕ)) (words : List (List ℕ)) (reads : Reads told words) : Type 0 where
  bytes : List ℕ
  tells : told reads.asks.name ≡ Some bytes
  tells_more : AreTold told reads.asks.more reads.contents
  base : IsBase bytes reads.set
  fits : AllFit reads.contents

was_read : (told : List ℕ → Option (List ℕ)) (words : List (List ℕ)) → TellsFiles told words → (reads : Reads told words) → WasRead told words reads
was_read told words tells reads =
    let ((bytes, is), rest) = tells reads.asks in
    let (contents, are) = told_contents told reads.asks.more rest in
    let same : reads.contents ≡ contents = as_told told reads.asks.more reads.contents contents reads.further are in
    let M : List (List ℕ) → Type 0 = λ these. AreTold told reads.asks.more these in
    record {
      bytes = bytes;
      tells = is;
      tells_more = subst M (sym same) are;
      base = of_told (λ b. IsBase b reads.set) (told reads.asks.name) bytes is reads.of_base;
      fits = read_fits told reads.asks.more reads.contents reads.further;
    }

answered : (told : List ℕ → Option (List ℕ)) (words : List (List ℕ)) (x : List ℕ) → TellsFiles told words → HasAnswer told words x → Of told words (λ bytes contents asked. Told bytes contents asked x)
answered told words x tells (reads, text) =
    let was = was_read told words tells reads in
    record {
      asks = reads.asks;
      bytes = was.bytes;
      contents = reads.contents;
      tells = was.tells;
      tells_more = was.tells_more;
      holds = record { set = reads.set; base = was.base; fits = was.fits; tells = text };
    }

refused_as : (told : List ℕ → Option (List ℕ)) (name : List ℕ) (names : List (List ℕ)) (bytes : List ℕ) (contents : List (List ℕ)) (why : BaseRefusal) → told name ≡ Some bytes
    → AreTold told names contents → (NoneIsLong told names × IfSome (told name) (λ b. RefusesBase b why)) ⊎ ((why ≡ of_base.Limit) × OneIsLong told (name ∷ names))
    → Refused bytes contents why
refused_as told name names bytes contents why is are (inl refuses) = inl (told_fits told names contents refuses.0 are, of_told (λ b. RefusesBase b why) (told name) bytes is refuses.1)
refused_as told name names bytes contents why is are (inr long) = inr (long.0, told_over told (name ∷ names) (bytes ∷ contents) long.1 (is, are))

then_base : (told : List ℕ → Option (List ℕ)) (words : List (List ℕ)) (why : BaseRefusal) → TellsFiles told words → Explains told words (refusal.Base why)
    → Of told words (λ bytes contents asked. Refused bytes contents why)
then_base told words why tells (asks, refuses) =
    let ((bytes, is), rest) = tells asks in
    let (contents, are) = told_contents told asks.more rest in
    record { asks = asks; bytes = bytes; contents = contents; tells = is; tells_more = are; holds = refused_as told asks.name asks.more bytes contents why is are refuses }

then_task : (told : List ℕ → Option (List ℕ)) (words : List (List ℕ)) (why : TaskRefusal) → TellsFiles told words → Explains told words (refusal.Task why)
    → Of told words (λ bytes contents asked. Untold bytes contents asked why)
then_task told words why tells (reads, refuses) =
    let was = was_read told words tells reads in
    record {
      asks = reads.asks;
      bytes = was.bytes;
      contents = reads.contents;
      tells = was.tells;
      tells_more = was.tells_more;
      holds = record { set = reads.set; base = was.base; fits = was.fits; refuses = refuses };
    }

-- an answer is the one answer
one_of_answers : KeepLaws → (told : List ℕ → Option (List ℕ)) (words : List (List ℕ)) (x y : List ℕ) → TellsFiles told words → HasAnswer told words x → HasAnswer told words y → x ≡ y
one_of_answers laws told words x y tells a b =
    let (bytes, contents, asked, these, those) = both told words (λ bytes contents asked. Told bytes contents asked x) (λ bytes contents asked. Told bytes contents asked y) (answered told words x tells a) (answered told words y tells b) in
    one_told laws bytes contents asked x y these those

-- whether a refusal follows from the words and from what the shelf told
abbrev is_reason : Refusal → Bool
is_reason refusal.ReadFault = false
is_reason _ = true

-- what has an answer is not refused
not_refused : KeepLaws → (told : List ℕ → Option (List ℕ)) (words : List (List ℕ)) (x : List ℕ) (why : Refusal) → TellsFiles told words → is_reason why ≡ true → HasAnswer told words x → Explains told words why → ⊥
not_refused laws told words x refusal.Usage tells is answer none = no_command words none answer.0.asks
not_refused laws told words x refusal.Doors tells is answer none = none
not_refused laws told words x refusal.ReadFault tells is answer why = let same : false ≡ true = is in absurd cc
not_refused laws told words x (refusal.Base why) tells is answer refuses =
    let (bytes, contents, asked, told_it, refused) = both told words (λ bytes contents asked. Told bytes contents asked x) (λ bytes contents asked. Refused bytes contents why) (answered told words x tells answer) (then_base told words why tells refuses) in
    fit_or_refused laws bytes contents told_it.set why told_it.base told_it.fits refused
not_refused laws told words x (refusal.Task why) tells is answer refuses =
    let (bytes, contents, asked, told_it, untold) = both told words (λ bytes contents asked. Told bytes contents asked x) (λ bytes contents asked. Untold bytes contents asked why) (answered told words x tells answer) (then_task told words why tells refuses) in
    told_or_untold laws bytes contents asked x why told_it untold

-- bytes that are refused are no base of which a task tells nothing
refused_or_untold : KeepLaws → (told : List ℕ → Option (List ℕ)) (words : List (List ℕ)) (a : BaseRefusal) (b : TaskRefusal) → TellsFiles told words
    → Explains told words (refusal.Base a) → Explains told words (refusal.Task b) → ⊥
refused_or_untold laws told words a b tells p q =
    let (bytes, contents, asked, refused, untold) = both told words (λ bytes contents asked. Refused bytes contents a) (λ bytes contents asked. Untold bytes contents asked b) (then_base told words a tells p) (then_task told words b tells q) in
    fit_or_refused laws bytes contents untold.set a untold.base untold.fits refused

one_base : KeepLaws → (told : List ℕ → Option (List ℕ)) (words : List (List ℕ)) (a b : BaseRefusal) → TellsFiles told words → Explains told words (refusal.Base a) → Explains told words (refusal.Base b) → a ≡ b
one_base laws told words a b tells p q =
    let (bytes, contents, asked, these, those) = both told words (λ bytes contents asked. Refused bytes contents a) (λ bytes contents asked. Refused bytes contents b) (then_base told words a tells p) (then_base told words b tells q) in
    one_refused laws bytes contents a b these those

one_task : KeepLaws → (told : List ℕ → Option (List ℕ)) (words : List (List ℕ)) (a b : TaskRefusal) → TellsFiles told words → Explains told words (refusal.Task a) → Explains told words (refusal.Task b) → a ≡ b
one_task laws told words a b tells p q =
    let (bytes, contents, asked, these, those) = both told words (λ bytes contents asked. Untold bytes contents asked a) (λ bytes contents asked. Untold bytes contents asked b) (then_task told words a tells p) (then_task told words b tells q) in
    one_untold laws bytes contents asked a b these those

-- one refusal explains why there is no answer
one_reason_alone : KeepLaws → (told : List ℕ → Option (List ℕ)) (words : List (List ℕ)) (a b : Refusal) → TellsFiles told words → is_reason a ≡ true → is_reason b ≡ true
    → Explains told words a → Explains told words b → a ≡ b
one_reason_alone laws told words refusal.ReadFault b tells is is' p q = let same : false ≡ true = is in absurd cc
one_reason_alone laws told words a refusal.ReadFault tells is is' p q = let same : false ≡ true = is' in absurd cc
one_reason_alone laws told words refusal.Doors b tells is is' p q = absurd p
one_reason_alone laws told words a refusal.Doors tells is is' p q = absurd q
one_reason_alone laws told words refusal.Usage refusal.Usage tells is is' p q = refl
one_reason_alone laws told words refusal.Usage (refusal.Base b) tells is is' p q = absurd (no_command words p q.0)
one_reason_alone laws told words refusal.Usage (refusal.Task b) tells is is' p q = absurd (no_command words p q.0.asks)
one_reason_alone laws told words (refusal.Base a) refusal.Usage tells is is' p q = absurd (no_command words q p.0)
one_reason_alone laws told words (refusal.Task a) refusal.Usage tells is is' p q = absurd (no_command words q p.0.asks)
one_reason_alone laws told words (refusal.Base a) (refusal.Base b) tells is is' p q = ap (λ (why : BaseRefusal). refusal.Base why) (one_base laws told words a b tells p q)
one_reason_alone laws told words (refusal.Base a) (refusal.Task b) tells is is' p q = absurd (refused_or_untold laws told words a b tells p q)
one_reason_alone laws told words (refusal.Task a) (refusal.Base b) tells is is' p q = absurd (refused_or_untold laws told words b a tells q p)
one_reason_alone laws told words (refusal.Task a) (refusal.Task b) tells is is' p q = ap (λ (why : TaskRefusal). refusal.Task why) (one_task laws told words a b tells p q)

-- ---- of statuses

-- an answer that follows from the words and from what the shelf told: the text, or the line of a refusal
abbrev Found : (List ℕ → Option (List ℕ)) → List (List ℕ) → Status → List ℕ → Type 0
Found told words s x = ((s ≡ status.Ok) × HasAnswer told words x) ⊎ IsRefused told words s x

found : (told : List ℕ → Option (List ℕ)) (words : List (List ℕ)) (s : Status) (x : List ℕ) → IsTrue (is_answer s) → Answers told words s x → Found told words s x
found told words status.Ok x is a = inl (refl, a)
found told words status.Usage x is a = inr a
found told words status.BadDoors x is a = inr a
found told words status.Limit x is a = inr a
found told words (status.Document line why) x is a = inr a
found told words (status.Profile rule subject) x is a = inr a
found told words status.Asked x is a = inr a
found told words status.ReadFault x is a = let never : false ≡ true = is in absurd cc
found told words status.WriteFault x is a = let never : false ≡ true = is in absurd cc
found told words status.NoMemory x is a = let never : false ≡ true = is in absurd cc
found told words (status.DoorFault console) x is a = let never : false ≡ true = is in absurd cc

-- a refusal of an answer is no fault of reading
reason_of : (s : Status) (why : Refusal) → IsTrue (is_answer s) → s ≡ status_of why → is_reason why ≡ true
reason_of s refusal.Usage is same = refl
reason_of s refusal.Doors is same = refl
reason_of s refusal.ReadFault is same = let never : false ≡ true = sym (ap is_answer same) ∙ is in absurd cc
reason_of s (refusal.Base why) is same = refl
reason_of s (refusal.Task why) is same = refl

two_refused : KeepLaws → (told : List ℕ → Option (List ℕ)) (words : List (List ℕ)) (s t : Status) (x y : List ℕ) → TellsFiles told words → IsTrue (is_answer s) → IsTrue (is_answer t)
    → IsRefused told words s x → IsRefused told words t y → (s ≡ t) × (x ≡ y)
two_refused laws told words s t x y tells is is' a b =
    let same = one_reason_alone laws told words a.why b.why tells (reason_of s a.why is a.status) (reason_of t b.why is' b.status) a.explains b.explains in
    (a.status ∙ ap status_of same ∙ sym b.status, a.line ∙ ap line_of same ∙ sym b.line)

two_found : KeepLaws → (told : List ℕ → Option (List ℕ)) (words : List (List ℕ)) (s t : Status) (x y : List ℕ) → TellsFiles told words → IsTrue (is_answer s) → IsTrue (is_answer t)
    → Found told words s x → Found told words t y → (s ≡ t) × (x ≡ y)
two_found laws told words s t x y tells is is' (inl a) (inl b) = (a.0 ∙ sym b.0, one_of_answers laws told words x y tells a.1 b.1)
two_found laws told words s t x y tells is is' (inl a) (inr b) = absurd (not_refused laws told words x b.why tells (reason_of t b.why is' b.status) a.1 b.explains)
two_found laws told words s t x y tells is is' (inr a) (inl b) = absurd (not_refused laws told words y a.why tells (reason_of s a.why is a.status) b.1 a.explains)
two_found laws told words s t x y tells is is' (inr a) (inr b) = two_refused laws told words s t x y tells is is' a b

-- what the words ask for, and what the shelf tells of it, have one status and one text
pub one_answer : KeepLaws → (told : List ℕ → Option (List ℕ)) (words : List (List ℕ)) (a b : Status) (x y : List ℕ) → TellsFiles told words → IsTrue (is_answer a) → IsTrue (is_answer b)
    → Answers told words a x → Answers told words b y → (a ≡ b) × (x ≡ y)
one_answer laws told words a b x y tells is is' p q = two_found laws told words a b x y tells is is' (found told words a x is p) (found told words b y is' q)
