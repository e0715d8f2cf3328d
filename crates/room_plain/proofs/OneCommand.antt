-- Words name one base and the same further files, and ask for one task.
use Rattle.std.proofs.Common.{◌≡◌, ℕ, List, [], ◌∷◌, length, codes, refl, sym, ap, ◌∙◌, arith}
use Rattle.std.proofs.lemmas.Option.{same_Some}
use Rattle.cim_words.specs.IdText.{plain_number}
use Rattle.cim_words.specs.Phases.{phase_text}
use Rattle.cim_words.specs.declared.identifier.Id.{Id}
use Rattle.cim_words.specs.declared.phases.PhaseSet.{PhaseSet}
use Rattle.cim_words.proofs.PhaseTexts.{phase_text-injective}
use Rattle.room_plain.specs.Command.{IsCommand, IsCheckCommand, IsScriptCommand, IsTraceCommand}
use Rattle.room_plain.specs.declared.task.Task.{Task}
use Rattle.room_plain.specs.declared.task.Task.TheVariants as task

same_trace : (a b : Id) (p q : PhaseSet) → a.number ≡ b.number → p ≡ q → task.Trace a p ≡ task.Trace b q
same_trace a b p q numbers phases =
    let ids : a ≡ b = ap (λ (n : ℕ). record { number = n }) numbers in
    cc

-- the words of each task are of another number
abbrev word_count : Task → ℕ
word_count task.Check = 2
word_count (task.Trace source phases) = 4
word_count task.Play = 3

counted : (words : List (List ℕ)) (name : List ℕ) (more : List (List ℕ)) (asked : Task) → IsCommand words name more asked → length words ≡ word_count asked
counted words name more task.Check command = ap length command.0.two_words
counted words name more (task.Trace source phases) command = ap length command.0.four_words
counted words name more task.Play command = ap length command.1.three_words

two_tasks : (words : List (List ℕ)) (name name' : List ℕ) (more more' : List (List ℕ)) (a b : Task) → IsCommand words name more a → IsCommand words name' more' b
    → word_count a ≡ word_count b
two_tasks words name name' more more' a b p q = sym (counted words name more a p) ∙ counted words name' more' b q

two_checks : (words : List (List ℕ)) (name name' : List ℕ) → IsCheckCommand words name → IsCheckCommand words name' → name ≡ name'
two_checks words name name' p q =
    let same : codes "check" ∷ name ∷ [] ≡ codes "check" ∷ name' ∷ [] = sym p.two_words ∙ q.two_words in
    cc

-- (that a text is of one set of phases is a lemma of the crate of words, which has no law that says it)
two_traces : (words : List (List ℕ)) (name name' : List ℕ) (source source' : Id) (phases phases' : PhaseSet) → IsTraceCommand words name source.number phases
    → IsTraceCommand words name' source'.number phases' → (name ≡ name') × (task.Trace source phases ≡ task.Trace source' phases')
two_traces words name name' source source' phases phases' p q =
    let same : codes "trace" ∷ name ∷ p.source_word ∷ phase_text phases ∷ [] ≡ codes "trace" ∷ name' ∷ q.source_word ∷ phase_text phases' ∷ [] =
    sym p.four_words ∙ q.four_words in
    let names : name ≡ name' = cc in
    let texts : phase_text phases ≡ phase_text phases' = cc in
    let source_words : p.source_word ≡ q.source_word = cc in
    let sources : source.number ≡ source'.number = same_Some source.number source'.number (sym p.identifier ∙ ap plain_number source_words ∙ q.identifier) in
    (names, same_trace source source' phases phases' sources (phase_text-injective phases phases' texts))

two_scripts : (words : List (List ℕ)) (name name' script script' : List ℕ) → IsScriptCommand words name script → IsScriptCommand words name' script' → (name ≡ name') × (script ≡ script')
two_scripts words name name' script script' p q =
    let same : codes "script" ∷ name ∷ script ∷ [] ≡ codes "script" ∷ name' ∷ script' ∷ [] = sym p.three_words ∙ q.three_words in
    let names : name ≡ name' = cc in
    let scripts : script ≡ script' = cc in
    (names, scripts)

pub one_command : (words : List (List ℕ)) (name name' : List ℕ) (more more' : List (List ℕ)) (a b : Task) → IsCommand words name more a → IsCommand words name' more' b
    → (name ≡ name') × (more ≡ more') × (a ≡ b)
one_command words name name' more more' task.Check task.Check p q = (two_checks words name name' p.0 q.0, p.1 ∙ sym q.1, refl)
one_command words name name' more more' (task.Trace source phases) (task.Trace source' phases') p q =
    let same = two_traces words name name' source source' phases phases' p.0 q.0 in
    (same.0, p.1 ∙ sym q.1, same.1)
one_command words name name' more more' task.Play task.Play p q =
    let same = two_scripts words name name' p.0 q.0 p.1 q.1 in
    (same.0, p.2 ∙ ap (λ (script : List ℕ). script ∷ []) same.1 ∙ sym q.2, refl)
one_command words name name' more more' task.Check (task.Trace source phases) p q =
    let counts = two_tasks words name name' more more' task.Check (task.Trace source phases) p q in absurd (omega (arith, counts))
one_command words name name' more more' task.Check task.Play p q =
    let counts = two_tasks words name name' more more' task.Check task.Play p q in absurd (omega (arith, counts))
one_command words name name' more more' (task.Trace source phases) task.Check p q =
    let counts = two_tasks words name name' more more' (task.Trace source phases) task.Check p q in absurd (omega (arith, counts))
one_command words name name' more more' (task.Trace source phases) task.Play p q =
    let counts = two_tasks words name name' more more' (task.Trace source phases) task.Play p q in absurd (omega (arith, counts))
one_command words name name' more more' task.Play task.Check p q =
    let counts = two_tasks words name name' more more' task.Play task.Check p q in absurd (omega (arith, counts))
one_command words name name' more more' task.Play (task.Trace source phases) p q =
    let counts = two_tasks words name name' more more' task.Play (task.Trace source phases) p q in absurd (omega (arith, counts))
