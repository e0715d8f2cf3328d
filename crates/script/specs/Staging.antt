-- A document that a console is staging, and how its lines are taken.
use Rattle.std.specs.Prelude.{ℕ, ◌≡◌, ◌⊎◌, List, [], length, Option, Some, None, true, false}
use Rattle.room_words.specs.Differences.{Changes}
use Rattle.room_words.specs.declared.fault.Fault.TheVariants as fault
use Rattle.room_words.specs.declared.reply.Reply.TheVariants as reply
use Rattle.room_words.specs.declared.stage_fault.StageFault.{StageFault}
use Rattle.script.specs.Answers.{Answers, AnswersConsole, Tells}
use Rattle.script.specs.Lines.{Asks, behind_console, stage_word}
use Rattle.script.specs.Rehearsal.{RehearsalState, with_staged}
use Rattle.script.specs.Turns.{alone, is_skipped, opens}
use Rattle.staging.specs.Documents.{HasFault, Says, closes, more_kept}
use Rattle.wire.specs.Replies.{reply_text}

-- the console of a document, and its bytes; those of one that is too long are dropped
pub record Staged : Type 0 where
  pub console : ℕ
  pub text : Option (List ℕ)

-- the same after one more line
abbrev pub with_more : Staged → List ℕ → Staged
with_more staged line = record { console = staged.console; text = more_kept staged.text line }

-- What is kept is staged in place of what its console had staged, or it has a fault and changes nothing.
abbrev pub StagesKept : RehearsalState → Staged → List ℕ → RehearsalState → Type 0
StagesKept before staged text after =
    ((d : Changes) × Says staged.text d × (text ≡ reply_text (reply.Staged (length d.pre) (length d.rev) (length d.fwd)))
    × (after ≡ with_staged before staged.console (Some d)))
    ⊎ ((bad : StageFault) × HasFault staged.text bad × Tells before (reply.Fault (fault.Stage bad)) text after)

-- What a console asks is answered; or it stages a document, which is answered later.
abbrev pub Hears : RehearsalState → ℕ → List ℕ → List ℕ → RehearsalState → Option Staged → Type 0
Hears before console asked text after None =
    (asked ≡ stage_word → ⊥) × ((told : List ℕ) × (text ≡ behind_console console told) × AnswersConsole before console [] asked told after)
Hears before console asked text after (Some staged) =
    (asked ≡ stage_word) × (staged ≡ record { console = console; text = Some [] }) × (text ≡ []) × (after ≡ before)

-- A line outside a document is answered, or says nothing; or it begins a document, which is answered later.
abbrev pub Begins : RehearsalState → List ℕ → List ℕ → RehearsalState → Option Staged → Type 0
Begins before line text after None =
    ((is_skipped line ≡ true) × (text ≡ []) × (after ≡ before))
    ⊎ ((is_skipped line ≡ false) × (opens line ≡ false) × Answers before (alone line) text after)
Begins before line text after (Some staged) =
    (is_skipped line ≡ false) × (opens line ≡ true) × Asks line staged.console (stage_word) × (staged.text ≡ Some []) × (text ≡ []) × (after ≡ before)

-- A line within a document ends it, and it is answered; or it goes on.
abbrev pub GoesOn : RehearsalState → Staged → List ℕ → List ℕ → RehearsalState → Option Staged → Type 0
GoesOn before staged line text after None =
    (closes line ≡ true) × ((told : List ℕ) × (text ≡ behind_console staged.console told) × StagesKept before (with_more staged line) told after)
GoesOn before staged line text after (Some next) =
    (closes line ≡ false) × (next ≡ with_more staged line) × (text ≡ []) × (after ≡ before)

-- how a line is taken where a document is open, or none is
abbrev pub Takes : RehearsalState → Option Staged → List ℕ → List ℕ → RehearsalState → Option Staged → Type 0
Takes before None line text after next = Begins before line text after next
Takes before (Some staged) line text after next = GoesOn before staged line text after next

-- After the last line nothing more is answered; or a document is open, and is answered as it stands.
abbrev pub Ends : RehearsalState → Option Staged → List ℕ → RehearsalState → Type 0
Ends before None text after = (text ≡ []) × (after ≡ before)
Ends before (Some staged) text after = (told : List ℕ) × (text ≡ behind_console staged.console told) × StagesKept before staged told after
