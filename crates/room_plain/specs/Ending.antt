-- How a command ends once its files were read: with a status, when some of its text went to the output; or refused, when none did.
use Rattle.std.specs.Prelude.{ℕ, ◌≡◌, List, Option, Result, Ok, Err}
use Rattle.cim_words.specs.declared.statement.Statement.{Statement}
use Rattle.history_writer.specs.Sending.{OutputState}
use Rattle.room_base.specs.Base.{IsBase, RefusesBase}
use Rattle.room_base.specs.Status.{status_of}
use Rattle.room_base.specs.declared.refusal.Failure.{Failure}
use Rattle.room_base.specs.declared.refusal.Failure.TheVariants as failure
use Rattle.room_base.specs.declared.refusal.Refusal.{Refusal}
use Rattle.room_base.specs.declared.refusal.Refusal.TheVariants as refusal
use Rattle.room_base.specs.declared.status.Status.{Status}
use Rattle.room_base.specs.declared.status.Status.TheVariants as status
use Rattle.room_plain.specs.Run.{Answers, HandsTask, IsFrontOf, IsHanded, RefusesTask, Tells, Writes}
use Rattle.room_plain.specs.declared.task.Task.{Task}
use Rattle.room_plain.specs.declared.task.Task.TheVariants as task

-- what a task tells with a status: its text, or a front of it where the output failed, or where memory ended as a script was played
abbrev pub TellsWith : Status → Task → List Statement → List (List ℕ) → List ℕ → Type 0
TellsWith status.Ok asked set contents text = Tells asked set contents text
TellsWith status.WriteFault asked set contents text = IsFrontOf asked set contents text
TellsWith status.NoMemory asked set contents text = (asked ≡ task.Play) × IsFrontOf task.Play set contents text
TellsWith _ asked set contents text = ⊥

-- a task's text over a set went to the output
abbrev pub IsDone : Task → List Statement → List (List ℕ) → Status → OutputState → OutputState → Type 0
IsDone asked set contents ends before after = (text : List ℕ) × TellsWith ends asked set contents text
    × Writes ends before.written after.written before.faults after.faults text × HandsTask asked before.handed after.handed text

-- the same over a base from its bytes; and why a task tells nothing of these
abbrev pub IsTold : List ℕ → Task → List (List ℕ) → Status → OutputState → OutputState → Type 0
IsTold bytes asked contents ends before after = (set : List Statement) × IsBase bytes set × IsDone asked set contents ends before after

abbrev pub IsUntold : List ℕ → Task → Refusal → Type 0
IsUntold bytes asked (refusal.Base why) = RefusesBase bytes why
IsUntold bytes asked (refusal.Task why) = (set : List Statement) × IsBase bytes set × RefusesTask asked set why
IsUntold bytes asked why = ⊥

-- a status and a text that answer words, the text as it was written, and as it was handed over
abbrev pub IsSaid : (List ℕ → Option (List ℕ)) → List (List ℕ) → Status → OutputState → OutputState → Type 0
IsSaid told words ends before after = (text : List ℕ) × Answers told words ends text
    × Writes ends before.written after.written before.faults after.faults text × IsHanded words ends text before.handed after.handed

-- the status with which a run ends
abbrev pub ending : Result Status (Failure Refusal) → Status
ending (Ok ends) = ends
ending (Err (failure.Refusal why)) = status_of why
ending (Err failure.NoMemory) = status.NoMemory
