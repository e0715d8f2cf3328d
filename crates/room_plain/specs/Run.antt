-- What the program answers: a status and a text, by the words of its command and by what the shelf tells.
use Rattle.std.specs.Prelude.{ℕ, ◌≡◌, ◌⊎◌, List, [], ◌∷◌, length, Option, IfSome, Bool, true, false, IsTrue}
use Rattle.cim_model.specs.Links.{network}
use Rattle.cim_model.specs.Network.{is_equipment}
use Rattle.cim_model.specs.Reach.{IsReached}
use Rattle.cim_model.specs.Trace.{IsTrace, Row}
use Rattle.cim_words.specs.declared.phases.PhaseSet.{PhaseSet}
use Rattle.cim_words.specs.declared.statement.Statement.{Statement}
use Rattle.grid_out.specs.Faults.{Rose}
use Rattle.grid_out.specs.Sink.{Gains, GainsPrefix, Hands}
use Rattle.room_words.specs.Overlay.{no_overlay}
use Rattle.room_words.specs.TraceText.{trace_text}
use Rattle.history_writer.specs.Sending.{HandsText}
use Rattle.script.specs.Played.{IsFront, IsPlayed}
use Rattle.room_base.specs.declared.refusal.BaseRefusal.{BaseRefusal}
use Rattle.room_base.specs.declared.refusal.BaseRefusal.TheVariants as of_base
use Rattle.room_base.specs.declared.refusal.Refusal.{Refusal}
use Rattle.room_base.specs.declared.refusal.Refusal.TheVariants as refusal
use Rattle.room_base.specs.declared.refusal.TaskRefusal.{TaskRefusal}
use Rattle.room_base.specs.declared.refusal.TaskRefusal.TheVariants as of_task
use Rattle.room_base.specs.declared.status.Status.{Status}
use Rattle.room_base.specs.declared.status.Status.TheVariants as status
use Rattle.room_base.specs.Refusing.{GainsAtMost, GainsFront}
use Rattle.room_base.specs.Base.{IsBase, RefusesBase}
use Rattle.room_base.specs.Files.{AreContents, NoneIsLong, OneIsLong, TellsAll}
use Rattle.room_base.specs.Status.{line_of, status_of}
use Rattle.room_plain.specs.declared.task.Task.{Task}
use Rattle.room_plain.specs.declared.task.Task.TheVariants as task
use Rattle.room_plain.specs.CheckText.{check_text}
use Rattle.room_plain.specs.Command.{IsCommand}

-- the words are no command of this program
abbrev pub IsNoCommand : List (List ℕ) → Type 0
IsNoCommand words = (name : List ℕ) (more : List (List ℕ)) (asked : Task) → IsCommand words name more asked → ⊥

-- a task was asked for, over a base and further files
pub record Asks (words : List (List ℕ)) : Type 0 where
  pub name : List ℕ
  pub more : List (List ℕ)
  pub asked : Task
  pub command : IsCommand words name more asked

-- the shelf tells what the base and the further files contain that are asked for, where there are any
abbrev pub TellsFiles : (List ℕ → Option (List ℕ)) → List (List ℕ) → Type 0
TellsFiles told words = (asks : Asks words) → TellsAll told (asks.name ∷ asks.more)

-- the files that were asked for were read: the base, and what the further ones contain, each as the shelf tells it, where it does
pub record Reads (told : List ℕ → Option (List ℕ)) (words : List (List ℕ)) : Type 0 where
  pub asks : Asks words
  pub contents : List (List ℕ)
  pub further : AreContents told asks.more contents
  pub set : List Statement
  pub of_base : IfSome (told asks.name) (λ bytes. IsBase bytes set)

-- the text is the trace of an untouched network, without cuts, clamps, jumpers and grounds of operators, from a piece of its equipment
pub record IsTraced (set : List Statement) (source : ℕ) (phases : PhaseSet) (text : List ℕ) : Type 0 where
  pub equipment : IsTrue (is_equipment set source)
  pub rows : List Row
  pub trace : IsTrace (IsReached (network set no_overlay) source phases) rows
  pub is_text : text ≡ trace_text 0 rows

-- What a task tells of a set of statements and of what the further files contain: a check tells how many statements they are, and
-- a script is played.
abbrev pub Tells : Task → List Statement → List (List ℕ) → List ℕ → Type 0
Tells task.Check set contents text = text ≡ check_text (length set)
Tells (task.Trace source phases) set contents text = IsTraced set source.number phases text
Tells task.Play set (script ∷ []) text = IsPlayed set script text
Tells task.Play set contents text = ⊥

-- a front of that, as it is handed to the output: of a script's answer any one, and else the whole
abbrev pub IsFrontOf : Task → List Statement → List (List ℕ) → List ℕ → Type 0
IsFrontOf task.Play set (script ∷ []) text = IsFront set script text
IsFrontOf asked set contents text = Tells asked set contents text

-- why a task tells nothing of a set: a trace begins at equipment
abbrev pub RefusesTrace : List Statement → ℕ → TaskRefusal → Type 0
RefusesTrace set source of_task.Asked = is_equipment set source ≡ false

abbrev pub RefusesTask : Task → List Statement → TaskRefusal → Type 0
RefusesTask task.Check set why = ⊥
RefusesTask (task.Trace source phases) set why = RefusesTrace set source.number why
RefusesTask task.Play set why = ⊥

-- the task's text of the files that were read; a front of it; and a front of what a script is answered
abbrev pub HasAnswer : (List ℕ → Option (List ℕ)) → List (List ℕ) → List ℕ → Type 0
HasAnswer told words text = (reads : Reads told words) × Tells reads.asks.asked reads.set reads.contents text

abbrev pub HasFront : (List ℕ → Option (List ℕ)) → List (List ℕ) → List ℕ → Type 0
HasFront told words text = (reads : Reads told words) × IsFrontOf reads.asks.asked reads.set reads.contents text

abbrev pub HasPlayed : (List ℕ → Option (List ℕ)) → List (List ℕ) → List ℕ → Type 0
HasPlayed told words text = (reads : Reads told words) × (reads.asks.asked ≡ task.Play) × IsFrontOf task.Play reads.set reads.contents text

-- The base that was asked for is none, and no further file is too long; or a file that was asked for is.
abbrev pub HasNoBase : (List ℕ → Option (List ℕ)) → List (List ℕ) → BaseRefusal → Type 0
HasNoBase told words why = (asks : Asks words)
    × ((NoneIsLong told asks.more × IfSome (told asks.name) (λ bytes. RefusesBase bytes why)) ⊎ ((why ≡ of_base.Limit) × OneIsLong told (asks.name ∷ asks.more)))

-- the base that was read has no such answer
abbrev pub HasNoAnswer : (List ℕ → Option (List ℕ)) → List (List ℕ) → TaskRefusal → Type 0
HasNoAnswer told words why = (reads : Reads told words) × RefusesTask reads.asks.asked reads.set why

-- why words have no answer, by what the shelf tells: they are no command, a file that they name could not be read, the base is none
-- or a file is too long, or the base has no such answer. No command here has doors.
abbrev pub Explains : (List ℕ → Option (List ℕ)) → List (List ℕ) → Refusal → Type 0
Explains told words refusal.Usage = IsNoCommand words
Explains told words refusal.Doors = ⊥
Explains told words refusal.ReadFault = Asks words
Explains told words (refusal.Base why) = HasNoBase told words why
Explains told words (refusal.Task why) = HasNoAnswer told words why

-- a refusal explains why there is no answer, and status and text are its own
pub record IsRefused (told : List ℕ → Option (List ℕ)) (words : List (List ℕ)) (ends : Status) (text : List ℕ) : Type 0 where
  pub why : Refusal
  pub explains : Explains told words why
  pub status : ends ≡ status_of why
  pub line : text ≡ line_of why

-- When each status comes, and with which text: the text of the answer, or a front of it where the output failed; nothing for want of
-- memory, which comes at any time, but a front of what a script is answered where it is played; and else the line of a refusal.
abbrev pub Answers : (List ℕ → Option (List ℕ)) → List (List ℕ) → Status → List ℕ → Type 0
Answers told words status.Ok text = HasAnswer told words text
Answers told words status.WriteFault text = HasFront told words text
Answers told words status.NoMemory text = (text ≡ []) ⊎ HasPlayed told words text
Answers told words ends text = IsRefused told words ends text

-- What the output gained of a text, by the status.
abbrev pub Writes : Status → Option (List ℕ) → Option (List ℕ) → ℕ → ℕ → List ℕ → Type 0
Writes status.Ok old new before now text = Gains old new text × (now ≡ before)
Writes status.WriteFault old new before now text = GainsFront old new before now text
Writes status.NoMemory old new before now text = Gains old new text × (now ≡ before)
Writes _ old new before now text = GainsAtMost old new before now text

-- How a task's text is handed over: as a script is played, in pieces that make it up, and else all at once.
abbrev pub HandsTask : Task → Option (List (List ℕ)) → Option (List (List ℕ)) → List ℕ → Type 0
HandsTask task.Play old new text = HandsText old new text
HandsTask _ old new text = Hands old new (text ∷ [])

abbrev pub HandsFor : List (List ℕ) → Option (List (List ℕ)) → Option (List (List ℕ)) → List ℕ → Type 0
HandsFor words old new text = (asks : Asks words) × HandsTask asks.asked old new text

abbrev pub HandsPlayed : List (List ℕ) → Option (List (List ℕ)) → Option (List (List ℕ)) → List ℕ → Type 0
HandsPlayed words old new text = (asks : Asks words) × (asks.asked ≡ task.Play) × HandsText old new text

-- How the text of a status is handed over: a task's text as above, even where memory ended while a script was played; the line of a
-- refusal at once; and nothing where no text is written.
abbrev pub IsHanded : List (List ℕ) → Status → List ℕ → Option (List (List ℕ)) → Option (List (List ℕ)) → Type 0
IsHanded words status.Ok text old new = HandsFor words old new text
IsHanded words status.WriteFault text old new = HandsFor words old new text
IsHanded words status.NoMemory text old new = ((text ≡ []) × Hands old new []) ⊎ HandsPlayed words old new text
IsHanded words _ text old new = Hands old new (text ∷ [])

-- The names of the files that the words ask for, in their order: the base's and then the further ones. No further one is asked for
-- where the base was not read, or was too long.
abbrev pub ends_early : Status → Bool
ends_early status.ReadFault = true
ends_early status.Limit = true
ends_early status.NoMemory = true
ends_early _ = false

abbrev pub AreNames : List (List ℕ) → Status → List (List ℕ) → Type 0
AreNames words ends names = (IsNoCommand words × (names ≡ []))
    ⊎ ((asks : Asks words) × ((names ≡ asks.name ∷ asks.more) ⊎ (IsTrue (ends_early ends) × (names ≡ asks.name ∷ []))))

-- a status that follows from the words and from what the shelf told, without a fault or want of memory
abbrev pub is_answer : Status → Bool
is_answer status.ReadFault = false
is_answer status.WriteFault = false
is_answer status.NoMemory = false
is_answer (status.DoorFault console) = false
is_answer _ = true
