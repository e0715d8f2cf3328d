-- What a script is answered over a base, of this project.
use Rattle.std.specs.Prelude.{ℕ, ◌≡◌, ◌⊎◌, List, [], ◌++◌}
use Rattle.cim_words.specs.declared.statement.Statement.{Statement}
use Rattle.desk.specs.Legal.{IsLegal}
use Rattle.script.specs.Answers.{AreAnswered}
use Rattle.script.specs.Rehearsal.{RehearsalState, at_start}
use Rattle.script.specs.Turns.{Turn, turns_of}
use Rattle.versions.specs.History.{Judges}
use Rattle.wire.specs.Entries.{history_text}

-- The replies to all turns of a script, one after the other, and then the history that they made, which is legal.
pub record IsPlayed (base : List Statement) (script text : List ℕ) : Type 0 where
  pub replies : List ℕ
  pub after : RehearsalState
  pub answered : AreAnswered (at_start base) (turns_of script) replies after
  pub legal : IsLegal (Judges base) after.room.log
  pub is_text : text ≡ replies ++ history_text after.room.log

-- A front of the replies to the first turns of a script, or of the whole text.
pub record IsFront (base : List Statement) (script front : List ℕ) : Type 0 where
  pub done : List Turn
  pub left : List Turn
  pub turns : turns_of script ≡ done ++ left
  pub replies : List ℕ
  pub after : RehearsalState
  pub answered : AreAnswered (at_start base) done replies after
  pub more : List ℕ
  pub within : (front ++ more ≡ replies) ⊎ ((left ≡ []) × (front ++ more ≡ replies ++ history_text after.room.log))
