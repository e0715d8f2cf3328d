-- The words of the command line, of this project.
use Rattle.std.specs.Prelude.{ℕ, ◌≡◌, ◌≢◌, List, [], ◌∷◌, Some, codes, false, option_map, option_to_list}
use Rattle.cim_words.specs.IdText.{plain_number}
use Rattle.cim_words.specs.Phases.{phase_text, has_no_phase}
use Rattle.cim_words.specs.declared.phases.PhaseSet.{PhaseSet}
use Rattle.room_base.specs.Files.{IsFileName}
use Rattle.room_plain.specs.declared.command.Asked.{Asked}
use Rattle.room_plain.specs.declared.task.Task.{Task}
use Rattle.room_plain.specs.declared.task.Task.TheVariants as task

-- the words are `trace BASE SOURCE PHASES`: a file name, a plain identifier and the text of phases, of which there is one
pub record IsTraceCommand (words : List (List ℕ)) (name : List ℕ) (source : ℕ) (phases : PhaseSet) : Type 0 where
  pub source_word : List ℕ
  pub four_words : words ≡ codes "trace" ∷ name ∷ source_word ∷ phase_text phases ∷ []
  pub file : IsFileName name
  pub identifier : plain_number source_word ≡ Some source
  pub some_phase : has_no_phase phases ≡ false

-- the words are `check BASE`: a file name
pub record IsCheckCommand (words : List (List ℕ)) (name : List ℕ) : Type 0 where
  pub two_words : words ≡ codes "check" ∷ name ∷ []
  pub file : IsFileName name

-- the words are `script BASE SCRIPT`: two file names
pub record IsScriptCommand (words : List (List ℕ)) (name script : List ℕ) : Type 0 where
  pub three_words : words ≡ codes "script" ∷ name ∷ script ∷ []
  pub file : IsFileName name
  pub script_file : IsFileName script

-- the words ask for a task over a base and over further files, which are a script's where one is played
abbrev pub IsCommand : List (List ℕ) → List ℕ → List (List ℕ) → Task → Type 0
IsCommand words name more task.Check = IsCheckCommand words name × (more ≡ [])
IsCommand words name more (task.Trace source phases) = IsTraceCommand words name source.number phases × (more ≡ [])
IsCommand words name more task.Play = (script : List ℕ) × IsScriptCommand words name script × (more ≡ script ∷ [])

-- the names of the further files of what is asked for
abbrev pub further_names : Asked → List (List ℕ)
further_names asked = option_to_list (option_map (λ name. name.now) asked.script)
