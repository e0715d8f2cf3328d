-- Where a reader of lines stands between the pieces of a document.
use Rattle.std.specs.Prelude.{ℕ, ◌≡◌, List, [], ◌∷◌, ◌++◌, length, Bool, false, ◌==◌, Option, Some, None}
use Rattle.std.specs.List.{flat_map, AllByRecursion}
use Rattle.cim_words.specs.Written.{line_feed, carriage_return}
use Rattle.cim_words.specs.declared.statement.Statement.{Statement}
use Rattle.nt_text.specs.Cut.{IsFreeOf}
use Rattle.nt_text.specs.Document.{feeds_after, AreRead, IsBadDocument, IsStopped}
use Rattle.nt_text.specs.declared.refusal.NtFault.{NtFault}
use Rattle.nt_text.specs.declared.refusal.NtFault.TheVariants as fault

-- what a reader keeps: how many bytes it took and lines it ended, the bytes of the line that is not ended, whether a CR came last,
-- and the fault that it met
pub record ReaderState : Type 0 where
  pub fed : ℕ
  pub ended : ℕ
  pub rest : List ℕ
  pub after_return : Bool
  pub fault : Option NtFault

-- whether bytes end in a CR
abbrev pub ends_in_return : Bool → List ℕ → Bool
ends_in_return before [] = before
ends_in_return before (byte ∷ bytes) = ends_in_return (byte == carriage_return) bytes

-- the bytes are whole lines that hold the statements found, and then a rest without an end
pub record HasRead (state : ReaderState) (bytes : List ℕ) (found : List Statement) : Type 0 where
  pub whole : List (List ℕ)
  pub free : AllByRecursion (IsFreeOf line_feed) whole
  pub rest_free : IsFreeOf line_feed state.rest
  pub layout : feeds_after false bytes ≡ flat_map (λ line. line ++ line_feed ∷ []) whole ++ state.rest
  pub returns : state.after_return ≡ ends_in_return false bytes
  pub counted : state.ended ≡ length whole
  pub read : AreRead whole found

-- a fault is that of the document, however it goes on
abbrev pub HasFailed : NtFault → List ℕ → List Statement → Type 0
HasFailed (fault.Line number why) bytes found = (later : List ℕ) → IsBadDocument (bytes ++ later) number why found
HasFailed fault.NoMemory bytes found = (later : List ℕ) → IsStopped (bytes ++ later) found

abbrev pub Stands : Option NtFault → ReaderState → List ℕ → List Statement → Type 0
Stands None state bytes found = HasRead state bytes found
Stands (Some f) state bytes found = HasFailed f bytes found

-- the reader took these bytes and found these statements
pub record IsAt (state : ReaderState) (bytes : List ℕ) (found : List Statement) : Type 0 where
  pub taken : state.fed ≡ length bytes
  pub stands : Stands state.fault state bytes found

-- a reader that has taken nothing and met no fault
pub record IsNew (state : ReaderState) : Type 0 where
  pub at : IsAt state [] []
  pub none_fed : state.fed ≡ 0
  pub no_fault : state.fault ≡ None

-- a fault is that of these bytes as a whole document
abbrev pub IsFaultOf : NtFault → List ℕ → List Statement → Type 0
IsFaultOf (fault.Line number why) bytes found = IsBadDocument bytes number why found
IsFaultOf fault.NoMemory bytes found = IsStopped bytes found

-- statements came after those that were there, and this holds of them
abbrev pub Gained : List Statement → List Statement → (List Statement → Type 0) → Type 0
Gained old new Holds = (more : List Statement) × (new ≡ old ++ more) × Holds more
