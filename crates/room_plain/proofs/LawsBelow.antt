-- What the laws of the crates below give, under one name for each.
use Rattle.std.proofs.Common.{◌≡◌, ℕ, List}
use Rattle.cim_model.specs.Links.{network}
use Rattle.cim_model.specs.Reach.{IsReached}
use Rattle.cim_model.specs.Trace.{IsTrace, Row}
use Rattle.cim_words.specs.declared.phases.PhaseSet.{PhaseSet}
use Rattle.cim_words.specs.declared.statement.Statement.{Statement}
use Rattle.room_words.specs.Overlay.{no_overlay}
use Rattle.script.specs.Played.{IsPlayed}
use Rattle.room_base.specs.Base.{IsBase, RefusesBase}
use Rattle.room_base.specs.declared.refusal.BaseRefusal.{BaseRefusal}

-- bytes are a base with one set of statements or are refused for one reason, a trace of a network has one list of rows, and a script
-- has one answer over a base
pub record KeepLaws : Type 0 where
  pub set : (bytes : List ℕ) (a b : List Statement) → IsBase bytes a → IsBase bytes b → a ≡ b
  pub either : (bytes : List ℕ) (set : List Statement) (why : BaseRefusal) → IsBase bytes set → RefusesBase bytes why → ⊥
  pub refusal : (bytes : List ℕ) (a b : BaseRefusal) → RefusesBase bytes a → RefusesBase bytes b → a ≡ b
  pub trace : (m : List Statement) (x : ℕ) (phases : PhaseSet) (a b : List Row) → IsTrace (IsReached (network m no_overlay) x phases) a → IsTrace (IsReached (network m no_overlay) x phases) b → a ≡ b
  pub script : (base : List Statement) (script a b : List ℕ) → IsPlayed base script a → IsPlayed base script b → a ≡ b
