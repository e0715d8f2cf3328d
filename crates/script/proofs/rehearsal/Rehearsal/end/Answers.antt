use Rattle.std.proofs.Common.{◌≡◌, ◌++◌, ℕ, List, Option, Some, Result, OnOk, refl, sym, subst}
use Rattle.std.proofs.lemmas.Result.{on_ok_weaker}
use Rattle.script.specs.Lines.{behind_console}
use Rattle.script.specs.Rehearsal.{RehearsalState}
use Rattle.script.specs.Staging.{Ends, Staged, StagesKept}
use Rattle.script.proofs.rehearsal.Rehearsal.end.Goals as goal

-- the document that is open is answered
ended : {T E : Type 0} (r : Result T E) (document : Option Staged) (staged : Staged) (before after : RehearsalState) (old new : List ℕ) → document ≡ Some staged
    → OnOk r ((told : List ℕ) × (new ≡ old ++ behind_console staged.console told) × StagesKept before staged told after)
    → OnOk r ((text : List ℕ) × (new ≡ old ++ text) × Ends before document text after)
ended r document staged before after old new is =
    on_ok_weaker r (λ h. (behind_console staged.console h.0, h.1, subst (λ (d : Option Staged). Ends before d (behind_console staged.console h.0) after) (sym is) (h.0, refl, h.2)))

pub returns-in-Some : goal.returns-in-Some
returns-in-Some g c = ended c.close.result c.args.document c.in-Some.staging c.args.self.now c.close.new.self c.args.into.now.items c.close.new.into.items c.in-Some.is c.close.ensures
