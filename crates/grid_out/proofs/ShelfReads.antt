-- What an answer of a shelf is not.
use Rattle.std.proofs.Common.{◌≡◌, true, false, Result, Err, ap, sym, ◌∙◌}
use Rattle.grid_out.specs.Shelf.{is_failed}
use Rattle.grid_out.specs.declared.shelf.ShelfFault.{ShelfFault}
use Rattle.grid_out.specs.declared.shelf.ShelfFault.TheVariants.{Failed}

-- an answer that is no fault is not `Failed`
pub no_fault : (answer : Result (Unit {0}) ShelfFault) → is_failed answer ≡ false → answer ≡ Err Failed → ⊥
no_fault answer none e = let both : true ≡ false = ap is_failed (sym e) ∙ none in cc
