use Rattle.std.proofs.Common.{◌≡◌, true, false, arith}
use Rattle.std.proofs.lemmas.Grind.{common_steps}
use Rattle.grid_out.specs.Shelf.{shelf_fails}
use Rattle.grid_out.proofs.ShelfReads.{no_fault}
use Rattle.grid_out.proofs.mem_shelf.MemShelfShelf.read_whole.Goals as goal

pub returns-in-Some-clause-fails : goal.returns-in-Some-clause-fails
returns-in-Some-clause-fails c =
    let succeeds : shelf_fails c.args.self.now c.args.name.now ≡ false = grind (arith, common_steps) in
    (λ e. absurd (no_fault _ c.copy_within.ensures.no_fault e), λ fails. cc)

pub returns-in_default-clause-too_long : goal.returns-in_default-clause-too_long
returns-in_default-clause-too_long c =
    let fails : shelf_fails c.args.self.now c.args.name.now ≡ true = grind (arith, common_steps) in
    (λ e. cc, λ both. let succeeds = both.0 in cc)
