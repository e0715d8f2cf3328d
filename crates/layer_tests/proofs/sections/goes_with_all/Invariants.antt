use Rattle.std.proofs.Common.{◌≡◌, ℕ, ◌<◌, get_or, false}
use Rattle.segment_cuts.specs.declared.mark.Mark.{Mark}
use Rattle.layer_tests.proofs.sections.goes_with_all.Given as goal

abbrev pub invariant-loop-other : goal.invariant-loop-other
invariant-loop-other l =
    ((k : ℕ) (d : Mark) → k < l.other-index → ¬ (l.mark.id ≡ (get_or l.others k d).id))
    × ((k : ℕ) (d : Mark) → k < l.other-index → l.mark.length ≡ (get_or l.others k d).length → (l.mark.divides ≡ false) × ((get_or l.others k d).divides ≡ false))
