use Rattle.std.proofs.Common.{◌≡◌, ℕ, ◌<◌, length, get_or, false}
use Rattle.segment_cuts.specs.declared.mark.Mark.{Mark}
use Rattle.layer_tests.proofs.sections.are_apart.Given as goal

abbrev pub invariant-loop-index : goal.invariant-loop-index
invariant-loop-index l =
    ((i j : ℕ) (d : Mark) → i < l.index → i < j → j < length l.marks → ¬ ((get_or l.marks i d).id ≡ (get_or l.marks j d).id))
    × ((i j : ℕ) (d : Mark) → i < l.index → i < j → j < length l.marks → (get_or l.marks i d).length ≡ (get_or l.marks j d).length → ((get_or l.marks i d).divides ≡ false) × ((get_or l.marks j d).divides ≡ false))
