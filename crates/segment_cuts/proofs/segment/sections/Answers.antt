use Rattle.std.proofs.Common.{ap, subst, List}
use Rattle.std.proofs.lemmas.Result.{IfOk-weaker}
use Rattle.segment_cuts.specs.Line.{IsCutUp, spots}
use Rattle.segment_cuts.specs.declared.mark.Spot.{Spot}
use Rattle.segment_cuts.proofs.Together.{cut_line, some_spots}
use Rattle.segment_cuts.proofs.segment.sections.Goals as goal

pub cut_up-requires : goal.cut_up-requires
cut_up-requires c = rw c.deref.ensures.value (some_spots c.args.marks.now _ c.in_ok-line.ensures)

pub returns : goal.returns
returns c = IfOk-weaker c.cut_up.result _ _ (λ made cut. cut_line c.args.marks.now c.requires (spots c.in_ok-line.line.items) c.in_ok-line.ensures made.items
    (subst (λ (line : List Spot). IsCutUp line made.items) (ap spots c.deref.ensures.value) cut)) c.cut_up.ensures
