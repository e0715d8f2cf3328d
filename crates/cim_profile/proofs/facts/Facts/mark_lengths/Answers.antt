use Rattle.std.proofs.Common.{◌∙◌, sym, true, false}
use Rattle.cim_model.specs.Model.{said}
use Rattle.cim_profile.specs.MarkKind.{length_of}
use Rattle.cim_profile.proofs.facts.Facts.mark_lengths.Goals as goal
use Rattle.cim_profile.proofs.facts.Facts.mark_lengths.Goals.{then-is_empty+in_ok-push, else-is_empty}
use Rattle.cim_profile.proofs.RowValues.{zero_read}

pub returns : goal.returns
returns c =
    let read = zero_read c.at-rows.result.now (said c.args.self.now.statements.now c.args.mark.number (length_of c.args.kind)) c.in_ok-lengths.lengths.items c.in_ok-lengths.ensures (rw c.at-rows.ensures (c.lengths_of.ensures c.args.mark.number)) in
    elim c.if-is_empty.branch [
      | then-is_empty+in_ok-push w ↦ rw (w.lengths-is, w.in_ok-push.ensures.items) (read true (sym c.is_empty.ensures ∙ w.if-is_empty.true))
      | else-is_empty w ↦ rw w.lengths-is (read false (sym c.is_empty.ensures ∙ w.if-is_empty.false))
    ]
