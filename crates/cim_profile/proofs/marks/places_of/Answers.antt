use Rattle.std.proofs.Common.{◌∙◌, sym}
use Rattle.cim_profile.specs.MarkKind.{is_mark, mark_lengths, segment_of}
use Rattle.cim_profile.proofs.PlaceLemmas.{no_row, placing_all, placing_more, placing_past}
use Rattle.cim_profile.proofs.marks.places_of.Goals as goal

pub loop-row-preserved-then-not-is_of : goal.loop-row-preserved-then-not-is_of
loop-row-preserved-then-not-is_of c =
    let m = c.args.facts.now.statements.now in
    placing_past (is_mark m c.args.kind) (mark_lengths m c.args.kind) c.rows-row-items.result.now c.loop-row.row-index no_row c.loop-row.places.items
    c.loop-row-test.true (rw (← c.class.ensures) (sym c.is_of.ensures ∙ c.if-not-is_of.true)) c.loop-row.invariant

pub loop-row-preserved : goal.loop-row-preserved
loop-row-preserved c =
    let m = c.args.facts.now.statements.now in
    placing_more (is_mark m c.args.kind) (mark_lengths m c.args.kind) c.rows-row-items.result.now c.loop-row.row-index no_row c.loop-row.places.items c.add_places.new.places.items c.in_ok-lengths.lengths.items
    c.loop-row-test.true (rw (← c.class.ensures) (sym c.is_of.ensures ∙ c.if-not-is_of.false)) c.in_ok-lengths.ensures (rw (← c.deref.ensures.value) c.in_ok-add_places.ensures) c.loop-row.invariant

pub returns : goal.returns
returns c =
    let m = c.args.facts.now.statements.now in
    placing_all (is_mark m c.args.kind) (mark_lengths m c.args.kind) (segment_of c.args.kind) m c.rows-row-items.result.now c.loop-row.row-index c.loop-row.places.items c.loop-row-test.false (rw c.rows-row-items.ensures c.marks.ensures) c.loop-row.invariant
