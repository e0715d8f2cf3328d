use Rattle.std.proofs.Common.{take}
use Rattle.cim_profile.specs.MarkKind.{is_mark, mark_lengths}
use Rattle.cim_profile.proofs.PlaceLemmas.{IsPlacing}
use Rattle.cim_profile.proofs.marks.places_of.Given as goal

abbrev pub invariant-loop-row : goal.invariant-loop-row
invariant-loop-row l = IsPlacing (is_mark l.facts.statements.now l.kind) (mark_lengths l.facts.statements.now l.kind) (take l.row-index l.row-items) l.places.items
