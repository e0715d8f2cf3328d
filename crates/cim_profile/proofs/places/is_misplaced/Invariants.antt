use Rattle.std.proofs.Common.{◌≡◌, ℕ, map, take, drop, false}
use Rattle.std.specs.List.{list_any}
use Rattle.cim_words.specs.declared.statement.Statement.{Statement}
use Rattle.cim_model.specs.Model.{named_by}
use Rattle.cim_model.specs.Values.{mm_of}
use Rattle.cim_profile.specs.Facts.{is_present_and}
use Rattle.cim_profile.specs.MarkKind.{segment_of}
use Rattle.cim_profile.specs.Places.{lies_wrongly}
use Rattle.cim_profile.proofs.places.is_misplaced.Given as goal

abbrev pub invariant-loop-statement : goal.invariant-loop-statement
invariant-loop-statement l =
    (i : ℕ) × (l.statement-iterator ≡ drop i l.subject.statements)
    × (list_any (λ (s : Statement). is_present_and (lies_wrongly l.facts.statements.now l.kind l.subject.id.number (map mm_of l.lengths.items)) (named_by (segment_of l.kind) s)) (take i l.subject.statements) ≡ false)
