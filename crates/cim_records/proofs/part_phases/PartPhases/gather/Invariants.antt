use Rattle.std.proofs.Common.{◌≡◌, ℕ, take, drop}
use Rattle.cim_records.specs.Found.{found}
use Rattle.cim_records.specs.Joined.{join_all, stated_by}
use Rattle.cim_records.proofs.part_phases.PartPhases.gather.Given as goal

abbrev pub invariant-loop-statement : goal.invariant-loop-statement
invariant-loop-statement l = (i : ℕ) × (l.statement-iterator ≡ drop i l.statements) × ((x : ℕ) → found l.self x ≡ join_all (found l.initial.self x) (stated_by l.subjects (take i l.statements) l.known x))
