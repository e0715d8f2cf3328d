use Rattle.std.proofs.Common.{List}
use Rattle.cim_words.specs.declared.statement.Statement.{Statement}
use Rattle.cim_profile.specs.Walk.{breaks_in}
use Rattle.cim_profile.proofs.Walks.{IsWalk}
use Rattle.cim_profile.proofs.faults.least_of.Given as goal

abbrev pub invariant-loop-id : goal.invariant-loop-id
invariant-loop-id l = (done : List Statement) × IsWalk (breaks_in l.stage l.facts.statements.now) l.facts.statements.now done l.id-iterator l.least
