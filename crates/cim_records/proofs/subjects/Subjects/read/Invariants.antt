use Rattle.std.proofs.Common.{List}
use Rattle.cim_words.specs.declared.statement.Statement.{Statement}
use Rattle.cim_records.proofs.Reading.{IsReading}
use Rattle.cim_records.proofs.subjects.Subjects.read.Given as goal

abbrev pub invariant-loop-id : goal.invariant-loop-id
invariant-loop-id l = (done : List Statement) × IsReading l.statements done l.id-iterator l.entries.entries
