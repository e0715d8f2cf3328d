use Rattle.std.proofs.Common.{arith, refl}
use Rattle.nt_text.specs.Reading.{nothing, holds}
use Rattle.nt_text.proofs.LineReads.{is_utf8_text, fault_reads, denied}
use Rattle.nt_text.proofs.OneReading.{one_reading, told_only}
use Rattle.nt_text.proofs.reading.read_line.Goals as goal

pub returns-then-is_empty_line-clause-only : goal.returns-then-is_empty_line-clause-only
returns-then-is_empty_line-clause-only c reading is =
    one_reading c.args.line.now nothing reading
    (record { fits = omega arith; utf8 = is_utf8_text _ c.from_utf8.result _ c.from_utf8.ensures.cases c.if-is_err.ensures.value }, c.if-is_empty_line.ensures.0 refl) is

pub returns-in-Ok-clause-only : goal.returns-in-Ok-clause-only
returns-in-Ok-clause-only c reading is =
    one_reading c.args.line.now (holds c.in-Ok.statement) reading (
      record { fits = omega arith; utf8 = is_utf8_text _ c.from_utf8.result _ c.from_utf8.ensures.cases c.if-is_err.ensures.value },
      c.in-Ok.ensures.says,
      c.in-Ok.ensures.narrow,
    ) is

pub returns-in-Err-clause-reads : goal.returns-in-Err-clause-reads
returns-in-Err-clause-reads c =
    fault_reads c.args.line.now c.in-Err.fault
    (record { fits = omega arith; utf8 = is_utf8_text _ c.from_utf8.result _ c.from_utf8.ensures.cases c.if-is_err.ensures.value })
    (denied _ c.if-is_empty_line.ensures) c.in-Err.ensures.cause

pub returns-in-Err-clause-only : goal.returns-in-Err-clause-only
returns-in-Err-clause-only c = told_only c.args.line.now _ (returns-in-Err-clause-reads c)
