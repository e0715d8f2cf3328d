use Rattle.std.proofs.Common.{◌≡◌, ◌++◌, length, take}
use Rattle.std.specs.List.{flat_map}
use Rattle.room_words.specs.TraceText.{trace_head, trace_row}
use Rattle.room_plain.proofs.trace_text.write_trace.Given as goal

abbrev pub invariant-loop-index : goal.invariant-loop-index
invariant-loop-index l = l.text.items ≡ trace_head 0 (length l.tracer.rows) ++ flat_map trace_row (take l.index l.tracer.rows)
