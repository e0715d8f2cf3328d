use Rattle.std.proofs.Common.{◌≡◌, ◌++◌, length, take}
use Rattle.std.specs.List.{flat_map}
use Rattle.room_words.specs.TraceText.{trace_head, trace_row}
use Rattle.versions.proofs.traces.text_of.Given as goal

-- the first line, and the rows so far
abbrev pub invariant-loop-index : goal.invariant-loop-index
invariant-loop-index l = l.text.items ≡ trace_head l.at (length l.tracer.rows) ++ flat_map trace_row (take l.index l.tracer.rows)
