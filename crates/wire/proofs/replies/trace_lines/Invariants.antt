use Rattle.std.proofs.Common.{◌≡◌, ◌++◌, length, take}
use Rattle.std.specs.List.{flat_map}
use Rattle.room_words.specs.TraceText.{trace_head, trace_row}
use Rattle.wire.proofs.replies.trace_lines.Given as goal

abbrev pub invariant-loop-row : goal.invariant-loop-row
invariant-loop-row l = l.text.items ≡ trace_head l.fn.at (length l.fn.rows) ++ flat_map trace_row (take l.row-index l.rows)
