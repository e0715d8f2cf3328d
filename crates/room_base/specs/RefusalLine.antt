-- The bytes of a line that tells of a refusal.
use Rattle.std.specs.Prelude.{ℕ, List}
use Rattle.room_base.specs.declared.refusal_lines.RefusalLine.{RefusalLine}
use Rattle.room_base.specs.declared.refusal_lines.RefusalLine.TheVariants as line

abbrev pub line_bytes : RefusalLine → List ℕ
line_bytes (line.Fixed text) = text.now
line_bytes (line.Made bytes) = bytes.items
