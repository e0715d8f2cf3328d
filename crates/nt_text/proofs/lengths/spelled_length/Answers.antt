use Rattle.std.proofs.Common.{arith}
use Rattle.nt_text.specs.Spelling.{spelling_of}
use Rattle.nt_text.proofs.Widths.{front_shorter}
use Rattle.nt_text.proofs.lengths.spelled_length.Goals as goal

pub overflow_add-count : goal.overflow_add-count
overflow_add-count c = omega (arith, front_shorter (spelling_of c.args.coding) c.loop-byte.byte-index c.args.text.now)
