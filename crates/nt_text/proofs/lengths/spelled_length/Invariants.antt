use Rattle.std.proofs.Common.{◌≡◌, length, take}
use Rattle.std.specs.List.{flat_map}
use Rattle.nt_text.specs.Spelling.{spelling_of}
use Rattle.nt_text.proofs.lengths.spelled_length.Given as goal

-- the bytes so far are counted
abbrev pub invariant-loop-byte : goal.invariant-loop-byte
invariant-loop-byte l = l.count ≡ length (flat_map (spelling_of l.coding) (take l.byte-index l.text))
