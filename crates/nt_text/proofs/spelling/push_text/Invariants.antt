use Rattle.std.proofs.Common.{◌≡◌, ◌++◌, take}
use Rattle.std.specs.List.{flat_map}
use Rattle.nt_text.specs.Spelling.{spelling_of}
use Rattle.nt_text.proofs.spelling.push_text.Given as goal

-- the bytes so far are spelled
abbrev pub invariant-loop-byte : goal.invariant-loop-byte
invariant-loop-byte l = l.into.items ≡ l.fn.into.items ++ flat_map (spelling_of l.coding) (take l.byte-index l.text)
