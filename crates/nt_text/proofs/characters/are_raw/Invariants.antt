use Rattle.std.proofs.Common.{◌≡◌, ◌&&◌, drop}
use Rattle.std.specs.List.{list_all}
use Rattle.nt_text.specs.Parts.{is_raw}
use Rattle.nt_text.proofs.characters.are_raw.Given as goal

-- what was found so far goes on to what is found of all bytes
abbrev pub invariant-loop-byte : goal.invariant-loop-byte
invariant-loop-byte l = (l.raw && list_all (is_raw l.coding) (drop l.byte-index l.bytes)) ≡ list_all (is_raw l.coding) l.bytes
