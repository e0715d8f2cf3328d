use Rattle.std.proofs.Common.{◌≡◌, drop}
use Rattle.grid_out.specs.Files.{content_of}
use Rattle.grid_out.proofs.file_list.Files.find.Given as goal

-- the name is still to be found in the rest of the list
abbrev pub invariant-loop-file : goal.invariant-loop-file
invariant-loop-file l = content_of (drop l.file-index l.file-items) l.name ≡ content_of l.self l.name
