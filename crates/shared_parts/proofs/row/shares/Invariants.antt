use Rattle.std.proofs.Common.{◌≡◌, take}
use Rattle.shared_parts.proofs.row.shares.Given as goal

abbrev pub invariant-loop-page : goal.invariant-loop-page
invariant-loop-page g l = l.shares.items ≡ take l.page-index l.pages
