use Rattle.std.proofs.Common.{◌≡◌, take}
use Rattle.graph_pages.specs.Keyed.{items_but}
use Rattle.graph_pages.proofs.bucket.Bucket.without.Given as goal

abbrev pub invariant-loop-one : goal.invariant-loop-one
invariant-loop-one g l = l.held.items ≡ items_but g.T.Keyed.key_of g.T.Keyed.same_key l.key (take l.one-index l.one-items)
