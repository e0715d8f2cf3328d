use Rattle.std.proofs.Common.{◌≡◌, drop}
use Rattle.graph_pages.specs.Keyed.{item_at}
use Rattle.graph_pages.proofs.bucket.Bucket.get.Given as goal

-- the item of the key is still to be found in the rest of the list
abbrev pub invariant-loop-held : goal.invariant-loop-held
invariant-loop-held g l = item_at g.T.Keyed.key_of g.T.Keyed.same_key l.key (drop l.held-index l.held-items) ≡ item_at g.T.Keyed.key_of g.T.Keyed.same_key l.key l.self
