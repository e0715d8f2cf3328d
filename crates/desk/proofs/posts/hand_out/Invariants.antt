use Rattle.std.proofs.Common.{◌≡◌, ◌++◌, [], All, length, map, vec_len, vec_capacity}
use Rattle.desk.specs.Ends.{PostState}
use Rattle.desk.proofs.posts.hand_out.Given as goal

-- the readers that became posts, and those that are left
abbrev pub invariant-loop-alloc : goal.invariant-loop-alloc
invariant-loop-alloc g l =
    let State : Type 0 = PostState g.row.V.Denot g.row.V-Origin.Denot in
    (l.fn.readers.items ≡ map (λ (post : State). post.reader) l.posts.items ++ l.readers.items) × All (λ (post : State). post.receipts ≡ []) l.posts.items
    × (l.console ≡ vec_len l.posts) × (l.all.parts ≡ length l.readers.items) × (l.all.amount ≡ 0)
    × (vec_capacity l.posts ≡ vec_capacity l.fn.posts) × (vec_capacity l.readers ≡ vec_capacity l.fn.readers)

abbrev pub decreases-loop-alloc : goal.decreases-loop-alloc
decreases-loop-alloc g l = goal.left-loop-alloc g l
