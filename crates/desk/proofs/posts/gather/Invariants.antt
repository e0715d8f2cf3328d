use Rattle.std.proofs.Common.{◌≡◌, ◌++◌, List, All, length, map, vec_capacity}
use Rattle.std.specs.List.{sum_by}
use Rattle.desk.specs.Ends.{PostState, number_of}
use Rattle.desk.specs.Receipts.{AreSomeOf, receipts_in}
use Rattle.desk.proofs.posts.gather.Given as goal

-- the posts that were taken apart, and what they gave
abbrev pub invariant-loop-posts : goal.invariant-loop-posts
invariant-loop-posts g l =
    let State : Type 0 = PostState g.row.V.Denot g.row.V-Origin.Denot in
    (done : List State) × (l.fn.posts.items ≡ done ++ l.posts.items) × (l.all.parts ≡ length done) × (l.all.amount ≡ sum_by (λ (post : State). length post.receipts) done)
    × (l.readers.items ≡ map (λ (post : State). post.reader) done) × (vec_capacity l.readers ≡ vec_capacity l.fn.readers)
    × All (λ (post : State). post.reader.board ≡ g.N.RoomName.board) done
    × All (λ (post : State). AreSomeOf post.receipts (receipts_in (number_of post) post.reader.seen)) done

abbrev pub decreases-loop-posts : goal.decreases-loop-posts
decreases-loop-posts g l = goal.left-loop-posts g l
