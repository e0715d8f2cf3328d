use Rattle.std.proofs.Common.{◌≡◌, ◌++◌, vec_capacity}
use Rattle.room_console.proofs.seats.gather.Given as goal

-- the consoles that became posts, and those that are left
abbrev pub invariant-loop-posts : goal.invariant-loop-posts
invariant-loop-posts g l = (l.fn.consoles.items ≡ l.posts.items ++ l.consoles.items) × (vec_capacity l.posts ≡ vec_capacity l.fn.posts)

abbrev pub decreases-loop-posts : goal.decreases-loop-posts
decreases-loop-posts g l = goal.left-loop-posts g l
