use Rattle.std.proofs.Common.{◌≡◌, ◌++◌, vec_capacity}
use Rattle.room_console.proofs.seats.seat_all.Given as goal

-- the posts that became consoles, and those that are left
abbrev pub invariant-loop-consoles : goal.invariant-loop-consoles
invariant-loop-consoles g l =
    (l.fn.posts.items ≡ l.consoles.items ++ l.posts.items) × (vec_capacity l.consoles ≡ vec_capacity l.fn.consoles) × (vec_capacity l.posts ≡ vec_capacity l.fn.posts)

abbrev pub decreases-loop-consoles : goal.decreases-loop-consoles
decreases-loop-consoles g l = goal.left-loop-consoles g l
