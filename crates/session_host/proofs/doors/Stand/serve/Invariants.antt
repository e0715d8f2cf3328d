use Rattle.session_host.proofs.Visiting.{Serving}
use Rattle.session_host.proofs.doors.Stand.serve.Given as goal

abbrev pub invariant-loop-link : goal.invariant-loop-link
invariant-loop-link g l = Serving l.initial.self l.self

-- the door gives fewer and fewer links
abbrev pub decreases-loop-link : goal.decreases-loop-link
decreases-loop-link g l = l.self.door.number
