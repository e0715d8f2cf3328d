use Rattle.session_host.proofs.Visiting.{serving_begins, serving_on}
use Rattle.session_host.proofs.doors.Stand.serve.Goals as goal

pub loop-link-init : goal.loop-link-init
loop-link-init g c = serving_begins c.args.self.now c.requires.looks c.requires.fresh

pub loop-link-preserved : goal.loop-link-preserved
loop-link-preserved g c =
    let comes = c.in-Some.ensures.some in
    serving_on c.args.self.now c.loop-link.self c.next_link.new.self _ c.loop-link.invariant comes.0 c.in-Some.ensures.post comes.1 c.in-Some.ensures.bounded c.visit.new.self c.visit.ensures.visited
