use Rattle.std.proofs.Common.{rules, arith, ◌≡◌, refl, ap, ◌∙◌}
use Rattle.board.specs.Opened.{opening_seat}
use Rattle.board.proofs.Opens.{can_claim, claimed}
use Rattle.board.proofs.opening.laying.claim_all.Goals as goal

pub loop-console-init : goal.loop-console-init
loop-console-init g c = (refl, c.requires.seat)

pub load-requires : goal.load-requires
load-requires g c = (search rules, search rules, can_claim g.V.Dated.log g.V.Dated.origin _ _ c.loop-console.seat.me c.args.consoles c.loop-console.console c.args.first.now c.loop-console.invariant.1 (search rules))

pub loop-console-preserved : goal.loop-console-preserved
loop-console-preserved g c = (search rules, claimed g.V.Dated.log g.V.Dated.origin 0 c.loop-console.seat.me c.load.new.seat.me c.turn.new.self.me c.args.consoles c.loop-console.console c.load.result c.args.first.now c.loop-console.invariant.1 (search rules) c.load.ensures.2 c.turn.ensures.2)

pub returns : goal.returns
returns g c =
    let over = c.loop-console-test.false in
    let within = c.loop-console.auto.console-end in
    let all : c.loop-console.console ≡ c.args.consoles = omega arith in
    record { table = c.loop-console.invariant.0; seat = c.loop-console.invariant.1 ∙ ap (λ k. opening_seat c.args.consoles k 0 (g.V.Dated.log c.args.first.now) (g.V.Dated.origin c.args.first.now)) all }
