use Rattle.std.proofs.Common.{rules, arith, ◌≡◌, ◌+◌, ◌-◌, ◌<◌, length, take, replicate, refl, ap, ◌∙◌, vec_len, sym}
use Rattle.std.proofs.lemmas.Option.{none-some, same_Some}
use Rattle.board.proofs.Rounds.{begin, can_send, next, finish, popped_share, fewer_shares}
use Rattle.board.proofs.writer.sends.send_all.Goals as goal

pub loop-console-init : goal.loop-console-init
loop-console-init g c = let r = c.requires.ready in
    let all : length c.args.backs.now.items ≡ length c.args.backs.now.items - 0 = omega arith in
    (refl, c.requires.shares ∙ ap (λ n. replicate n c.args.version.now) all, begin g.V.Dated.log g.V.Dated.origin c.args.seat.now.me c.args.backs.now.items r.0 c.args.version.now (length c.args.backs.now.items) refl r.1 r.2 r.3)

pub unreachable-requires : goal.unreachable-requires
unreachable-requires g c =
    let test = c.loop-console-test.true in
    let end = c.len-console-end.ensures in
    let size : vec_len c.args.backs.now ≡ length c.args.backs.now.items = search rules in
    let lt : c.loop-console.console < length c.args.backs.now.items = omega arith in
    let left : 0 < length c.args.backs.now.items - c.loop-console.console = omega arith in
    none-some c.args.version.now (sym c.in_default.is ∙ popped_share g.V.Dated.log g.V.Dated.origin c.loop-console.shares.items c.args.version.now c.pop.result (vec_len c.loop-console.shares) (length c.args.backs.now.items - c.loop-console.console) c.loop-console.invariant.1 (search rules) left (c.pop.ensures.value c.args.version.now))

pub deliver-requires-clause-table : goal.deliver-requires-clause-table
deliver-requires-clause-table g c κs within =
    let test = c.loop-console-test.true in
    let end = c.len-console-end.ensures in
    let size : vec_len c.args.backs.now ≡ length c.args.backs.now.items = search rules in
    let lt : c.loop-console.console < length c.args.backs.now.items = omega arith in
    let n = c.requires.table.1 in (c.loop-console.invariant.0 ∙ c.requires.table.0, omega arith, c.requires.table.2)

pub deliver-requires-clause-ready : goal.deliver-requires-clause-ready
deliver-requires-clause-ready g c κs within =
    let test = c.loop-console-test.true in
    let end = c.len-console-end.ensures in
    let size : vec_len c.args.backs.now ≡ length c.args.backs.now.items = search rules in
    let lt : c.loop-console.console < length c.args.backs.now.items = omega arith in
    let left : 0 < length c.args.backs.now.items - c.loop-console.console = omega arith in
    let share_is : c.in-Some.share ≡ c.args.version.now = same_Some c.in-Some.share c.args.version.now (sym c.in-Some.is ∙ popped_share g.V.Dated.log g.V.Dated.origin c.loop-console.shares.items c.args.version.now c.pop.result (vec_len c.loop-console.shares) (length c.args.backs.now.items - c.loop-console.console) c.loop-console.invariant.1 (search rules) left (c.pop.ensures.value c.args.version.now)) in
    can_send g.V.Dated.log g.V.Dated.origin c.loop-console.seat.me c.loop-console.backs.items c.args.version.now c.in-Some.share c.loop-console.console (length c.args.backs.now.items) c.index.result.now c.loop-console.invariant.2 lt share_is c.index.ensures

pub loop-console-preserved : goal.loop-console-preserved
loop-console-preserved g c =
    let test = c.loop-console-test.true in
    let end = c.len-console-end.ensures in
    let size : vec_len c.args.backs.now ≡ length c.args.backs.now.items = search rules in
    let lt : c.loop-console.console < length c.args.backs.now.items = omega arith in
    let left : 0 < length c.args.backs.now.items - c.loop-console.console = omega arith in
    let share_is : c.in-Some.share ≡ c.args.version.now = same_Some c.in-Some.share c.args.version.now (sym c.in-Some.is ∙ popped_share g.V.Dated.log g.V.Dated.origin c.loop-console.shares.items c.args.version.now c.pop.result (vec_len c.loop-console.shares) (length c.args.backs.now.items - c.loop-console.console) c.loop-console.invariant.1 (search rules) left (c.pop.ensures.value c.args.version.now)) in
    let len : vec_len c.loop-console.shares ≡ length c.loop-console.shares.items = search rules in
    let k : length c.args.backs.now.items - c.loop-console.console - 1 ≡ length c.args.backs.now.items - (c.loop-console.console + 1) = omega arith in (
      c.turn.ensures.0 ∙ (c.deliver.ensures.table ∙ c.loop-console.invariant.0),
      c.pop.ensures.rest ∙ (ap (λ n. take (n - 1) c.loop-console.shares.items) len ∙ (fewer_shares g.V.Dated.log g.V.Dated.origin c.loop-console.shares.items c.args.version.now (length c.args.backs.now.items - c.loop-console.console) c.loop-console.invariant.1 ∙ ap (λ n. replicate n c.args.version.now) k)),
      next g.V.Dated.log g.V.Dated.origin c.loop-console.seat.me c.deliver.new.seat.me c.turn.new.self.me c.loop-console.backs.items c.args.version.now c.in-Some.share c.loop-console.console (length c.args.backs.now.items) c.deliver.result
          c.loop-console.invariant.2 lt share_is c.deliver.ensures.slot c.deliver.ensures.sent c.turn.ensures.2,
    )

pub returns-clause-table : goal.returns-clause-table
returns-clause-table g c = c.loop-console.invariant.0

pub returns-clause-sent : goal.returns-clause-sent
returns-clause-sent g c =
    let over = c.loop-console-test.false in
    let within = c.loop-console.auto.console-end in
    let end = c.len-console-end.ensures in
    let len : vec_len c.args.backs.now ≡ length c.args.backs.now.items = search rules in
    let all : c.loop-console.console ≡ length c.args.backs.now.items = omega arith in
    (c.loop-console.invariant.2.long, finish g.V.Dated.log g.V.Dated.origin c.loop-console.seat.me c.loop-console.backs.items c.args.version.now c.loop-console.console (length c.args.backs.now.items) c.loop-console.invariant.2 all c.requires.some)

pub returns-clause-origin : goal.returns-clause-origin
returns-clause-origin g c = let r = c.requires.ready in c.loop-console.invariant.2.began ∙ r.3
