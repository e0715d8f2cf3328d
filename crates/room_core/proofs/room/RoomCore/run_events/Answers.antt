use Rattle.std.proofs.Common.{◌≡◌, ◌+◌, ◌<◌, ◌++◌, ◌∷◌, [], List, arith, length, take, drop, sym, ap, subst, append_assoc, take-append-drop, ◌∙◌}
use Rattle.std.proofs.lemmas.List.{take_more}
use Rattle.room_core.specs.Machine.{IsStep, RoomState, Runs}
use Rattle.room_core.specs.declared.event.CoreEvent.{CoreEvent}
use Rattle.room_core.specs.declared.reply.CoreReply.{CoreReply}
use Rattle.room_core.proofs.Steps.{on_err, one_more, origin_kept}
use Rattle.room_core.proofs.Views.{one_further}
use Rattle.room_core.proofs.room.RoomCore.run_events.Goals as goal

pub returns-in_err-reserve-clause-err : goal.returns-in_err-reserve-clause-err
returns-in_err-reserve-clause-err g c =
    on_err c.from_residual.result (
      take c.loop-event.event-index c.args.events.now,
      drop c.loop-event.event-index c.args.events.now,
      c.loop-event.invariant.made.0,
      sym (take-append-drop c.loop-event.event-index c.args.events.now),
      c.in_err-reserve.ensures.items ∙ c.loop-event.invariant.made.1,
      c.loop-event.invariant.made.2,
    )

pub returns-in_err-reply-clause-err : goal.returns-in_err-reply-clause-err
returns-in_err-reply-clause-err g c =
    on_err c.from_residual-in_err-reply.result (
      take c.loop-event.event-index c.args.events.now,
      drop c.loop-event.event-index c.args.events.now,
      c.loop-event.invariant.made.0,
      sym (take-append-drop c.loop-event.event-index c.args.events.now),
      c.in_ok-reserve.ensures.items ∙ c.loop-event.invariant.made.1,
      subst (λ (r : RoomState g.row.V-Origin.Denot). Runs (g.V.Advance.judges c.args.self.now.origin) c.args.self.now (take c.loop-event.event-index c.args.events.now) c.loop-event.invariant.made.0 r) (sym c.in_err-reply.ensures.err) c.loop-event.invariant.made.2,
    )

pub loop-event-preserved : goal.loop-event-preserved
loop-event-preserved g c =
    let made = c.loop-event.invariant.made in
    let judges = g.V.Advance.judges c.args.self.now.origin in
    let reply = c.in_ok-reply.reply in
    let within : c.loop-event.event-index < length c.args.events.now = omega (arith, c.loop-event-test.true) in
    let step = c.in_ok-reply.ensures.ok in
    record {
      origin = origin_kept (g.V.Advance.judges c.loop-event.self.origin) c.loop-event.self c.step.new.self c.event-item.result reply step ∙ c.loop-event.invariant.origin;
      seen = λ console is. let before = c.loop-event.invariant.seen console is in let now = c.in_ok-reply.ensures.seen console is in omega (arith, before, now);
      made = (
        made.0 ++ reply ∷ [],
        c.in_ok-push.ensures.items ∙ ap (λ (items : List CoreReply). items ++ reply ∷ []) (c.in_ok-reserve.ensures.items ∙ made.1) ∙ append_assoc c.args.into.now.items made.0 (reply ∷ []),
        subst (λ (events : List CoreEvent). Runs judges c.args.self.now events (made.0 ++ reply ∷ []) c.step.new.self) (one_further c.args.events.now c.loop-event.event-index c.event-item.result within c.event-item.is)
            (one_more judges c.args.self.now c.loop-event.self c.step.new.self (take c.loop-event.event-index c.args.events.now) made.0 c.event-item.result reply made.2
            (subst (λ (origin : g.row.V-Origin.Denot). IsStep (g.V.Advance.judges origin) c.loop-event.self c.event-item.result reply c.step.new.self) c.loop-event.invariant.origin step)),
      );
    }
