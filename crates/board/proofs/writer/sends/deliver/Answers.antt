use Rattle.std.proofs.Common.{rules, arith, ◌≡◌, ◌+◌, ◌*◌, ap, ◌∙◌}
use Rattle.board.specs.Word.{slot_in}
use Rattle.board.proofs.Swaps.{sends, sent, IsSent, in_hand, sent_after}
use Rattle.board.proofs.writer.sends.deliver.Goals as goal

pub fresh_word-word-requires : goal.fresh_word-word-requires
fresh_word-word-requires g c = c.requires.ready.small

pub overflow_mul-console : goal.overflow_mul-console
overflow_mul-console g c = let a = c.requires.table.1 in let b = c.requires.table.2 in omega arith

pub overflow_add-console : goal.overflow_add-console
overflow_add-console g c = let a = c.requires.table.1 in let b = c.requires.table.2 in let d = c.requires.ready.small in omega arith

pub swap-requires : goal.swap-requires
swap-requires g c =
    let narrow = c.number.type_inv in let long = c.number.ensures in
    let w = c.fresh_word-word.ensures in (
      search rules,
      c.requires.table.1,
      sends g.V.Dated.log g.V.Dated.origin _ _ c.args.seat.now.me c.exchange.new.seat.me c.args.console c.args.back c.fresh_word-word.result c.args.share c.requires.ready c.exchange.ensures.3
          (omega arith) w.slot w.fresh (w.number ∙ long),
    )

pub overflow_mul-console-2 : goal.overflow_mul-console-2
overflow_mul-console-2 g c = let a = c.requires.table.1 in let b = c.requires.table.2 in omega arith

pub overflow_add-console-2 : goal.overflow_add-console-2
overflow_add-console-2 g c = let h : IsSent g.V.Dated.log g.V.Dated.origin c.args.seat.now.me c.swap.new.seat.me c.args.console c.args.share c.swap.result =
    sent g.V.Dated.log g.V.Dated.origin 0 c.args.seat.now.me c.exchange.new.seat.me c.swap.new.seat.me c.args.console c.args.back c.fresh_word-word.result c.swap.result c.args.share c.requires.ready c.exchange.ensures.3 c.swap.ensures.2 in
    let s = h.slot in let e = c.slot_in-slot.ensures in let a = c.requires.table.1 in let b = c.requires.table.2 in omega arith

pub exchange-requires-2 : goal.exchange-requires-2
exchange-requires-2 g c = let h : IsSent g.V.Dated.log g.V.Dated.origin c.args.seat.now.me c.swap.new.seat.me c.args.console c.args.share c.swap.result =
    sent g.V.Dated.log g.V.Dated.origin 0 c.args.seat.now.me c.exchange.new.seat.me c.swap.new.seat.me c.args.console c.args.back c.fresh_word-word.result c.swap.result c.args.share c.requires.ready c.exchange.ensures.3 c.swap.ensures.2 in
    let e : 3 * c.args.console + c.slot_in-slot.result ≡ 3 * c.args.console + slot_in c.swap.result = ap (λ k. 3 * c.args.console + k) c.slot_in-slot.ensures in
    (search rules, (h.left, in_hand g.V.Dated.log g.V.Dated.origin c.swap.new.seat.me _ (3 * c.args.console + c.slot_in-slot.result) _ h.left _ h.after e))

pub returns : goal.returns
returns g c = let h : IsSent g.V.Dated.log g.V.Dated.origin c.args.seat.now.me c.swap.new.seat.me c.args.console c.args.share c.swap.result =
    sent g.V.Dated.log g.V.Dated.origin 0 c.args.seat.now.me c.exchange.new.seat.me c.swap.new.seat.me c.args.console c.args.back c.fresh_word-word.result c.swap.result c.args.share c.requires.ready c.exchange.ensures.3 c.swap.ensures.2 in
    let s = h.slot in let e = c.slot_in-slot.ensures in record {
      table = search rules;
      slot = omega arith;
      sent = sent_after g.V.Dated.log g.V.Dated.origin c.args.seat.now.me c.swap.new.seat.me c.exchange-2.new.seat.me c.args.console c.slot_in-slot.result c.swap.result c.args.share h c.slot_in-slot.ensures c.exchange-2.ensures.3;
    }
