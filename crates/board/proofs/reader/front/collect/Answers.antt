use Rattle.std.proofs.lemmas.Option.{same_Some}
use Rattle.std.proofs.Common.{rules, arith, ◌≡◌, ◌+◌, ◌*◌, ap, Some, sym, ◌∙◌}
use Rattle.board.specs.Word.{slot_in}
use Rattle.board.proofs.Swaps.{gathers, gathered, gathers_all, IsCollected, in_hand, in_slot}
use Rattle.board.proofs.reader.front.collect.Goals as goal

pub overflow_mul-console : goal.overflow_mul-console
overflow_mul-console g c = let a = c.requires.table.1 in let b = c.requires.table.2 in omega arith

pub overflow_add-console : goal.overflow_add-console
overflow_add-console g c = let a = c.requires.table.1 in let b = c.requires.table.2 in let d = c.requires.pending.small in omega arith

pub stale_word-requires : goal.stale_word-requires
stale_word-requires g c = c.requires.pending.small

pub swap-word-requires : goal.swap-word-requires
swap-word-requires g c =
    let w = c.stale_word.ensures in (
      search rules,
      c.requires.table.1,
      gathers g.V.Dated.log g.V.Dated.origin _ _ c.args.seat.now.me c.exchange.new.seat.me c.args.console c.args.front.slot c.args.front.number c.stale_word.result c.args.front.version c.requires.pending c.exchange.ensures.3
          (search rules) w.slot w.fresh w.number,
    )

pub overflow_mul-console-2 : goal.overflow_mul-console-2
overflow_mul-console-2 g c = let a = c.requires.table.1 in let b = c.requires.table.2 in omega arith

pub overflow_add-console-2 : goal.overflow_add-console-2
overflow_add-console-2 g c = let h : IsCollected g.V.Dated.log g.V.Dated.origin c.args.seat.now.me c.swap-word.new.seat.me c.args.console c.swap-word.result =
    gathered g.V.Dated.log g.V.Dated.origin 0 c.args.seat.now.me c.exchange.new.seat.me c.swap-word.new.seat.me c.args.console c.args.front.slot c.args.front.number c.stale_word.result c.swap-word.result c.args.front.version
    c.requires.pending c.exchange.ensures.3 c.swap-word.ensures.2 in
    let s = h.slot in let e = c.slot_in-slot.ensures in let a = c.requires.table.1 in let b = c.requires.table.2 in omega arith

pub exchange-requires-2 : goal.exchange-requires-2
exchange-requires-2 g c = let h : IsCollected g.V.Dated.log g.V.Dated.origin c.args.seat.now.me c.swap-word.new.seat.me c.args.console c.swap-word.result =
    gathered g.V.Dated.log g.V.Dated.origin 0 c.args.seat.now.me c.exchange.new.seat.me c.swap-word.new.seat.me c.args.console c.args.front.slot c.args.front.number c.stale_word.result c.swap-word.result c.args.front.version
    c.requires.pending c.exchange.ensures.3 c.swap-word.ensures.2 in
    let e : 3 * c.args.console + c.slot_in-slot.result ≡ 3 * c.args.console + slot_in c.swap-word.result = ap (λ k. 3 * c.args.console + k) c.slot_in-slot.ensures in
    (search rules, (Some h.version, in_hand g.V.Dated.log g.V.Dated.origin c.swap-word.new.seat.me _ (3 * c.args.console + c.slot_in-slot.result) _ (Some h.version) _ h.after e))

pub unreachable-requires : goal.unreachable-requires
unreachable-requires g c = let h : IsCollected g.V.Dated.log g.V.Dated.origin c.args.seat.now.me c.swap-word.new.seat.me c.args.console c.swap-word.result =
    gathered g.V.Dated.log g.V.Dated.origin 0 c.args.seat.now.me c.exchange.new.seat.me c.swap-word.new.seat.me c.args.console c.args.front.slot c.args.front.number c.stale_word.result c.swap-word.result c.args.front.version
    c.requires.pending c.exchange.ensures.3 c.swap-word.ensures.2 in
    let out : c.exchange-2.result ≡ Some h.version = in_slot g.V.Dated.log g.V.Dated.origin c.swap-word.new.seat.me _ (3 * c.args.console + c.slot_in-slot.result) _ (Some h.version) c.exchange-2.result _ h.after c.exchange-2.ensures.2 in
    c.in_default.not-Some h.version out

pub number_in-requires : goal.number_in-requires
number_in-requires g c = let h : IsCollected g.V.Dated.log g.V.Dated.origin c.args.seat.now.me c.swap-word.new.seat.me c.args.console c.swap-word.result =
    gathered g.V.Dated.log g.V.Dated.origin 0 c.args.seat.now.me c.exchange.new.seat.me c.swap-word.new.seat.me c.args.console c.args.front.slot c.args.front.number c.stale_word.result c.swap-word.result c.args.front.version
    c.requires.pending c.exchange.ensures.3 c.swap-word.ensures.2 in
    h.narrow

pub returns : goal.returns
returns g c = let h : IsCollected g.V.Dated.log g.V.Dated.origin c.args.seat.now.me c.swap-word.new.seat.me c.args.console c.swap-word.result =
    gathered g.V.Dated.log g.V.Dated.origin 0 c.args.seat.now.me c.exchange.new.seat.me c.swap-word.new.seat.me c.args.console c.args.front.slot c.args.front.number c.stale_word.result c.swap-word.result c.args.front.version
    c.requires.pending c.exchange.ensures.3 c.swap-word.ensures.2 in
    let out : c.exchange-2.result ≡ Some h.version = in_slot g.V.Dated.log g.V.Dated.origin c.swap-word.new.seat.me _ (3 * c.args.console + c.slot_in-slot.result) _ (Some h.version) c.exchange-2.result _ h.after c.exchange-2.ensures.2 in
    let version_is : h.version ≡ c.in-Some.version = same_Some h.version c.in-Some.version (sym out ∙ c.in-Some.is) in
    let all = gathers_all g.V.Dated.log g.V.Dated.origin c.args.seat.now.me c.swap-word.new.seat.me c.exchange-2.new.seat.me c.args.console c.swap-word.result c.slot_in-slot.result c.number_in.result c.in-Some.version h version_is
    c.slot_in-slot.ensures c.number_in.ensures c.requires.pending.settled c.exchange-2.ensures.3 in
    record { table = search rules; collected = all.watches; seen = (all.begins, all.whole); found = all.found; origin = all.began }
