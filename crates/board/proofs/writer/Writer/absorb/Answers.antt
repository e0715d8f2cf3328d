use Rattle.std.proofs.Common.{rules, arith, ◌≡◌, ◌<◌, length, sym, ap, ◌∙◌, subst}
use Rattle.board.specs.Lists.{IsPrefix}
use Rattle.board.proofs.Learning.{can_compare, can_settle_all, met}
use Rattle.board.proofs.writer.Writer.absorb.Goals as goal

pub join_seat-requires : goal.join_seat-requires
join_seat-requires g c =
    let two = ap (λ w. w.board) c.self.view_is in
    let there = c.self.invariant.0 in (
      search rules,
      c.requires.table.0 ∙ (sym two ∙ (there ∙ ap (λ t. t.shared.table_id) (sym c.deref.ensures))),
      c.requires.table.1,
      search rules,
      can_compare g.V.Dated.log g.V.Dated.origin _ _ c.self.inside.seat.me c.args.seat.me c.self.inside.backs.items c.self.inside.last c.self.invariant.4 c.requires.role,
    )

pub load-requires : goal.load-requires
load-requires g c =
    let some : 0 < length c.self.inside.backs.items = (let a = c.self.invariant.1 in let b = c.self.invariant.3 in omega arith) in
    (search rules, search rules, can_settle_all g.V.Dated.log g.V.Dated.origin _ _ c.self.inside.seat.me c.join_seat.new.seat.me c.args.seat.me.0 c.self.inside.backs.items c.self.inside.last c.self.invariant.4 some c.join_seat.ensures.2)

pub returns-clause-seen : goal.returns-clause-seen
returns-clause-seen g c = let h = met g.V.Dated.log g.V.Dated.origin 0 c.self.inside.seat.me c.join_seat.new.seat.me c.load.new.seat.me c.args.seat.me.0 c.load.result c.self.inside.backs.items c.self.inside.last c.self.invariant.4 c.join_seat.ensures.2 c.load.ensures.2 in
    let log_is : c.self.inside.seat.me.0.list ≡ g.V.Dated.log c.args.self.now.last = c.self.invariant.4.list ∙ ap (λ w. g.V.Dated.log w.last) c.self.view_is in
    subst (λ l. IsPrefix c.args.seat.me.0.list l) log_is h.seen

pub returns-clause-origin : goal.returns-clause-origin
returns-clause-origin g c = let h = met g.V.Dated.log g.V.Dated.origin 0 c.self.inside.seat.me c.join_seat.new.seat.me c.load.new.seat.me c.args.seat.me.0 c.load.result c.self.inside.backs.items c.self.inside.last c.self.invariant.4 c.join_seat.ensures.2 c.load.ensures.2 in
    h.origins ∙ ap (λ w. w.origin) c.self.view_is
