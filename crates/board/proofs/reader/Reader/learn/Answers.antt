use Rattle.std.proofs.Common.{rules, length, sym, ap, ◌∙◌, subst}
use Rattle.board.specs.Lists.{IsPrefix}
use Rattle.board.proofs.Learning.{can_learn, can_settle, learned}
use Rattle.board.proofs.reader.Reader.learn.Goals as goal

pub join_seat-requires : goal.join_seat-requires
join_seat-requires g c = (search rules, search rules, c.note.invariant.carried, search rules, can_learn g.V.Dated.log g.V.Dated.origin _ _ c.self.inside.seat.me c.note.inside.seat.me c.self.inside.console c.self.inside.front c.self.invariant.4 c.note.invariant)

pub load-requires : goal.load-requires
load-requires g c = (search rules, search rules, can_settle g.V.Dated.log g.V.Dated.origin _ _ c.self.inside.seat.me c.join_seat.new.seat.me c.note.inside.seat.me c.self.inside.console c.self.inside.front c.self.invariant.4 c.join_seat.ensures.2)

pub invariant_of-self : goal.invariant_of-self
invariant_of-self g c = let h = learned g.V.Dated.log g.V.Dated.origin 0 c.self.inside.seat.me c.note.inside.seat.me c.join_seat.new.seat.me c.load.new.seat.me c.self.inside.console c.load.result c.self.inside.front c.self.invariant.4 c.join_seat.ensures.2 c.load.ensures.2 in
    (search rules, search rules, search rules, c.self.invariant.3 ∙ sym (ap length h.founds), h.reader)

pub returns-clause-before : goal.returns-clause-before
returns-clause-before g c = let h = learned g.V.Dated.log g.V.Dated.origin 0 c.self.inside.seat.me c.note.inside.seat.me c.join_seat.new.seat.me c.load.new.seat.me c.self.inside.console c.load.result c.self.inside.front c.self.invariant.4 c.join_seat.ensures.2 c.load.ensures.2 in
    subst (λ r. IsPrefix r.seen c.load.new.seat.me.0.list) c.self.view_is h.before

pub returns-clause-noted : goal.returns-clause-noted
returns-clause-noted g c = let h = learned g.V.Dated.log g.V.Dated.origin 0 c.self.inside.seat.me c.note.inside.seat.me c.join_seat.new.seat.me c.load.new.seat.me c.self.inside.console c.load.result c.self.inside.front c.self.invariant.4 c.join_seat.ensures.2 c.load.ensures.2 in
    subst (λ n. IsPrefix n.noted c.load.new.seat.me.0.list) c.note.view_is h.noted

pub returns-clause-origin : goal.returns-clause-origin
returns-clause-origin g c = let h = learned g.V.Dated.log g.V.Dated.origin 0 c.self.inside.seat.me c.note.inside.seat.me c.join_seat.new.seat.me c.load.new.seat.me c.self.inside.console c.load.result c.self.inside.front c.self.invariant.4 c.join_seat.ensures.2 c.load.ensures.2 in
    sym (ap (λ n. n.origin) c.note.view_is) ∙ (h.origins ∙ ap (λ r. r.origin) c.self.view_is)
