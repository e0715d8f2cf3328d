use Rattle.std.proofs.Common.{List, sym, ap, subst}
use Rattle.cim_words.specs.declared.statement.Statement.{Statement}
use Rattle.room_words.specs.declared.event.Event.TheVariants.{Act as act}
use Rattle.versions.specs.History.{Network}
use Rattle.versions.specs.Moved.{IsMoved}
use Rattle.versions.proofs.held.Held.moved_by_act.Goals as goal

pub after_act-requires-clause-new : goal.after_act-requires-clause-new
after_act-requires-clause-new g c = ap (λ (n : Network). n.overlay) c.in_ok-new.ensures.takes.1

pub returns-clause-moved : goal.returns-clause-moved
returns-clause-moved g c =
    let held = c.args.self.now in
    subst (λ (m : List Statement). IsMoved held (act c.args.act.now) (record { index = m; overlay = c.in_ok-new.new; graph = c.in_ok-graph.graph })) (sym c.in_ok-index.ensures)
    (record { takes = c.in_ok-new.ensures.takes; faultless = c.requires.faultless; stands = c.in_ok-new.ensures.stands; map = c.in_ok-graph.ensures.map })
