use Rattle.std.proofs.Common.{◌==◌, ◌+◌, None, cond, length, sum_by, sym, ap, ◌∙◌}
use Rattle.graph_pages.specs.Graph.{GraphView, star_of}
use Rattle.graph_pages.proofs.edit.GraphEdit.drop_star.Goals as goal

pub returns-clause-stars : goal.returns-clause-stars
returns-clause-stars g c x =
    c.in_ok-remove.ensures.found x
    ∙ ap (λ (view : GraphView). cond (c.args.id.number == x) None (star_of view x)) (ap (λ outer. outer.maps) c.self-inside.view_is ∙ c.self.view_is)
