use Rattle.std.proofs.Common.{◌==◌, ◌+◌, Some, cond, length, sum_by, sym, ap, ◌∙◌}
use Rattle.graph_pages.specs.Graph.{GraphView, star_of}
use Rattle.graph_pages.proofs.edit.GraphEdit.put_star.Goals as goal

pub returns-clause-stars : goal.returns-clause-stars
returns-clause-stars g c x =
    c.in_ok-put.ensures.found x
    ∙ ap (λ (view : GraphView). cond (c.args.star.id.number == x) (Some c.args.star) (star_of view x)) (ap (λ outer. outer.maps) c.self-inside.view_is ∙ c.self.view_is)
