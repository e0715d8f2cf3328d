use Rattle.std.proofs.Common.{◌≡◌, IfOk, List, subst, sym}
use Rattle.graph_pages.specs.declared.star.Spoke.{Spoke}
use Rattle.link_rules.proofs.SpokeLists.{real_spokes, side_spokes}
use Rattle.link_rules.proofs.spokes.spokes_of.Goals as goal

pub returns-in-Some : goal.returns-in-Some
returns-in-Some c =
    subst (λ (list : List Spoke). IfOk c.side_spokes.result (λ spokes. spokes ≡ list)) (side_spokes c.args.index.now c.args.overlay.now c.args.id.number _ (sym c.in-Some.ensures)) c.side_spokes.ensures

pub returns-in-None : goal.returns-in-None
returns-in-None c =
    subst (λ (list : List Spoke). IfOk c.real_spokes.result (λ spokes. spokes ≡ list)) (real_spokes c.args.index.now c.args.overlay.now c.args.id.number (sym c.in-None.ensures)) c.real_spokes.ensures
