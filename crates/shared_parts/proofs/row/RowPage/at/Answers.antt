use Rattle.std.proofs.Common.{◌∙◌}
use Rattle.shared_parts.proofs.PagesLemmas.{place_holds, page_holds, item_reads}
use Rattle.shared_parts.proofs.row.RowPage.at.Goals as goal

pub index-requires : goal.index-requires
index-requires g c =
    rw (c.deref.result.now.ok.0, c.deref.ensures)
    (place_holds _ _ _ _ _ _ c.self.view_is c.full_len-full.ensures g.met.P.Page.some c.self.invariant c.requires)

pub at-requires : goal.at-requires
at-requires g c =
    rw (c.index.ensures, c.deref.ensures)
    (page_holds _ _ _ _ _ _ c.self.view_is c.full_len-full.ensures g.met.P.Page.some c.self.invariant c.requires c.index.result.now)

pub returns : goal.returns
returns g c =
    c.at.ensures
    ∙ rw (c.index.ensures, c.deref.ensures)
    (item_reads _ _ _ _ _ _ c.self.view_is c.full_len-full.ensures g.met.P.Page.some c.self.invariant c.requires c.index.result.now c.at.result.now)
