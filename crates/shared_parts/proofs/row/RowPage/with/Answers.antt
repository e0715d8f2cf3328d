use Rattle.std.proofs.Common.{◌≡◌, ◌/◌, get_or}
use Rattle.std.specs.Arc.{arc_value}
use Rattle.shared_parts.proofs.PagesLemmas.{place_holds, page_holds, item_sets, pages_stay}
use Rattle.shared_parts.proofs.row.RowPage.with.Goals as goal

pub index-requires : goal.index-requires
index-requires g c =
    rw (c.deref.result.now.ok.0, c.deref.ensures)
    (place_holds _ _ _ _ _ _ c.self.view_is c.full_len-full.ensures g.met.P.Page.some c.self.invariant c.requires)

pub with-requires : goal.with-requires
with-requires g c =
    rw (c.index.ensures, c.deref.ensures)
    (page_holds _ _ _ _ _ _ c.self.view_is c.full_len-full.ensures g.met.P.Page.some c.self.invariant c.requires c.index.result.now)

pub index_mut-requires : goal.index_mut-requires
index_mut-requires g c =
    rw (c.in_ok-pages.pages.ok.0, c.in_ok-pages.ensures, c.deref-3.ensures.value, c.deref-2.ensures)
    (place_holds _ _ _ _ _ _ c.self.view_is c.full_len-full.ensures g.met.P.Page.some c.self.invariant c.requires)

pub invariant_of-result : goal.invariant_of-result
invariant_of-result g c =
    let found : c.index.result.now ≡ get_or (arc_value c.self.inside.pages).items (c.args.index / c.full_len-full.result) c.index.result.now = rw (← c.deref.ensures) c.index.ensures in
    rw (c.in_ok-new.ensures.ok, c.in_ok-pages.ensures, c.deref-3.ensures.value, c.deref-2.ensures)
    (pages_stay _ _ _ _ _ _ c.self.view_is c.full_len-full.ensures g.met.P.Page.some c.self.invariant c.requires c.index.result.now c.in_ok-page.page c.args.item (rw (← found) c.in_ok-page.ensures))

pub returns : goal.returns
returns g c =
    let found : c.index.result.now ≡ get_or (arc_value c.self.inside.pages).items (c.args.index / c.full_len-full.result) c.index.result.now = rw (← c.deref.ensures) c.index.ensures in
    rw (c.in_ok-new.ensures.ok, c.in_ok-pages.ensures, c.deref-3.ensures.value, c.deref-2.ensures)
    (item_sets _ _ _ _ _ _ c.self.view_is c.full_len-full.ensures g.met.P.Page.some c.self.invariant c.requires c.index.result.now c.in_ok-page.page c.args.item (rw (← found) c.in_ok-page.ensures))
