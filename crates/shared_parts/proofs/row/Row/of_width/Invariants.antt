use Rattle.std.proofs.Common.{◌≡◌, ◌+◌, ◌*◌, ◌<◌, ◌++◌, length}
use Rattle.std.specs.List.{flat_map}
use Rattle.std.specs.Vec.Iter.{into_iter_items, into_iter_len}
use Rattle.shared_parts.specs.Pages.{AreFilled}
use Rattle.shared_parts.proofs.row.Row.of_width.Given as goal

abbrev pub invariant-loop : goal.invariant-loop
invariant-loop g l = record {
  taken : flat_map g.P.Page.items l.pages.items ++ into_iter_items l.rest ≡ into_iter_items l.initial.rest;
  filled : AreFilled g.P.Page.items g.P.Page.full l.pages.items;
  all_full : 0 < into_iter_len l.rest → length (flat_map g.P.Page.items l.pages.items) ≡ g.P.Page.full * length l.pages.items;
  counted : length l.pages.items ≡ l.counter;
  ticks : l.steps + into_iter_len l.rest ≡ l.initial.steps + into_iter_len l.initial.rest;
}
