-- That a search numbers terminals of its graph, and has the memory for all that it may mark.
use Rattle.std.specs.Prelude.{◌≡◌, ◌+◌, ◌*◌, ◌≤◌, length}
use Rattle.std.specs.Vec.{vec_capacity}
use Rattle.graph_pages.specs.Size.{listed_spokes}
use Rattle.feeder_trace.specs.Numbering.{IsNumbering}
use Rattle.feeder_trace.specs.Search.{unmarked}
use Rattle.feeder_trace.specs.Views.{SearchView}
use Rattle.feeder_trace.specs.declared.search.Search.TheInside.{Inside}

abbrev pub view_of : Inside → SearchView
view_of search = record { graph = search.graph; terminals = search.terminals.listed; most = search.terminals.most; reached = search.reached.items; pending = search.pending.items }

pub record HasRoom (search : Inside) : Type 0 where
  pub numbering : IsNumbering search.graph search.terminals.listed
  pub enough : listed_spokes search.graph ≤ search.terminals.most
  pub same_length : length search.reached.items ≡ length search.terminals.listed
  pub reached_room : search.terminals.most ≤ vec_capacity search.reached
  pub pending_within : unmarked (view_of search) + length search.pending.items ≤ 6 * search.terminals.most
  pub pending_room : 6 * search.terminals.most ≤ vec_capacity search.pending
