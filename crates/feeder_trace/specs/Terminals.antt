-- That numbered terminals have the memory that they promise.
use Rattle.std.specs.Prelude.{◌+◌, ◌≤◌}
use Rattle.indexmap.specs.IndexMap.{index_map_len, spare}
use Rattle.feeder_trace.specs.Views.{TerminalsView}
use Rattle.feeder_trace.specs.declared.terminals.Terminals.TheInside.{Inside}

abbrev pub view_of : Inside → TerminalsView
view_of terminals = record { listed = terminals.phases.entries; most = terminals.most }

abbrev pub HasPlaces : Inside → Type 0
HasPlaces terminals = terminals.most ≤ index_map_len terminals.phases + spare terminals.phases
