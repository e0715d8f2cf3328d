-- That a tracer is made for its graph, and has the memory for its traces.
use Rattle.std.specs.Prelude.{◌≡◌, ◌*◌, ◌≤◌}
use Rattle.std.specs.Vec.{vec_capacity}
use Rattle.feeder_trace.specs.Views.{TracerView}
use Rattle.feeder_trace.specs.declared.tracer.Tracer.TheInside.{Inside}

abbrev pub view_of : Inside → TracerView
view_of tracer = record { graph = tracer.search.graph; rows = tracer.rows.items }

pub record IsReserved (tracer : Inside) : Type 0 where
  pub same_graph : tracer.hubs.graph ≡ tracer.search.graph
  pub parts_room : 2 * tracer.search.most ≤ vec_capacity tracer.parts
  pub rows_room : 2 * tracer.search.most ≤ vec_capacity tracer.rows
