-- A version may move between threads, and be shared by them. Its log is a shared list, whose nodes hold themselves: they may move and be
-- shared where their items may, by the knot that ties them.
use denote.RattleType.{RattleType}
use denote.Model.Local.{Parts, rows}
use denote.Model.Marks.{both_send, both_sync}
use denote.Param.Send.{IsSend, IsSync, sendable, view_send, view_sync, recorded_send, recorded_sync}
use denote.Param.SendFields.{as_row_send, as_row_sync, declared_send, declared_sync}
use Rattle.std.below.std_heap.specs.contracts.GlobalAllocator.TheImpl.{ghosts}
use Rattle.std.below.std_heap.proofs.GlobalAllocator.TheSendSync as heap
use Rattle.std.specs.contracts.alloc.Global as Global
use Rattle.std.specs.contracts.sync.Arc as Arc
use Rattle.std.proofs.alloc.Global.TheSendSync as global
use Rattle.std.proofs.option.Option.TheSendSync as option
use Rattle.std.proofs.sync.Arc.TheSendSync as arc
use Rattle.cim_records.proofs.index.Index.TheSendSync as index
use Rattle.graph_pages.proofs.graph.Graph.TheSendSync as graph
use Rattle.room_words.proofs.event.Entry.TheSendSync as entry
use Rattle.room_words.proofs.overlay.Overlay.TheSendSync as overlay
use Rattle.room_words.specs.contracts.event.Entry as Entry
use Rattle.shared_parts.specs.contracts.node.Node as Node
use Rattle.shared_parts.specs.contracts.node.Node.TheKnot as knot
use Rattle.shared_parts.specs.contracts.shared_list.SharedList as SharedList
use Rattle.shared_parts.specs.contracts.shared_list.SharedList.TheInside as SharedListInside
use Rattle.shared_parts.specs.declared.node.Node.TheDeep.{the_members, member-Node}
use Rattle.statement_set.proofs.set.StatementSet.TheSendSync as set
use Rattle.versions.proofs.serials.Counts.TheSendSync as counts
use Rattle.versions.specs.contracts.held.Held as Held
use Rattle.versions.specs.contracts.version.Version as Version
use Rattle.versions.specs.contracts.version.Version.TheInside as VersionInside

-- what is behind an `Arc`
arc_sends : (R : RattleType) → IsSend R → IsSync R → IsSend (Arc.the_row R Global.the_row ghosts)
arc_sends R moves shares = search (sendable, arc.the_send, global.the_send, global.the_sync, heap.the_frees) depth 20

arc_syncs : (R : RattleType) → IsSend R → IsSync R → IsSync (Arc.the_row R Global.the_row ghosts)
arc_syncs R moves shares = search (sendable, arc.the_sync, global.the_send, global.the_sync, heap.the_frees) depth 20

module _ (T : RattleType) (moves : IsSend T) (shares : IsSync T) where
  -- the fields of a node, over nodes that may move and be shared
  layer_sends : (R : RattleType) → IsSend R → IsSync R → IsSend (knot.layer-Node T R R)
  layer_sends R s y =
      let a = arc_sends R s y in
      declared_send (knot.type-Node T R R) (
        search sendable depth 20,
        (
          search sendable depth 20,
          (search (sendable, option.the_send, declared_send) depth 20, (search (sendable, option.the_send) depth 20, tt)),
        ),
      )

  layer_syncs : (R : RattleType) → IsSend R → IsSync R → IsSync (knot.layer-Node T R R)
  layer_syncs R s y =
      let a = arc_syncs R s y in
      declared_sync (knot.type-Node T R R) (
        search sendable depth 20,
        (
          search sendable depth 20,
          (search (sendable, option.the_sync, declared_sync) depth 20, (search (sendable, option.the_sync) depth 20, tt)),
        ),
      )

  step_sends : (p : Parts (knot.frame T)) → ((j : the_members) → IsSend (rows (knot.frame T) p j)) →
      ((j : the_members) → IsSync (rows (knot.frame T) p j)) → (i : the_members) → IsSend (rows (knot.frame T) (knot.step T p) i)
  step_sends p s y member-Node =
      let l = layer_sends (rows (knot.frame T) p member-Node) (s member-Node) (y member-Node) in
      let f : IsSend (knot.at-Node T p) = search (recorded_send, l) in
      let v : IsSend (knot.view-Node T p) = search (view_send, f) in
      record { owned = v.owned; leaving = (s member-Node).leaving }

  step_syncs : (p : Parts (knot.frame T)) → ((j : the_members) → IsSend (rows (knot.frame T) p j)) →
      ((j : the_members) → IsSync (rows (knot.frame T) p j)) → (i : the_members) → IsSync (rows (knot.frame T) (knot.step T p) i)
  step_syncs p s y member-Node =
      let l = layer_syncs (rows (knot.frame T) p member-Node) (s member-Node) (y member-Node) in
      let f : IsSync (knot.at-Node T p) = search (recorded_sync, l) in
      let v : IsSync (knot.view-Node T p) = search (view_sync, f) in
      record { shared = v.shared }

  node_sends : IsSend (Node.the_row T)
  node_sends = both_send (knot.frame T) (knot.step T) (knot.sizes T) step_sends step_syncs member-Node

  node_syncs : IsSync (Node.the_row T)
  node_syncs = both_sync (knot.frame T) (knot.step T) (knot.sizes T) step_sends step_syncs member-Node

  -- a shared list
  list_sends : IsSend (SharedList.the_row T)
  list_sends =
      let a = arc_sends (Node.the_row T) node_sends node_syncs in
      let f : IsSend (SharedListInside.the_row T) =
      declared_send (SharedListInside.the_type T) (search (sendable, global.the_send) depth 20, (search (sendable, option.the_send) depth 20, tt)) in
      search (view_send, f)

  list_syncs : IsSync (SharedList.the_row T)
  list_syncs =
      let a = arc_syncs (Node.the_row T) node_sends node_syncs in
      let f : IsSync (SharedListInside.the_row T) =
      declared_sync (SharedListInside.the_type T) (search (sendable, global.the_sync) depth 20, (search (sendable, option.the_sync) depth 20, tt)) in
      search (view_sync, f)

-- what a version holds
held_sends : IsSend Held.the_row
held_sends =
    let l = list_sends Entry.the_row entry.the_send entry.the_sync in
    declared_send Held.the_type (set.the_send, (l, (counts.the_send, (search sendable depth 20, (index.the_send, (overlay.the_send, (graph.the_send, tt)))))))

held_syncs : IsSync Held.the_row
held_syncs =
    let l = list_syncs Entry.the_row entry.the_send entry.the_sync in
    declared_sync Held.the_type (set.the_sync, (l, (counts.the_sync, (search sendable depth 20, (index.the_sync, (overlay.the_sync, (graph.the_sync, tt)))))))

-- a version may move to another thread
pub version_sends : IsSend Version.the_row
version_sends =
    let a = arc_sends Held.the_row held_sends held_syncs in
    let f : IsSend VersionInside.the_row = declared_send VersionInside.the_type (a, tt) in
    search (view_send, f)

-- threads may share a version
pub version_syncs : IsSync Version.the_row
version_syncs =
    let a = arc_syncs Held.the_row held_sends held_syncs in
    let f : IsSync VersionInside.the_row = declared_sync VersionInside.the_type (a, tt) in
    search (view_sync, f)
