use Rattle.std.proofs.Common.{◌≡◌, ◌++◌, ◌∷◌, [], List, length, get_or, sym, subst}
use Rattle.desk.specs.Legal.{IsLegal}
use Rattle.room_core.specs.Machine.{RoomState}
use Rattle.room_core.specs.Views.{HasSeen}
use Rattle.room_core.proofs.Views.{seen_still}
use Rattle.room_words.specs.declared.event.Entry.{Entry}
use Rattle.room_core.proofs.room.RoomCore.enter.Goals as goal

pub invariant_of-self : goal.invariant_of-self
invariant_of-self g c =
    let grown = c.legal_histories_go_on.ensures.grows c.args.self.now.origin c.args.self.now.log c.args.entry.now (subst (λ (r : RoomState g.row.V-Origin.Denot). IsLegal (g.V.Advance.judges r.origin) r.log) c.self.view_is c.self.invariant.1) c.requires.next in (
      c.self.invariant.0,
      subst (λ (log : List Entry). IsLegal (g.V.Advance.judges (g.V.Dated.origin c.args.version)) log) (sym c.requires.log)
          (subst (λ (origin : g.row.V-Origin.Denot). IsLegal (g.V.Advance.judges origin) (c.args.self.now.log ++ c.args.entry.now ∷ [])) (sym c.requires.origin) grown),
      λ k d below.
          let shown = get_or c.self.inside.shown.items k d in
          let seen = seen_still (c.args.entry.now ∷ []) (subst (λ (r : RoomState g.row.V-Origin.Denot). HasSeen r.origin (g.V.Dated.origin shown) r.log (g.V.Dated.log shown)) c.self.view_is (c.self.invariant.2 k d below)) in
          subst (λ (log : List Entry). HasSeen (g.V.Dated.origin c.args.version) (g.V.Dated.origin shown) log (g.V.Dated.log shown)) (sym c.requires.log)
          (subst (λ (origin : g.row.V-Origin.Denot). HasSeen origin (g.V.Dated.origin shown) (c.args.self.now.log ++ c.args.entry.now ∷ []) (g.V.Dated.log shown)) (sym c.requires.origin) seen),
    )
