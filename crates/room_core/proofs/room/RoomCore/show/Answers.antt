use Rattle.std.proofs.Common.{◌≡◌, ◌-◌, ℕ, List, length, ap, ◌∙◌}
use Rattle.std.proofs.lemmas.List.{map-set}
use Rattle.room_core.specs.Machine.{RoomState, with_seen}
use Rattle.room_core.proofs.room.RoomCore.show.Goals as goal

pub returns : goal.returns
returns g c =
    ap (λ (seen : List ℕ). record { origin = g.V.Dated.origin c.self.inside.newest; log = g.V.Dated.log c.self.inside.newest; seen = seen }) (map-set (λ (v : g.row.V.Denot). length (g.V.Dated.log v)) c.self.inside.shown.items (c.args.console - 1) c.args.version)
    ∙ ap (λ (r : RoomState g.row.V-Origin.Denot). with_seen r c.args.console (length (g.V.Dated.log c.args.version))) c.self.view_is
