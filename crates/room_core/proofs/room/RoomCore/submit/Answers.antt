use Rattle.std.proofs.Common.{◌≡◌, List, Some, length, Err, sym, ap, subst, ◌∙◌}
use Rattle.room_core.specs.Machine.{RoomState, with_seen}
use Rattle.room_words.specs.declared.event.Event.{Event}
use Rattle.room_core.proofs.room.RoomCore.submit.Goals as goal

pub returns-in-Err-Refused-clause-ok : goal.returns-in-Err-Refused-clause-ok
returns-in-Err-Refused-clause-ok g c =
    let why = c.in-Err-Refused.refused.why in
    let told = c.in-Err-Refused.ensures.refused c.in-Err-Refused.refused (ap Err c.in-Err-Refused.field-0-is) in
    let newest = c.self.inside.newest in
    record {
      judged = subst (λ (r : RoomState g.row.V-Origin.Denot). g.V.Advance.judges r.origin r.log c.args.event.now (Some why)) c.self.view_is
          (subst (λ (event : Event). g.V.Advance.judges (g.V.Dated.origin newest) (g.V.Dated.log newest) event (Some why)) c.in_ok-share.ensures told.1);
      at_all = told.0 ∙ ap (λ (r : RoomState g.row.V-Origin.Denot). length r.log) c.self.view_is;
      leads = c.show.ensures ∙ ap (λ (version : g.row.V.Denot). with_seen c.args.self.now c.args.console (length (g.V.Dated.log version))) c.in_ok-version-in-Err-Refused.ensures ∙ ap (λ (r : RoomState g.row.V-Origin.Denot). with_seen c.args.self.now c.args.console (length r.log)) c.self.view_is;
    }
