use Rattle.std.proofs.Common.{◌≡◌, ◌+◌, ◌++◌, ◌∷◌, [], List, length, take, Some, None, Err, sym, ap, subst, ◌∙◌}
use Rattle.desk.specs.Legal.{IsNext}
use Rattle.room_core.proofs.Views.{next_seen}
use Rattle.room_words.specs.declared.event.Entry.{Entry}
use Rattle.room_core.proofs.room.RoomCore.after.Goals as goal

pub advance-requires-clause-console : goal.advance-requires-clause-console
advance-requires-clause-console g c =
    (next_seen c.args.self.now.log (g.V.Dated.log c.args.version.now) (g.V.Dated.log c.current.result.now) c.number.result c.entry-entry.result.now
    c.requires.seen c.history.ensures.legal c.current.ensures.log c.number.ensures c.requires.more c.entry-entry.ensures).0.console

pub advance-requires-clause-serial : goal.advance-requires-clause-serial
advance-requires-clause-serial g c =
    (next_seen c.args.self.now.log (g.V.Dated.log c.args.version.now) (g.V.Dated.log c.current.result.now) c.number.result c.entry-entry.result.now
    c.requires.seen c.history.ensures.legal c.current.ensures.log c.number.ensures c.requires.more c.entry-entry.ensures).0.serial

pub unreachable-requires : goal.unreachable-requires
unreachable-requires g c =
    let next = next_seen c.args.self.now.log (g.V.Dated.log c.args.version.now) (g.V.Dated.log c.current.result.now) c.number.result c.entry-entry.result.now
    c.requires.seen c.history.ensures.legal c.current.ensures.log c.number.ensures c.requires.more c.entry-entry.ensures in
    let refused = c.in-Err-Refused.ensures.refused c.in-Err-Refused.field-0-0 (ap Err c.in-Err-Refused.field-0-is) in
    let accepted = subst (λ origin. g.V.Advance.judges origin (g.V.Dated.log c.args.version.now) c.entry-entry.result.now.event None) (sym c.requires.seen.begins) next.0.accepted in
    let same : None ≡ Some c.in-Err-Refused.field-0-0.why = c.one_judgement.ensures (g.V.Dated.origin c.args.version.now) (g.V.Dated.log c.args.version.now) c.entry-entry.result.now.event None (Some c.in-Err-Refused.field-0-0.why) accepted refused.1 in
    absurd cc
