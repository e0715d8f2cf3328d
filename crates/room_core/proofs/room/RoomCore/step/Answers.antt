use Rattle.std.proofs.Common.{subst}
use Rattle.room_core.proofs.Steps.{rises_so}
use Rattle.room_core.specs.Views.{IsEvent}
use Rattle.room_core.specs.declared.event.CoreEvent.TheVariants.{Submit, Look}
use Rattle.room_core.proofs.room.RoomCore.step.Goals as goal

pub returns-in-Submit-clause-seen : goal.returns-in-Submit-clause-seen
returns-in-Submit-clause-seen g c =
    rises_so (g.V.Advance.judges c.args.self.now.origin) c.args.self.now c.submit.new.self c.history.ensures.within (Submit c.in-Submit.console c.in-Submit.event) c.submit.result
    (subst IsEvent c.in-Submit.is c.requires) c.submit.ensures.ok c.submit.ensures.err
