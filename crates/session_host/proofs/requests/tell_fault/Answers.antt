use Rattle.std.proofs.Common.{refl, subst, sym}
use Rattle.difference.specs.declared.fault.DiffFault.{DiffFault}
use Rattle.room_words.specs.declared.fault.Fault.TheVariants as fault
use Rattle.room_words.specs.declared.reply.Reply.TheVariants as reply
use Rattle.session_host.proofs.Replying.{replied}
use Rattle.session_host.specs.Told.{TellsFault}
use Rattle.session_host.proofs.requests.tell_fault.Goals as goal

pub returns-in-Stage : goal.returns-in-Stage
returns-in-Stage c =
    let told = reply.Fault (fault.Stage c.in-Stage.fault) in
    replied told c.tell.result c.args.out.now.items c.tell.new.out.items (TellsFault c.args.fault) c.tell.ensures
    (subst (λ (f : DiffFault). TellsFault f told) (sym c.in-Stage.is) refl)
