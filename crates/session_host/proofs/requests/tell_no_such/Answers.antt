use Rattle.std.proofs.Common.{◌≡◌, ◌⊎◌, List, ℕ, inl, refl, subst}
use Rattle.room_words.specs.declared.reply.Reply.TheVariants as reply
use Rattle.session_host.proofs.Replying.{replied}
use Rattle.session_host.specs.Told.{IsTold}
use Rattle.session_host.proofs.requests.tell_no_such.Goals as goal

pub returns : goal.returns
returns c =
    replied (reply.NoSuch c.args.at) c.tell.result c.args.out.now.items c.tell.new.out.items (λ told. (told ≡ reply.NoSuch c.args.at) ⊎ (told ≡ reply.Memory))
    (subst (λ (old : List ℕ). IsTold (reply.NoSuch c.args.at) c.tell.result old c.tell.new.out.items) c.reserve.ensures.items c.tell.ensures) (inl refl)
