use Rattle.std.proofs.Common.{◌≡◌, ℕ, ◌+◌, ap, subst, sym, ◌∙◌, arith}
use Rattle.desk.specs.Consoles.{next_serial}
use Rattle.versions.specs.Held.{Agrees, past_of}
use Rattle.versions.specs.Past.{Past}
use Rattle.versions.proofs.Agreeing.{room_to_count}
use Rattle.versions.proofs.version.VersionAdvance.serial.Goals as goal

pub overflow_add-result : goal.overflow_add-result
overflow_add-result c =
    let agrees = subst Agrees (sym c.deref.ensures) c.self.invariant in
    let room = room_to_count c.deref.result.now c.args.console agrees c.requires in
    let count = c.of.ensures in
    omega (arith, room, count)

pub returns : goal.returns
returns c =
    let agrees = subst Agrees (sym c.deref.ensures) c.self.invariant in
    let past : past_of c.deref.result.now ≡ c.args.self.now = ap past_of c.deref.ensures ∙ c.self.view_is in
    ap (λ (n : ℕ). n + 1) (c.of.ensures ∙ agrees.counts c.args.console c.requires) ∙ ap (λ (p : Past). next_serial c.args.console p.log) past
