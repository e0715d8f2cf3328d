use Rattle.std.proofs.Common.{◌≡◌, ◌+◌, ◌++◌, ◌∷◌, [], sym, subst, ◌∙◌}
use Rattle.versions.specs.Held.{Agrees}
use Rattle.versions.proofs.Agreeing.{agrees_with, room_to_count}
use Rattle.versions.proofs.held.Held.with.Goals as goal

pub with-requires-clause-room : goal.with-requires-clause-room
with-requires-clause-room c = room_to_count c.args.self.now c.args.entry.now.console c.requires.agrees c.requires.next.console

pub returns : goal.returns
returns c =
    let held = c.args.self.now in
    let entry = c.args.entry.now in
    let moved = c.args.moved in
    let counts = c.with.result in
    let base = c.in_ok-share-2.ensures in
    let log : c.push.new.self ≡ held.log ++ entry ∷ [] = c.in_default.ensures.ok ∙ (λ i. c.in_ok-log.ensures i ++ c.in_ok-share.ensures i ∷ []) in
    let agrees = agrees_with held entry moved counts c.requires.agrees c.requires.next c.requires.moved c.with.ensures in
    (subst Agrees (λ i. record { base = sym base i; log = sym log i; counts = counts; bytes = held.bytes + sym c.bytes_of.ensures.bytes i; index = moved.index; overlay = moved.overlay; graph = moved.graph }) agrees, base, log)
