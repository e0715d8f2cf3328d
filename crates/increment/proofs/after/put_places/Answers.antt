use Rattle.std.proofs.Common.{List, take, sym, subst, arith}
use Rattle.std.proofs.lemmas.List.{take_more}
use Rattle.room_words.specs.declared.anchor.Anchor.{Anchor}
use Rattle.increment.specs.Edits.{HasMembersPut}
use Rattle.increment.proofs.Edits.{next_members_put}
use Rattle.increment.proofs.after.put_places.Goals as goal

pub loop-place-preserved : goal.loop-place-preserved
loop-place-preserved g c =
    let m = c.args.index.now in
    let o = c.args.overlay.now in
    let places = c.args.places.now in
    let i = c.loop-place.place-index in
    let put = next_members_put m o (take i places) _ c.args.edit.now c.loop-place.edit c.put_members.new.edit c.places_are_compared.ensures.equal c.loop-place.invariant.0 c.in_ok-put_members.ensures.put in
    (subst (λ (at : List Anchor). HasMembersPut m o at c.args.edit.now c.put_members.new.edit) (sym (take_more places i _ c.loop-place-test.true)) put, omega (arith, c.loop-place.invariant.1, c.in_ok-put_members.ensures.ticks))
