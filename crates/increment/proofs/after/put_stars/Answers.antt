use Rattle.std.proofs.Common.{List, ℕ, get_or, map, take, sym, subst, arith}
use Rattle.std.proofs.lemmas.List.{map_more}
use Rattle.cim_model.specs.Values.{as_id, number_of_id}
use Rattle.increment.specs.Edits.{HasStarsPut}
use Rattle.increment.proofs.Edits.{next_star_put}
use Rattle.increment.proofs.after.put_stars.Goals as goal

pub loop-id-preserved : goal.loop-id-preserved
loop-id-preserved g c =
    let m = c.args.index.now in
    let o = c.args.overlay.now in
    let ids = c.args.ids.now in
    let i = c.loop-id.id-index in
    let put = next_star_put m o (map number_of_id (take i ids)) (get_or ids i (as_id 0)).number c.args.edit.now c.loop-id.edit c.put_star.new.edit c.loop-id.invariant.0 c.in_ok-put_star.ensures.put in
    (subst (λ (xs : List ℕ). HasStarsPut m o xs c.args.edit.now c.put_star.new.edit) (sym (map_more number_of_id ids i (as_id 0) c.loop-id-test.true)) put, omega (arith, c.loop-id.invariant.1, c.in_ok-put_star.ensures.ticks))
