use Rattle.std.proofs.Common.{◌≡◌, rules, List, Some, None, subst}
use Rattle.cim_model.specs.Profile.{IsFaultless}
use Rattle.cim_words.specs.declared.statement.Statement.{Statement}
use Rattle.cutover.specs.Judgement.{IsRefused}
use Rattle.room_words.specs.declared.diff_refusal.DiffRefusal.{DiffRefusal}
use Rattle.room_words.specs.declared.diff_refusal.DiffRefusal.TheVariants as refusal
use Rattle.temporary.specs.Lost.{IsFirstLost}
use Rattle.cutover.proofs.judgement.unfit.Goals as goal

pub returns-in-Some-first_lost-clause-refused : goal.returns-in-Some-first_lost-clause-refused
returns-in-Some-first_lost-clause-refused c m d why leaves few same =
    let o = c.args.overlay.now in
    let id = c.in-Some-first_lost.lost.id in
    let faultless : IsFaultless c.args.model.now = search rules in
    let lost : IsFirstLost c.args.model.now o (Some id) =
    subst (λ (index : List Statement). IsFirstLost index o (Some id)) (c.in_ok-index.ensures {u = tt}) c.in-Some-first_lost.ensures in
    let told : refusal.Place id ≡ why = cc in
    subst (IsRefused m o d) told (c.args.model.now, leaves, few, faultless, lost)

pub returns-clause-fits : goal.returns-clause-fits
returns-clause-fits c same =
    let faultless : IsFaultless c.args.model.now = search rules in
    (faultless, subst (λ (index : List Statement). IsFirstLost index c.args.overlay.now None) (c.in_ok-index.ensures {u = tt}) c.in-None.ensures)
