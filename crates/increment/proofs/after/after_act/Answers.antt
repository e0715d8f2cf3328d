use Rattle.std.proofs.Common.{◌∙◌, List, ℕ, map, ap, sym, subst}
use Rattle.cim_model.specs.Values.{number_of_id}
use Rattle.increment.specs.Edits.{HasMembersPut, HasStarsPut}
use Rattle.increment.specs.Touched.{touched_places, touched_stars}
use Rattle.link_rules.specs.Map.{IsEntry, IsMap, IsStarAt}
use Rattle.room_words.specs.declared.anchor.Anchor.{Anchor}
use Rattle.room_words.specs.declared.overlay.Overlay.{Overlay}
use Rattle.increment.proofs.Edits.{all_put}
use Rattle.increment.proofs.after.after_act.Goals as goal

pub returns-clause-map : goal.returns-clause-map
returns-clause-map g c =
    let m = c.args.index.now in
    let old = c.args.old.now in
    let new = c.args.new.now in
    let act = c.args.act.now in
    let law = c.acts_touch_few_entries.ensures in
    let stars = subst (λ (xs : List ℕ). HasStarsPut m new xs c.in_ok-edit.edit c.put_stars.new.edit)
    (ap (map number_of_id) c.deref.ensures.value ∙ c.in_ok-stars.ensures) c.in_ok-put_stars.ensures.put in
    let places = subst (λ (at : List Anchor). HasMembersPut m new at c.put_stars.new.edit c.put_places.new.edit)
    (c.deref-2.ensures.value ∙ c.in_ok-places.ensures) c.in_ok-put_places.ensures.put in
    subst (IsMap m new) (sym c.done.ensures)
    (all_put m old new (touched_stars old act) (touched_places old act) c.in_ok-edit.edit c.put_stars.new.edit c.put_places.new.edit
    c.places_are_compared.ensures.equal (subst (IsMap m old) (sym c.in_ok-edit.ensures) c.requires.map)
    (λ x absent star is. subst (λ (o : Overlay). IsStarAt m o x star) (sym c.requires.new) (law.stars m old act c.requires.stands c.requires.accepted x absent star is))
    (λ place absent members is. subst (λ (o : Overlay). IsEntry m o place members) (sym c.requires.new) (law.places m old act c.requires.faultless c.requires.stands c.requires.accepted place absent members is))
    stars places)
