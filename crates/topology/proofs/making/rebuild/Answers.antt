use Rattle.std.proofs.Common.{List, Contains, ◌∙◌, subst}
use Rattle.cim_words.specs.declared.identifier.Id.{Id}
use Rattle.room_words.specs.declared.anchor.Anchor.{Anchor}
use Rattle.topology.specs.Held.{HoldsMembers, HoldsStars}
use Rattle.topology.proofs.Distinct.{known_of, owner_live, place_is}
use Rattle.topology.proofs.Made.{distinct_held, distinct_stars, made}
use Rattle.topology.proofs.making.rebuild.Goals as goal

pub stars_of-requires-clause-live : goal.stars_of-requires-clause-live
stars_of-requires-clause-live g c id there =
    owner_live c.args.index.now c.args.overlay.now id (subst (λ (ids : List Id). Contains ids id) (c.deref.ensures.value ∙ c.in_ok-owners.ensures) there)

pub members_at-requires-clause-places : goal.members_at-requires-clause-places
members_at-requires-clause-places g c place there =
    let laws = c.subjects_are_listed_once.ensures in
    let known = known_of c.args.index.now c.args.overlay.now laws.listed laws.once laws.classed c.requires c.places_are_compared.ensures.equal in
    place_is c.args.index.now c.args.overlay.now place known (subst (λ (ps : List Anchor). Contains ps place) (c.deref-2.ensures.value ∙ c.in_ok-places.ensures) there)

pub build-requires-clause-stars : goal.build-requires-clause-stars
build-requires-clause-stars g c =
    let laws = c.subjects_are_listed_once.ensures in
    let known = known_of c.args.index.now c.args.overlay.now laws.listed laws.once laws.classed c.requires c.places_are_compared.ensures.equal in
    distinct_stars c.args.index.now c.args.overlay.now c.in_ok-stars.stars.items known (subst (λ (ids : List Id). HoldsStars c.args.index.now c.args.overlay.now ids c.in_ok-stars.stars.items) (c.deref.ensures.value ∙ c.in_ok-owners.ensures) c.in_ok-stars.ensures)

pub build-requires-clause-places : goal.build-requires-clause-places
build-requires-clause-places g c =
    let laws = c.subjects_are_listed_once.ensures in
    let known = known_of c.args.index.now c.args.overlay.now laws.listed laws.once laws.classed c.requires c.places_are_compared.ensures.equal in
    distinct_held c.args.index.now c.args.overlay.now c.in_ok-members.members.items known (subst (λ (ps : List Anchor). HoldsMembers c.args.index.now c.args.overlay.now ps c.in_ok-members.members.items) (c.deref-2.ensures.value ∙ c.in_ok-places.ensures) c.in_ok-members.ensures)

pub returns-clause-map : goal.returns-clause-map
returns-clause-map g c =
    let laws = c.subjects_are_listed_once.ensures in
    let known = known_of c.args.index.now c.args.overlay.now laws.listed laws.once laws.classed c.requires c.places_are_compared.ensures.equal in
    made c.args.index.now c.args.overlay.now c.in_ok-stars.stars.items c.in_ok-members.members.items c.build.result known (subst (λ (ids : List Id). HoldsStars c.args.index.now c.args.overlay.now ids c.in_ok-stars.stars.items) (c.deref.ensures.value ∙ c.in_ok-owners.ensures) c.in_ok-stars.ensures) (subst (λ (ps : List Anchor). HoldsMembers c.args.index.now c.args.overlay.now ps c.in_ok-members.members.items) (c.deref-2.ensures.value ∙ c.in_ok-places.ensures) c.in_ok-members.ensures) c.build.ensures.stars c.build.ensures.places
