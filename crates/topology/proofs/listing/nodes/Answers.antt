use Rattle.std.proofs.Common.{◌≡◌, IfOk, List, map, ◌∙◌, ap, subst}
use Rattle.std.proofs.lemmas.Simd.{map-map}
use Rattle.cim_model.specs.Network.{nodes}
use Rattle.cim_model.specs.Values.{as_id}
use Rattle.cim_words.specs.declared.identifier.Id.{Id}
use Rattle.room_words.specs.declared.anchor.Anchor.{Anchor}
use Rattle.room_words.specs.declared.anchor.Anchor.TheVariants as anchor
use Rattle.topology.proofs.listing.nodes.Goals as goal

pub returns : goal.returns
returns c =
    subst (λ (list : List Anchor). IfOk c.as_places.result (λ places. places.items ≡ list))
    (ap (map (λ (id : Id). anchor.Node id)) c.nodes.ensures ∙ map-map (λ (id : Id). anchor.Node id) as_id (nodes c.args.index.now)) c.as_places.ensures
