use Rattle.plain_laws.proofs.Members.{among_contained, contains_among}
use Rattle.cim_model.specs.Live.{terms_at}
use Rattle.cim_model.proofs.OverlayItems.{IsLive}
use Rattle.cim_model.proofs.LiveTerms.{listed_placed, placed_listed}
use Rattle.cim_model.proofs.live_laws.terminals_stand_where_listed.Goals as goal

pub returns : goal.returns
returns c m o place t faultless stands =
    let live : IsLive m o = record { faultless = faultless; stands = stands; terms = c.terms_are_compared.ensures.equal; places = c.places_are_compared.ensures.equal } in
    ((λ there. listed_placed m o place t live (among_contained (terms_at m o place) t there)), (λ at. contains_among (terms_at m o place) t (placed_listed m o place t live at)))
