use Rattle.act_laws.proofs.Accepted.{accepted_stands}
use Rattle.act_laws.proofs.Passed.{passed}
use Rattle.act_laws.proofs.laws.accepted_acts_stand.Goals as goal

pub returns : goal.returns
returns c m o a faultless stands accepted =
    accepted_stands m o a (record { faultless = faultless; stands = stands; terms = c.terms_are_compared.ensures.equal; places = c.places_are_compared.ensures.equal }) (passed m o a accepted)
