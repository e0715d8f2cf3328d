use Rattle.plain_laws.proofs.Members.{among_contained, contains_among}
use Rattle.cim_model.specs.Network.{terminals_by_side}
use Rattle.cim_model.specs.Stated.{terminals_at, terminals_of}
use Rattle.cim_model.proofs.FaultlessTerminals.{listed_is_owned, listed_is_standing, owned_is_listed, standing_is_listed}
use Rattle.cim_model.proofs.TerminalSides.{owned_side, side_owned}
use Rattle.cim_model.proofs.laws.terminals_belong_where_listed.Goals as goal

pub returns-clause-owners : goal.returns-clause-owners
returns-clause-owners c m y t faultless =
    ((λ owned. contains_among (terminals_of m y) t (owned_is_listed m y t owned)), (λ listed. listed_is_owned m y t faultless (among_contained (terminals_of m y) t listed)))

pub returns-clause-sides : goal.returns-clause-sides
returns-clause-sides c m y t faultless = (
  (λ owned. contains_among (terminals_by_side m y) t (owned_side m y t faultless owned)),
  (λ listed. side_owned m y t faultless (among_contained (terminals_by_side m y) t listed)),
)

pub returns-clause-nodes : goal.returns-clause-nodes
returns-clause-nodes c m n t faultless =
    ((λ at. contains_among (terminals_at m n) t (standing_is_listed m n t at)), (λ listed. listed_is_standing m n t faultless (among_contained (terminals_at m n) t listed)))
