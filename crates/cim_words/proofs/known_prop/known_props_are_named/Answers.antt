use Rattle.cim_words.proofs.Statements.{known_prop-known_iri}
use Rattle.cim_words.proofs.known_prop.known_props_are_named.Goals as goal

pub returns : goal.returns
returns c = known_prop-known_iri
