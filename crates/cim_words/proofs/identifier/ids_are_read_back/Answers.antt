use Rattle.cim_words.proofs.IdTexts.{plain_number-id_text, iri_number-id_iri}
use Rattle.cim_words.proofs.identifier.ids_are_read_back.Goals as goal

pub returns-clause-plain : goal.returns-clause-plain
returns-clause-plain c = plain_number-id_text

pub returns-clause-iri : goal.returns-clause-iri
returns-clause-iri c = iri_number-id_iri
