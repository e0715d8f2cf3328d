use Rattle.std.proofs.Common.{refl}
use Rattle.std.specs.Prelude.{codes}
use Rattle.cim_words.specs.Class.{cim_namespace}
use Rattle.cim_words.specs.PhaseNames.{kind_iri_set}
use Rattle.cim_words.proofs.PhaseNames.{behind_other}
use Rattle.cim_words.proofs.phases.PhaseSet.of_kind_iri.Goals as goal

pub returns-in-None : goal.returns-in-None
unfolding kind_iri_set cim_namespace
returns-in-None c = rw (behind_other (codes "http://iec.ch/TC57/CIM100#SinglePhaseKind.") c.args.iri.now c.in-None.ensures.cases) refl
