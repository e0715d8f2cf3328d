use Rattle.std.proofs.Common.{refl}
use Rattle.cim_words.specs.Phases.{phase_text}
use Rattle.cim_words.specs.PhaseNames.{code_names, kind_names}
use Rattle.cim_words.proofs.phase_names.phase_names_are_standard.Goals as goal

pub returns-clause-codes : goal.returns-clause-codes
unfolding phase_text code_names
returns-clause-codes c = refl

pub returns-clause-kinds : goal.returns-clause-kinds
unfolding phase_text kind_names
returns-clause-kinds c = refl
