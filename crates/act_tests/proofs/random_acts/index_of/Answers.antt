use Rattle.std.proofs.Common.{subst, sym}
use Rattle.cim_model.specs.Profile.{IsFaultless}
use Rattle.cim_profile.specs.FirstBreak.{IsFirstBreak}
use Rattle.act_tests.proofs.random_acts.index_of.Goals as goal

pub returns : goal.returns
returns c = subst IsFaultless (sym c.in_ok-build-in-None.ensures) (subst (IsFirstBreak c.in_ok-set.set) c.in-None.is c.in_ok-found.ensures)
