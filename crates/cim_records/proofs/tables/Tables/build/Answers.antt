use Rattle.std.proofs.Common.{subst, sym}
use Rattle.cim_model.specs.Profile.{IsFaultless}
use Rattle.cim_records.proofs.tables.Tables.build.Goals as goal

pub of-requires : goal.of-requires
of-requires c = subst IsFaultless (sym c.in_ok-share.ensures) c.requires
