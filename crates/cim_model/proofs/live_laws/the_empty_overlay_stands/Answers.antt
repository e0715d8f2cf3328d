use Rattle.std.proofs.Common.{arith}
use Rattle.std.specs.List.{IsDistinct}
use Rattle.plain_laws.proofs.Members.{contains_nothing}
use Rattle.cim_model.proofs.live_laws.the_empty_overlay_stands.Goals as goal

pub returns : goal.returns
unfolding IsDistinct
returns c m = record {
  items = λ one there. contains_nothing one there;
  positions = λ position there. contains_nothing position there;
  identifiers = tt;
  switches = λ k below. absurd (omega arith);
  jumpers = λ one there. contains_nothing one there;
  phased = λ one there. contains_nothing one there;
  few = omega arith;
}
