use Rattle.link_rules.specs.Inputs.{marks_in}
use Rattle.link_rules.proofs.Passes.{one_star}
use Rattle.link_rules.proofs.laws.one_star.Goals as goal

pub returns : goal.returns
returns c x i a b marks is also = one_star x i a b (λ these those are other. c.sections_are_determined.ensures (marks_in i) these those marks are other) is also
