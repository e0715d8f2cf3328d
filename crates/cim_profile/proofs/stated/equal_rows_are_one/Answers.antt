use Rattle.std.proofs.Common.{rules}
use denote.Enum.Bare.{same_true}
use Rattle.cim_words.specs.contracts.class.Class.{the_type}
use Rattle.cim_profile.proofs.TypeRows.{equal_rows}
use Rattle.cim_profile.proofs.stated.equal_rows_are_one.Goals as goal

pub returns : goal.returns
returns c one other h = equal_rows _ (λ x y is. same_true the_type (search rules) x y is) one other h
