-- The rules as the code names them.
use Rattle.std.specs.Prelude.{ℕ, ◌+◌, List, length}
use Rattle.std.specs.List.{range_with_len}
use denote.Enum.Declared.{tag_of}
use Rattle.cim_profile.specs.contracts.rule.Rule.{the_type}
use Rattle.cim_profile.specs.declared.rule.Rule.{Rule}
use Rattle.cim_profile.specs.declared.rule.TheConstants.{RULES}

-- the number of a rule, its place among the variants, counted from 1
abbrev pub number : Rule → ℕ
number rule = tag_of the_type rule + 1

-- the numbers of all rules
abbrev pub numbers : List ℕ
numbers = range_with_len 1 (length RULES)
