use Rattle.std.proofs.Common.{rules}
use Rattle.std.proofs.lemmas.List.Sorted.{IsNonDecreasingBy-from_sort_by_key, answers_always}
use Rattle.plain_laws.proofs.Parts.{part_stays}
use Rattle.cim_profile.specs.declared.table.Row.{Row}
use Rattle.cim_profile.proofs.table.Table.of.Goals as goal

pub invariant_of-result : goal.invariant_of-result
invariant_of-result g c = IsNonDecreasingBy-from_sort_by_key (λ (row : Row g.row.V.Denot). row.key.number) _ c.in_ok-sort_by_key.ensures.sorted (λ a r q k. search rules)

pub returns : goal.returns
returns g c = part_stays (λ (row : Row g.row.V.Denot). row.key.number) c.args.rows.items c.sort_by_key.new.self.items c.sort_by_key.ensures.permutation (c.sort_by_key.ensures.stable (λ (row : Row g.row.V.Denot). row.key.number) (answers_always _ _ _ (λ f a r q k. search rules)))
