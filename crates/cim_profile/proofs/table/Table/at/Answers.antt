use Rattle.std.proofs.Common.{rules, ltb, leb, ap, sym, subst, ◌∙◌, List}
use Rattle.std.specs.List.Sorted.{IsNonDecreasingBy}
use Rattle.std.proofs.lemmas.List.{take_rest}
use Rattle.std.proofs.lemmas.List.Sorted.{IsPartitionPoint-from_clause, IsPartitionedBy-ltb, IsPartitionedBy-leb, IsNonDecreasingBy-drop, IsNonDecreasingBy-take}
use Rattle.plain_laws.proofs.Parts.{part_of_key}
use Rattle.cim_profile.specs.Table.{rows_at}
use Rattle.cim_profile.specs.declared.table.Row.{Row}
use Rattle.cim_profile.proofs.table.Table.at.Goals as goal

pub returns : goal.returns
returns g c =
    let key = λ (row : Row g.row.V.Denot). row.key.number in
    let list = c.as_slice-rows.result.now in
    let rises : IsNonDecreasingBy key list = subst (IsNonDecreasingBy key) (sym c.as_slice-rows.ensures.value) c.self.invariant in
    let start = IsPartitionPoint-from_clause (λ (row : Row g.row.V.Denot). ltb (key row) c.args.key.number) _ _ c.partition_point-start.ensures.partitioned (IsPartitionedBy-ltb key _ c.args.key.number rises) (λ a r q k. search rules) in
    let end = IsPartitionPoint-from_clause (λ (row : Row g.row.V.Denot). leb (key row) c.args.key.number) _ _ c.partition_point-end.ensures.partitioned (IsPartitionedBy-leb key _ c.args.key.number (IsNonDecreasingBy-take key _ _ (IsNonDecreasingBy-drop key _ _ rises))) (λ a r q k. search rules) in
    part_of_key key list _ c.args.key.number c.partition_point-start.result c.partition_point-end.result (take_rest list c.partition_point-start.result) c.partition_point-start.ensures.bound c.partition_point-end.ensures.bound start end
    ∙ ap (λ (rows : List (Row g.row.V.Denot)). rows_at rows c.args.key.number) (c.as_slice-rows.ensures.value ∙ c.self.view_is)
