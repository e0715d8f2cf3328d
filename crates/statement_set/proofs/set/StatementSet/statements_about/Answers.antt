use Rattle.std.proofs.Common.{◌==◌, ltb, leb, ap, sym, subst, ◌∙◌, rules}
use Rattle.std.specs.List.{filter}
use Rattle.std.specs.List.Sorted.{IsNonDecreasingBy}
use Rattle.std.proofs.lemmas.List.{take_rest}
use Rattle.std.proofs.lemmas.List.Sorted.{IsPartitionPoint-from_clause, IsPartitionedBy-ltb, IsPartitionedBy-leb, IsNonDecreasingBy-drop, IsNonDecreasingBy-take}
use Rattle.plain_laws.proofs.Parts.{part_of_key}
use Rattle.cim_words.specs.declared.statement.Statement.{Statement}
use Rattle.statement_set.specs.Set.{IsOrdered}
use Rattle.statement_set.proofs.Runs.{subjects_rise, subject_of}
use Rattle.statement_set.proofs.set.StatementSet.statements_about.Goals as goal

pub returns : goal.returns
returns c =
    let rises : IsNonDecreasingBy subject_of c.statements-statements.result.now = subjects_rise c.statements-statements.result.now (subst IsOrdered (sym c.statements-statements.ensures.list) c.statements-statements.ensures.ordered) in
    let before = IsPartitionPoint-from_clause (λ s. ltb (subject_of s) c.args.subject.number) _ _ c.partition_point-before.ensures.partitioned (IsPartitionedBy-ltb subject_of _ c.args.subject.number rises) (λ a r q k. search rules) in
    let within = IsPartitionPoint-from_clause (λ s. leb (subject_of s) c.args.subject.number) _ _ c.partition_point-within.ensures.partitioned (IsPartitionedBy-leb subject_of _ c.args.subject.number (IsNonDecreasingBy-take subject_of _ _ (IsNonDecreasingBy-drop subject_of _ _ rises))) (λ a r q k. search rules) in
    part_of_key subject_of c.statements-statements.result.now _ c.args.subject.number c.partition_point-before.result c.partition_point-within.result (take_rest c.statements-statements.result.now c.partition_point-before.result) c.partition_point-before.ensures.bound c.partition_point-within.ensures.bound before within
    ∙ ap (filter (λ (s : Statement). subject_of s == c.args.subject.number)) c.statements-statements.ensures.list
