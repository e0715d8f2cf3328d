use Rattle.std.proofs.Common.{◌≡◌, List, Contains, refl, subst, subst₂}
use Rattle.cim_words.specs.declared.statement.Statement.{Statement}
use Rattle.statement_set.specs.Set.{IsSetOf, IsInEither}
use Rattle.statement_set.proofs.Members.{gives_union}
use Rattle.statement_set.proofs.set.StatementSet.with.Goals as goal

pub returns : goal.returns
returns c =
    let others : c.append_copies.new.into.items ≡ c.args.more.now = rw (c.in_ok-append_copies.ensures, c.new-new.ensures.items, c.as_slice.ensures) refl in
    let new = subst (λ (list : List Statement). IsSetOf (Contains list) c.order_once.new.statements.items) others c.order_once.ensures in
    let all = subst₂ (λ (these those : List Statement). IsSetOf (IsInEither these those) c.in_ok-merged.field-0.items) c.statements.ensures.list c.deref.ensures.value c.in_ok-merged.ensures in
    gives_union c.args.self.now c.args.more.now c.order_once.new.statements.items c.in_ok-merged.field-0.items new all c.of_ordered.result c.of_ordered.ensures
