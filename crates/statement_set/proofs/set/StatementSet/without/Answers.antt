use Rattle.std.proofs.Common.{◌≡◌, List, Contains, length, ap, refl, subst, subst₂, arith}
use Rattle.cim_words.specs.declared.statement.Statement.{Statement}
use Rattle.statement_set.specs.Set.{IsSetOf, IsInFirstAlone}
use Rattle.statement_set.proofs.Members.{gives_difference, refused_for_memory}
use Rattle.statement_set.proofs.set.StatementSet.without.Goals as goal

pub returns-clause-small : goal.returns-clause-small
returns-clause-small c =
    refused_for_memory c.in_ok-copies_apart.field-0.items c.in_ok-copies_apart.ensures.apart.ordered
    (omega (arith, c.in_ok-copies_apart.ensures.few, ap length c.statements.ensures.list)) c.of_ordered.result c.of_ordered.ensures

pub returns-clause-set : goal.returns-clause-set
returns-clause-set c =
    let others : c.append_copies.new.into.items ≡ c.args.less.now = rw (c.in_ok-append_copies.ensures, c.new-gone.ensures.items, c.as_slice.ensures) refl in
    let gone = subst (λ (list : List Statement). IsSetOf (Contains list) c.order_once.new.statements.items) others c.order_once.ensures in
    let kept = subst₂ (λ (these those : List Statement). IsSetOf (IsInFirstAlone these those) c.in_ok-copies_apart.field-0.items) c.statements.ensures.list c.deref.ensures.value c.in_ok-copies_apart.ensures.apart in
    gives_difference c.args.self.now c.args.less.now c.order_once.new.statements.items c.in_ok-copies_apart.field-0.items gone kept c.of_ordered.result c.of_ordered.ensures
