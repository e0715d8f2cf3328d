use Rattle.std.proofs.Common.{List, ◌∙◌, ap, sym}
use Rattle.std.proofs.lemmas.List.{take_all}
use Rattle.cim_words.specs.Groups.{counts_on}
use Rattle.cim_words.specs.declared.statement.Statement.{Statement}
use Rattle.statement_set.proofs.Steps.{yields_step, yields_end}
use Rattle.cim_model.specs.Network.{is_class}
use Rattle.cim_records.specs.Found.{found}
use Rattle.cim_records.specs.Joined.{join_all, stated_by}
use Rattle.cim_records.specs.declared.subject.Subject.{Subject}
use Rattle.cim_records.proofs.Stated.{joined_more, phaseless_one, silent_past, uncounted_one, unnamed_one}
use Rattle.cim_records.proofs.part_phases.PartPhases.gather.Goals as goal

pub loop-statement-preserved-in_default : goal.loop-statement-preserved-in_default
loop-statement-preserved-in_default c =
    let step = yields_step c.args.statements.now c.loop-statement.invariant.0 c.loop-statement.statement-iterator c.next.new.self c.next.result c.in-Some.statement c.loop-statement.invariant.1 c.in-Some.is c.next.ensures.steps in (
      _,
      step.left,
      λ x. silent_past c.args.subjects.now c.args.known x c.args.statements.now c.loop-statement.invariant.0 c.in-Some.statement.now _ _ step.within step.is
          (unnamed_one c.args.subjects.now c.args.known x c.in-Some.statement.now (sym (c.in_default.ensures.test x))) (c.loop-statement.invariant.2 x),
    )

pub loop-statement-preserved-then-not-bears : goal.loop-statement-preserved-then-not-bears
loop-statement-preserved-then-not-bears c =
    let step = yields_step c.args.statements.now c.loop-statement.invariant.0 c.loop-statement.statement-iterator c.next.new.self c.next.result c.in-Some.statement c.loop-statement.invariant.1 c.in-Some.is c.next.ensures.steps in (
      _,
      step.left,
      λ x. silent_past c.args.subjects.now c.args.known x c.args.statements.now c.loop-statement.invariant.0 c.in-Some.statement.now _ _ step.within step.is
          (uncounted_one c.args.subjects.now c.args.known x c.in-Some.statement.now (ap (λ (s : Subject). is_class (counts_on c.args.known) s.class) (sym c.at-part.ensures) ∙ sym c.bears.ensures ∙ c.if-not-bears.true))
          (c.loop-statement.invariant.2 x),
    )

pub loop-statement-preserved-in_default-phase : goal.loop-statement-preserved-in_default-phase
loop-statement-preserved-in_default-phase c =
    let step = yields_step c.args.statements.now c.loop-statement.invariant.0 c.loop-statement.statement-iterator c.next.new.self c.next.result c.in-Some.statement c.loop-statement.invariant.1 c.in-Some.is c.next.ensures.steps in (
      _,
      step.left,
      λ x. silent_past c.args.subjects.now c.args.known x c.args.statements.now c.loop-statement.invariant.0 c.in-Some.statement.now _ _ step.within step.is
          (phaseless_one c.args.subjects.now c.args.known x c.in-Some.statement.now (ap (λ (s : Subject). s.phase) (sym c.at-part.ensures) ∙ c.in_default-phase.is)) (c.loop-statement.invariant.2 x),
    )

pub loop-statement-preserved : goal.loop-statement-preserved
loop-statement-preserved c =
    let step = yields_step c.args.statements.now c.loop-statement.invariant.0 c.loop-statement.statement-iterator c.next.new.self c.next.result c.in-Some.statement c.loop-statement.invariant.1 c.in-Some.is c.next.ensures.steps in (
      _,
      step.left,
      λ x. joined_more c.args.subjects.now c.args.known x c.args.statements.now c.loop-statement.invariant.0 c.in-Some.statement.now c.in-Some-named_by.id c.in-Some-phase.phases _ _ _ step.within step.is
          (c.in-Some-named_by.ensures.test x) (ap (λ (s : Subject). is_class (counts_on c.args.known) s.class) (sym c.at-part.ensures) ∙ sym c.bears.ensures ∙ c.if-not-bears.false)
          (ap (λ (s : Subject). s.phase) (sym c.at-part.ensures) ∙ c.in-Some-phase.is) (c.loop-statement.invariant.2 x) (c.in_ok-join.ensures x),
    )

pub returns : goal.returns
returns c = λ x.
    c.loop-statement.invariant.2 x
    ∙ ap (λ (list : List Statement). join_all (found c.args.self.now x) (stated_by c.args.subjects.now list c.args.known x))
    (take_all c.loop-statement.invariant.0 c.args.statements.now (yields_end c.args.statements.now c.loop-statement.invariant.0 c.loop-statement.statement-iterator c.next.new.self c.next.result c.loop-statement.invariant.1 c.in-None.is c.next.ensures.steps))
