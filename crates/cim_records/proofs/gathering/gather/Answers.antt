use Rattle.std.proofs.Common.{ap, sym, ◌∙◌}
use Rattle.cim_words.specs.declared.known_prop.KnownProp.{KnownProp}
use Rattle.statement_set.proofs.Steps.{yields_first, yields_nothing}
use Rattle.cim_model.specs.Model.{is_naming}
use Rattle.cim_records.specs.Found.{members}
use Rattle.cim_records.proofs.Gathers.{all_gathered, gathered_more, passed_by, unnamed, untaken}
use Rattle.cim_records.proofs.gathering.gather.Goals as goal

pub loop-statement-preserved-in_default : goal.loop-statement-preserved-in_default
loop-statement-preserved-in_default c = λ x.
    passed_by c.args.gathering c.args.subjects.now x c.loop-statement.statement-iterator c.next.new.self c.in-Some.statement.now (members c.loop-statement.groups x) _
    (yields_first c.loop-statement.statement-iterator c.next.new.self c.next.result c.in-Some.statement c.in-Some.is c.next.ensures.steps)
    (unnamed c.args.gathering c.args.subjects.now x c.in-Some.statement.now c.next.new.self (ap (λ (k : KnownProp). is_naming k x c.in-Some.statement.now) (sym c.property.ensures) ∙ sym (c.in_default.ensures.test x)))
    (c.loop-statement.invariant x)

pub loop-statement-preserved-then-not-takes : goal.loop-statement-preserved-then-not-takes
loop-statement-preserved-then-not-takes c = λ x.
    passed_by c.args.gathering c.args.subjects.now x c.loop-statement.statement-iterator c.next.new.self c.in-Some.statement.now (members c.loop-statement.groups x) _
    (yields_first c.loop-statement.statement-iterator c.next.new.self c.next.result c.in-Some.statement c.in-Some.is c.next.ensures.steps)
    (untaken c.args.gathering c.args.subjects.now x c.in-Some.statement.now c.next.new.self c.in-Some-named_by.key.number (c.in-Some-named_by.ensures.test x ∙ ap (λ (k : KnownProp). is_naming k x c.in-Some.statement.now) c.property.ensures) (sym c.takes.ensures ∙ c.if-not-takes.true))
    (c.loop-statement.invariant x)

pub loop-statement-preserved : goal.loop-statement-preserved
loop-statement-preserved c = λ x.
    gathered_more c.args.gathering c.args.subjects.now x c.loop-statement.statement-iterator c.next.new.self c.in-Some.statement.now c.in-Some-named_by.key.number (members c.loop-statement.groups x) _ _
    (yields_first c.loop-statement.statement-iterator c.next.new.self c.next.result c.in-Some.statement c.in-Some.is c.next.ensures.steps)
    (c.in-Some-named_by.ensures.test x ∙ ap (λ (k : KnownProp). is_naming k x c.in-Some.statement.now) c.property.ensures) (sym c.takes.ensures ∙ c.if-not-takes.false)
    (c.in_ok-add.ensures x) (c.loop-statement.invariant x)

pub returns : goal.returns
returns c = λ x.
    all_gathered c.args.gathering c.args.subjects.now x c.loop-statement.statement-iterator (members c.loop-statement.groups x) _
    (yields_nothing c.loop-statement.statement-iterator c.next.new.self c.next.result c.in-None.is c.next.ensures.steps) (c.loop-statement.invariant x)
