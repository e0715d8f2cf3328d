use Rattle.std.proofs.Common.{arith, inl, inr, refl, sym, ◌∙◌}
use Rattle.room_words.specs.declared.fault.Fault.TheVariants as fault
use Rattle.script.specs.Answers.{told_to_none}
use Rattle.script.proofs.Hearing.{heard}
use Rattle.script.proofs.Opening.{closed_to_long, closed_to_none}
use Rattle.script.proofs.rehearsal.Rehearsal.begin.Goals as goal

pub returns-then-line-gt-LINE_LIMIT : goal.returns-then-line-gt-LINE_LIMIT
returns-then-line-gt-LINE_LIMIT g c = (
  told_to_none fault.Long,
  c.in_ok-tell_none.ensures,
  inr (
    sym c.is_skipped.ensures ∙ c.if-is_skipped.false,
    closed_to_long c.args.line.now (omega (arith, c.if-line-gt-LINE_LIMIT.true)),
    inl (omega (arith, c.if-line-gt-LINE_LIMIT.true), refl, refl),
  ),
)

pub returns-in_default : goal.returns-in_default
returns-in_default g c = (
  told_to_none fault.Console,
  c.in_ok-tell_none-2.ensures,
  inr (
    sym c.is_skipped.ensures ∙ c.if-is_skipped.false,
    closed_to_none c.args.line.now c.in_default.ensures.none,
    inr (inl (record { fits = omega (arith, c.if-line-gt-LINE_LIMIT.false); none = c.in_default.ensures.none }, refl, refl)),
  ),
)

pub returns : goal.returns
returns g c =
    heard c.hear.result c.args.self.now c.hear.new.self c.args.line.now c.in-Some.request.now c.args.into.now.items c.hear.new.into.items c.in-Some.console
    (sym c.is_skipped.ensures ∙ c.if-is_skipped.false) (omega (arith, c.if-line-gt-LINE_LIMIT.false)) c.in-Some.ensures.found.0 c.in-Some.ensures.found.1 c.hear.ensures
