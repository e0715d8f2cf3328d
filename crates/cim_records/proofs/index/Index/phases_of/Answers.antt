use Rattle.std.proofs.Common.{sym, ◌∙◌, refl}
use Rattle.cim_records.proofs.Known.{phases_told}
use Rattle.cim_records.proofs.index.Index.phases_of.Goals as goal

pub returns-then-not-is_terminal : goal.returns-then-not-is_terminal
returns-then-not-is_terminal c = sym (phases_told _ c.subject-subject.ensures.faultless _ _ c.subject-subject.ensures.known ∙ rw (← c.is_terminal.ensures, c.if-not-is_terminal.true) refl)

pub returns-in-Some : goal.returns-in-Some
returns-in-Some c = sym (phases_told _ c.subject-subject.ensures.faultless _ _ c.subject-subject.ensures.known ∙ rw (← c.is_terminal.ensures, c.if-not-is_terminal.false, c.in-Some.is) refl)

pub returns-in-None : goal.returns-in-None
returns-in-None c = sym (phases_told _ c.subject-subject.ensures.faultless _ _ c.subject-subject.ensures.known ∙ rw (← c.is_terminal.ensures, c.if-not-is_terminal.false, c.in-None.is) (sym c.owner_phases.ensures))
