use Rattle.std.proofs.Common.{◌≡◌, sym, subst, List, ℕ, true, false}
use Rattle.nt_text.specs.Grammar.{IsEmptyLine}
use Rattle.nt_text.proofs.Runs.{end_from, end_begins}
use Rattle.nt_text.proofs.run.is_end.Goals as goal

pub returns-in-Some : goal.returns-in-Some
returns-in-Some c = (
  λ is. end_from c.args.bytes.now c.in-Some.after.now c.in-Some.ensures.found (c.is_empty_line.ensures.0 is),
  λ end.
      let P : List ℕ → Type 0 = IsEmptyLine in
      c.is_empty_line.ensures.1 (subst P (sym (c.in-Some.ensures.only end.after (end_begins c.args.bytes.now end))) end.nothing),
)

pub returns-in-None : goal.returns-in-None
returns-in-None c = (
  λ is. absurd (let e : false ≡ true = is in cc),
  λ end. absurd (c.in-None.ensures.only end.after (end_begins c.args.bytes.now end)),
)
