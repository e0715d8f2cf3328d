use Rattle.std.proofs.Common.{sym, ◌∙◌}
use Rattle.nt_text.proofs.Cuts.{first_at, parted_at, one_cut, has_mark}
use Rattle.nt_text.proofs.cut.cut_at.Goals as goal

pub returns-in_err-end-clause-only : goal.returns-in_err-end-clause-only
returns-in_err-end-clause-only c front rest free is = absurd (has_mark c.args.mark c.args.bytes.now front rest is c.in_err-end.ensures)

pub returns-clause-first : goal.returns-clause-first
returns-clause-first c = first_at c.args.mark c.args.bytes.now c.in_ok-end.end c.in_ok-end.ensures.0.before

pub returns-clause-only : goal.returns-clause-only
returns-clause-only c front rest free is =
    let found = c.in_ok-end.ensures in
    one_cut c.args.mark _ front _ rest (first_at c.args.mark c.args.bytes.now c.in_ok-end.end found.0.before) free
    (sym (parted_at c.args.mark c.args.bytes.now c.in_ok-end.end found.0.high found.1) ∙ is)
