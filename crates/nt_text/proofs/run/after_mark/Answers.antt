use Rattle.std.proofs.lemmas.Bool.Decides.{Decides-eqb}
use Rattle.std.proofs.lemmas.Slice.Eq.{strip_prefix_is}
use Rattle.nt_text.proofs.Runs.{stripped_found, stripped_only}
use Rattle.nt_text.proofs.run.after_mark.Goals as goal

pub returns-clause-found : goal.returns-clause-found
returns-clause-found c =
    stripped_found c.strip_prefix.result _ c.after_run.result.now c.args.mark.now c.after_run.ensures
    (strip_prefix_is Decides-eqb c.after_run.result.now c.args.mark.now c.strip_prefix.result c.strip_prefix.ensures.cases)

pub returns-clause-only : goal.returns-clause-only
returns-clause-only c rest stands =
    stripped_only c.strip_prefix.result _ c.after_run.result.now c.args.mark.now rest c.after_run.ensures
    (strip_prefix_is Decides-eqb c.after_run.result.now c.args.mark.now c.strip_prefix.result c.strip_prefix.ensures.cases) stands
