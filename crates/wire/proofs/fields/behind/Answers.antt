use Rattle.std.proofs.lemmas.Bool.Decides.{Decides-eqb}
use Rattle.std.proofs.lemmas.Slice.Eq.{strip_prefix_is}
use Rattle.wire.proofs.Splits.{behind_found, behind_only}
use Rattle.wire.proofs.fields.behind.Goals as goal

pub returns-clause-found : goal.returns-clause-found
returns-clause-found c =
    behind_found c.strip_prefix.result c.args.word.now c.args.mark.now
    (strip_prefix_is Decides-eqb c.args.word.now c.args.mark.now c.strip_prefix.result c.strip_prefix.ensures.cases)

pub returns-clause-only : goal.returns-clause-only
returns-clause-only c rest stands =
    behind_only c.strip_prefix.result c.args.word.now c.args.mark.now rest
    (strip_prefix_is Decides-eqb c.args.word.now c.args.mark.now c.strip_prefix.result c.strip_prefix.ensures.cases) stands
