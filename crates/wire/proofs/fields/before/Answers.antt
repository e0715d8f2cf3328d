use Rattle.std.proofs.lemmas.Bool.Decides.{Decides-eqb}
use Rattle.std.proofs.lemmas.Slice.Eq.{strip_suffix_is}
use Rattle.wire.proofs.Splits.{before_found, before_only}
use Rattle.wire.proofs.fields.before.Goals as goal

pub returns-clause-found : goal.returns-clause-found
returns-clause-found c =
    before_found c.strip_suffix.result c.args.word.now c.args.mark.now
    (strip_suffix_is Decides-eqb c.args.word.now c.args.mark.now c.strip_suffix.result c.strip_suffix.ensures.cases)

pub returns-clause-only : goal.returns-clause-only
returns-clause-only c front stands =
    before_only c.strip_suffix.result c.args.word.now c.args.mark.now front
    (strip_suffix_is Decides-eqb c.args.word.now c.args.mark.now c.strip_suffix.result c.strip_suffix.ensures.cases) stands
