use Rattle.std.proofs.Common.{sym, ◌∙◌}
use Rattle.cim_words.proofs.PhaseNames.{find_named, find_other, find_unnamed}
use Rattle.cim_words.proofs.phase_names.named.Goals as goal

pub returns-then-contains : goal.returns-then-contains
returns-then-contains c =
    find_named c.args.all.now c.in-Ok.set c.args.name.now c.in-Ok.ensures.read (sym c.contains.ensures.value ∙ c.if-contains.true)

pub returns-else-contains : goal.returns-else-contains
returns-else-contains c =
    find_other c.args.all.now c.in-Ok.set c.args.name.now c.in-Ok.ensures.read (sym c.contains.ensures.value ∙ c.if-contains.false)

pub returns-in_default : goal.returns-in_default
returns-in_default c =
    find_unnamed c.args.all.now c.args.name.now (λ set spelled. c.in_default.not-Ok set (c.read_text.ensures.only set spelled))
