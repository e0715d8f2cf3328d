use Rattle.std.proofs.Common.{◌∙◌, ap, List, map}
use Rattle.std.proofs.lemmas.List.{take_all}
use Rattle.cim_words.specs.declared.identifier.Id.{Id}
use Rattle.cim_model.specs.Network as network
use Rattle.cim_model.specs.Phases.{union}
use Rattle.cim_records.proofs.Phases.{set_is, union_more}
use Rattle.cim_records.proofs.index.Index.terminal_phases.Goals as goal

pub loop-terminal-preserved : goal.loop-terminal-preserved
loop-terminal-preserved c = set_is c.join-phases.result _ (λ p. c.join-phases.ensures p
    ∙ union_more (λ (id : Id). network.phases_of c.args.self.now id.number) c.args.terminals.now c.loop-terminal.terminal-index _ c.loop-terminal.phases c.phases_of.result c.loop-terminal-test.true c.loop-terminal.invariant c.phases_of.ensures p)

pub returns : goal.returns
returns c = c.loop-terminal.invariant ∙ ap (λ (ids : List Id). union (map (λ (id : Id). network.phases_of c.args.self.now id.number) ids)) (take_all _ _ c.loop-terminal-test.false)
