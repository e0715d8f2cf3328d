use Rattle.std.proofs.Common.{◌≡◌, map, take}
use Rattle.cim_model.specs.Network as network
use Rattle.cim_model.specs.Phases.{union}
use Rattle.cim_words.specs.declared.identifier.Id.{Id}
use Rattle.cim_records.proofs.index.Index.terminal_phases.Given as goal

abbrev pub invariant-loop-terminal : goal.invariant-loop-terminal
invariant-loop-terminal l = l.phases ≡ union (map (λ (id : Id). network.phases_of l.self id.number) (take l.terminal-index l.terminals))
