use Rattle.std.proofs.Common.{◌≡◌, map, take}
use Rattle.std.specs.List.{filter_map}
use Rattle.cim_model.specs.Sections.{term_at}
use Rattle.link_rules.proofs.line.terms_of_all.Given as goal

abbrev pub invariant-loop-section : goal.invariant-loop-section
invariant-loop-section l = l.sections.items ≡ map (filter_map (term_at l.index l.overlay l.segment.number)) (take l.section-index l.divided)
