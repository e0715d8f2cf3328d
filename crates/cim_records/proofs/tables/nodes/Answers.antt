use Rattle.std.proofs.Common.{◌∙◌, ◌++◌, ap, sym, List}
use Rattle.std.specs.Map.Iter.{deref_pair}
use Rattle.std.proofs.lemmas.Map.Iter.{rest_all, rest_more}
use Rattle.cim_words.specs.declared.identifier.Id.{Id}
use Rattle.cim_records.proofs.Taken.{taken_all, taken_more, key, kept, node_test, nodes_kept}
use Rattle.cim_records.proofs.tables.nodes.Goals as goal

pub returns : goal.returns
returns c =
    taken_all key node_test c.loop-id.id-iterator c.loop-id.nodes.items _ (rest_all deref_pair c.loop-id.id-iterator c.next.new.self c.next.result c.in-None.is c.next.ensures.steps) c.loop-id.invariant
    ∙ ap (kept node_test) c.requires.subjects ∙ nodes_kept _ c.requires.faultless

pub loop-id-preserved : goal.loop-id-preserved
loop-id-preserved c =
    ap (λ (ids : List Id). ids ++ kept node_test c.next.new.self) c.in_ok-push.ensures.items
    ∙ taken_more key node_test (c.in-Some.id.now, c.in-Some.subject.now) c.next.new.self c.loop-id.id-iterator c.loop-id.nodes.items _ (sym c.is_node.ensures ∙ c.if-not-is_node.false)
    (rest_more deref_pair c.loop-id.id-iterator c.next.new.self c.next.result (c.in-Some.id, c.in-Some.subject) c.in-Some.is c.next.ensures.steps) c.loop-id.invariant
