use Rattle.std.proofs.Common.{◌∙◌, sym}
use Rattle.nt_text.proofs.Runs.{blank_node_found, blank_node_only}
use Rattle.nt_text.proofs.run.begins_blank_node.Goals as goal

pub returns : goal.returns
returns c = (
  λ is. blank_node_found c.after_mark.result c.args.bytes.now c.after_mark.ensures.found (sym c.is_some.ensures ∙ is),
  λ node. c.is_some.ensures ∙ blank_node_only c.after_mark.result c.args.bytes.now c.after_mark.ensures.only node,
)
