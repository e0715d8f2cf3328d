use Rattle.std.proofs.Common.{◌∙◌, List, ℕ, ap}
use Rattle.std.specs.Str.{bytes_eq}
use Rattle.session_host.proofs.talk.begins_document.Goals as goal

pub returns : goal.returns
returns c = c.eq.ensures ∙ ap (λ (other : List ℕ). bytes_eq c.args.line.now other) c.as_slice.ensures
