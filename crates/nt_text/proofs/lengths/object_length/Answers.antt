use Rattle.std.proofs.Common.{ap, sym, ◌∙◌}
use Rattle.cim_words.specs.Written.{written_object}
use Rattle.std.proofs.Common.{length}
use Rattle.cim_words.specs.declared.object.Object.{Object}
use Rattle.nt_text.proofs.Widths.{id_length}
use Rattle.nt_text.proofs.lengths.object_length.Goals as goal

pub returns-in-Id : goal.returns-in-Id
returns-in-Id c = sym (ap (λ (o : Object). length (written_object o)) c.in-Id.is ∙ id_length c.in-Id.field-0.number)
