use Rattle.std.proofs.Common.{◌∷◌, ◌++◌}
use Rattle.cim_words.specs.Written.{quote}
use Rattle.nt_text.proofs.TermForms.{literal_cut}
use Rattle.nt_text.proofs.terms.literal_inside.Goals as goal

pub returns-clause-only : goal.returns-clause-only
returns-clause-only c inside rest closes begins =
    literal_cut c.cut_at_quote.result c.in_ok-after_mark.field-0.now inside rest (c.in_ok-after_mark.ensures.only (inside ++ quote ∷ rest) begins) closes
    c.cut_at_quote.ensures.found c.cut_at_quote.ensures.first c.cut_at_quote.ensures.none
