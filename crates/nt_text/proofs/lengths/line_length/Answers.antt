use Rattle.std.proofs.Common.{◌∙◌, ap, arith, length}
use Rattle.std.specs.List.{flat_map}
use Rattle.cim_words.specs.Written.{iri_spelling}
use Rattle.nt_text.proofs.Widths.{line_parts}
use Rattle.nt_text.proofs.lengths.line_length.Goals as goal

pub spelled_length-property-requires : goal.spelled_length-property-requires
spelled_length-property-requires c = rw (c.as_bytes.ensures.value ∙ c.iri.ensures) (omega (arith, line_parts c.args.statement.now))

pub object_length-requires : goal.object_length-requires
object_length-requires c = omega (arith, line_parts c.args.statement.now)

pub overflow_add-result : goal.overflow_add-result
overflow_add-result c =
    let text = c.as_bytes.ensures.value ∙ c.iri.ensures in
    omega (arith, ap (λ t. length (flat_map iri_spelling t)) text, line_parts c.args.statement.now)

pub overflow_add-result-2 : goal.overflow_add-result-2
overflow_add-result-2 c =
    let text = c.as_bytes.ensures.value ∙ c.iri.ensures in
    omega (arith, ap (λ t. length (flat_map iri_spelling t)) text, line_parts c.args.statement.now)

pub overflow_add-result-3 : goal.overflow_add-result-3
overflow_add-result-3 c =
    let text = c.as_bytes.ensures.value ∙ c.iri.ensures in
    omega (arith, ap (λ t. length (flat_map iri_spelling t)) text, line_parts c.args.statement.now)

pub returns : goal.returns
returns c =
    let text = c.as_bytes.ensures.value ∙ c.iri.ensures in
    omega (arith, ap (λ t. length (flat_map iri_spelling t)) text, line_parts c.args.statement.now)
