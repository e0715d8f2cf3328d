use Rattle.std.proofs.Common.{◌≡◌, ◌≤◌, ◌+◌, length, true, false, arith, ap}
use Rattle.cim_words.specs.Prop.{prop_iri}
use Rattle.nt_text.specs.Ends.{text_length}
use Rattle.nt_text.proofs.Widths.{line_length}
use Rattle.nt_text.proofs.reading.is_wide.Goals as goal

pub returns-then-iri-text_length-le-NARROW : goal.returns-then-iri-text_length-le-NARROW
returns-then-iri-text_length-le-NARROW c =
    let s = c.args.statement.now in
    let few : length (prop_iri s.prop) + text_length s.object ≤ 1348 = omega (arith, ap length c.iri.ensures, c.text_length.ensures.value, c.if-iri-text_length-le-NARROW.true) in (
      λ is. absurd (let no : false ≡ true = is in cc),
      λ wide. absurd (omega (arith, line_length s)),
    )
