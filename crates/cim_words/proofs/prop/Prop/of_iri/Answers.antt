use Rattle.std.proofs.Common.{◌∙◌, sym, subst, Some}
use Rattle.std.specs.Str.{IsUtf8}
use Rattle.cim_words.proofs.Statements.{named_at}
use Rattle.cim_words.proofs.prop.Prop.of_iri.Goals as goal

-- the known property has just the IRI that was read, which is text
pub returns-in-Some-clause-held : goal.returns-in-Some-clause-held
returns-in-Some-clause-held c =
    let named = named_at c.args.text.now (Some c.in-Some.known) (sym c.known_with_iri.ensures ∙ c.in-Some.is) in
    subst IsUtf8 (sym named) c.utf8.text
