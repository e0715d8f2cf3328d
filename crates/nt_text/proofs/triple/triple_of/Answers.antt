use Rattle.std.proofs.Common.{◌≡◌, List, ℕ, Some, None, inr, refl, sym, subst}
use Rattle.std.specs.String.{string_bytes}
use Rattle.cim_words.specs.declared.object.Object.{Object}
use Rattle.nt_text.specs.Grammar.{HasIri}
use Rattle.nt_text.proofs.LineReads.{NoObject, no_triple, denied}
use Rattle.nt_text.proofs.triple.triple_of.Goals as goal

pub returns-in_default-clause-cause : goal.returns-in_default-clause-cause
returns-in_default-clause-cause c =
    no_triple c.args.line.now (denied _ c.if-begins_blank_node.ensures)
    (λ t r u s iri second. absurd (rw c.in_default.is at (c.in_ok-subject.ensures.only t r iri)))

pub returns-in_default-2-clause-cause : goal.returns-in_default-2-clause-cause
returns-in_default-2-clause-cause c =
    no_triple c.args.line.now (denied _ c.if-begins_blank_node.ensures)
    (λ t r u s iri second.
    let parts = rw c.in-Some.is at (c.in_ok-subject.ensures.only t r iri) in
    let P : List ℕ → Type 0 = λ l. HasIri l u s in
    absurd (rw c.in_default-2.is at (c.in_ok-property.ensures.only u s (subst P (sym parts.1) second))))

pub returns-then-begins_blank_node-2-clause-cause : goal.returns-then-begins_blank_node-2-clause-cause
returns-then-begins_blank_node-2-clause-cause c = inr (record {
  subject = string_bytes c.in-Some.subject;
  property = string_bytes c.in-Some-2.property;
  after_subject = c.in-Some.behind.now;
  after_property = c.in-Some-2.behind.now;
  has_subject = rw c.in-Some.is at c.in_ok-subject.ensures.found;
  has_property = rw c.in-Some-2.is at c.in_ok-property.ensures.found;
  begins = c.if-begins_blank_node-2.ensures.0 refl;
})

pub returns-in_default-3-clause-cause : goal.returns-in_default-3-clause-cause
returns-in_default-3-clause-cause c =
    no_triple c.args.line.now (denied _ c.if-begins_blank_node.ensures)
    (λ t r u s iri second.
    let parts = rw c.in-Some.is at (c.in_ok-subject.ensures.only t r iri) in
    let P : List ℕ → Type 0 = λ l. HasIri l u s in
    let behind = rw c.in-Some-2.is at (c.in_ok-property.ensures.only u s (subst P (sym parts.1) second)) in
    let Q : List ℕ → Type 0 = NoObject in
    let none : NoObject c.in-Some-2.behind.now = (
      denied _ c.if-begins_blank_node-2.ensures,
      λ (thing : Object) has. let no : None ≡ Some thing = rw c.in_default-3.is at (c.in_ok-object.ensures.only thing has) in cc,
    ) in
    subst Q behind.1 none)
