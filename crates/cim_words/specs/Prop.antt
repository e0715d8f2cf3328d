-- The property of a statement: a known one, or any other text (RDF 1.1 N-Triples).
use Rattle.std.specs.Prelude.{ℕ, List, Bool, Option, Some, None, is_none, true}
use Rattle.cim_words.specs.KnownProp.{known_iri, known_prop}
use Rattle.cim_words.specs.declared.known_prop.KnownProp.{KnownProp}
use Rattle.cim_words.specs.declared.prop.Prop.{Prop}
use Rattle.cim_words.specs.declared.prop.Prop.TheVariants.{Known, Other}

-- the text of a property
abbrev pub prop_iri : Prop → List ℕ
prop_iri (Known k) = known_iri k
prop_iri (Other text) = text

-- the property that a text is: the known one of that name, else the text
abbrev pub prop_or_text : Option KnownProp → List ℕ → Prop
prop_or_text (Some k) text = Known k
prop_or_text None text = Other text

abbrev pub prop_of : List ℕ → Prop
prop_of text = prop_or_text (known_prop text) text

-- a property is proper where no known name stands as another text
abbrev pub is_proper_prop : Prop → Bool
is_proper_prop (Known k) = true
is_proper_prop (Other text) = is_none (known_prop text)
