-- The order of statements, of this project: by subject, then property, then object.
use Rattle.std.specs.Prelude.{ℕ, List}
use Rattle.std.specs.Ordering.{nat_cmp, ordering_then}
use Rattle.std.specs.Cmp.Lexicographic.{slice_cmp}
use Rattle.std.specs.declared.cmp.Ordering.{Ordering}
use Rattle.std.specs.declared.cmp.Ordering.TheVariants.{Less, Greater}
use Rattle.cim_words.specs.KnownProp.{known_row}
use Rattle.cim_words.specs.declared.object.Object.{Object}
use Rattle.cim_words.specs.declared.object.Object.TheVariants as object
use Rattle.cim_words.specs.declared.prop.Prop.{Prop}
use Rattle.cim_words.specs.declared.prop.Prop.TheVariants as prop
use Rattle.cim_words.specs.declared.statement.Statement.{Statement}

-- texts byte by byte, and a text before those that go on from it
abbrev pub text_order : List ℕ → List ℕ → Ordering
text_order = slice_cmp nat_cmp

-- known properties by their rows, then the others by their texts
abbrev pub prop_order : Prop → Prop → Ordering
prop_order (prop.Known k) (prop.Known l) = nat_cmp (known_row k) (known_row l)
prop_order (prop.Known k) (prop.Other u) = Less
prop_order (prop.Other t) (prop.Known l) = Greater
prop_order (prop.Other t) (prop.Other u) = text_order t u

-- identifiers by number, then names, then texts
abbrev pub object_order : Object → Object → Ordering
object_order (object.Id i) (object.Id j) = nat_cmp i.number j.number
object_order (object.Id i) _ = Less
object_order (object.Name t) (object.Id j) = Greater
object_order (object.Name t) (object.Name u) = text_order t u
object_order (object.Name t) (object.Text u) = Less
object_order (object.Text t) (object.Text u) = text_order t u
object_order (object.Text t) _ = Greater

-- statements by subject, those of one subject by property, and those of one property by object
abbrev pub statement_order : Statement → Statement → Ordering
statement_order s t = ordering_then (nat_cmp s.subject.number t.subject.number) (ordering_then (prop_order s.prop t.prop) (object_order s.object t.object))
