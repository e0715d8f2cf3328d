-- The order of statements is total, and it tells different statements apart.
use Rattle.std.proofs.Common.{◌≡◌, ℕ, ◌-◌, get_or, refl, ap, sym, ◌∙◌}
use Rattle.std.specs.Cmp.{IsTotalOrder}
use Rattle.std.specs.Ordering.{nat_cmp, ordering_then, ordering_reverse}
use Rattle.std.specs.declared.cmp.Ordering.TheVariants.{Less, Equal}
use Rattle.std.proofs.lemmas.Cmp.{nat_cmp_total, nat_list_cmp_total, on_total, then_total}
use Rattle.std.proofs.lemmas.Map.Lookups.{exact_bytes}
use Rattle.plain_laws.proofs.Numbers.{cmp_equal}
use Rattle.plain_laws.proofs.Sorted.{then_equal}
use Rattle.cim_words.specs.KnownProp.{known_row}
use Rattle.cim_words.specs.Order.{prop_order, object_order, statement_order}
use Rattle.cim_words.specs.declared.known_prop.KnownProp.{KnownProp}
use Rattle.cim_words.specs.declared.known_prop.KnownProp.TheVariants.{K1, K2, K3, K4, K5, K6, K7, K8, K9, K10, K11, K12, K13, K14, K15, K16, K17, K18, K19, K20}
use Rattle.cim_words.specs.declared.known_prop.TheConstants.{KNOWN_PROPS}
use Rattle.cim_words.specs.declared.object.Object.{Object}
use Rattle.cim_words.specs.declared.object.Object.TheVariants as object
use Rattle.cim_words.specs.declared.prop.Prop.{Prop}
use Rattle.cim_words.specs.declared.prop.Prop.TheVariants as prop
use Rattle.cim_words.specs.declared.statement.Statement.{Statement}
use Rattle.cim_words.proofs.Statements.{same_id, same_statement}

-- ---- the order of properties

prop_turned : (p q : Prop) → prop_order p q ≡ ordering_reverse (prop_order q p)
prop_turned (prop.Known k) (prop.Known l) = nat_cmp_total.antisymm (known_row k) (known_row l)
prop_turned (prop.Known k) (prop.Other u) = refl
prop_turned (prop.Other t) (prop.Known l) = refl
prop_turned (prop.Other t) (prop.Other u) = nat_list_cmp_total.antisymm t u

prop_chained : (p q r : Prop) → prop_order p q ≡ Less → prop_order q r ≡ Less → prop_order p r ≡ Less
prop_chained (prop.Known k) (prop.Known l) (prop.Known m) h g = nat_cmp_total.trans (known_row k) (known_row l) (known_row m) h g
prop_chained (prop.Known k) (prop.Known l) (prop.Other v) h g = refl
prop_chained (prop.Known k) (prop.Other u) (prop.Known m) h g = cc
prop_chained (prop.Known k) (prop.Other u) (prop.Other v) h g = refl
prop_chained (prop.Other t) (prop.Known l) r h g = absurd cc
prop_chained (prop.Other t) (prop.Other u) (prop.Known m) h g = cc
prop_chained (prop.Other t) (prop.Other u) (prop.Other v) h g = nat_list_cmp_total.trans t u v h g

prop_alike : (p q r : Prop) → prop_order p q ≡ Equal → prop_order p r ≡ prop_order q r
prop_alike (prop.Known k) (prop.Known l) (prop.Known m) h = nat_cmp_total.congr (known_row k) (known_row l) (known_row m) h
prop_alike (prop.Known k) (prop.Known l) (prop.Other v) h = refl
prop_alike (prop.Known k) (prop.Other u) r h = absurd cc
prop_alike (prop.Other t) (prop.Known l) r h = absurd cc
prop_alike (prop.Other t) (prop.Other u) (prop.Known m) h = refl
prop_alike (prop.Other t) (prop.Other u) (prop.Other v) h = nat_list_cmp_total.congr t u v h

pub prop_order_total : IsTotalOrder prop_order
prop_order_total = record { antisymm = prop_turned; trans = prop_chained; congr = prop_alike }

-- ---- the order of objects

object_turned : (p q : Object) → object_order p q ≡ ordering_reverse (object_order q p)
object_turned (object.Id i) (object.Id j) = nat_cmp_total.antisymm i.number j.number
object_turned (object.Id i) (object.Name u) = refl
object_turned (object.Id i) (object.Text u) = refl
object_turned (object.Name t) (object.Id j) = refl
object_turned (object.Name t) (object.Name u) = nat_list_cmp_total.antisymm t u
object_turned (object.Name t) (object.Text u) = refl
object_turned (object.Text t) (object.Id j) = refl
object_turned (object.Text t) (object.Name u) = refl
object_turned (object.Text t) (object.Text u) = nat_list_cmp_total.antisymm t u

object_chained : (p q r : Object) → object_order p q ≡ Less → object_order q r ≡ Less → object_order p r ≡ Less
object_chained (object.Id i) (object.Id j) (object.Id k) h g = nat_cmp_total.trans i.number j.number k.number h g
object_chained (object.Id i) (object.Name u) (object.Id k) h g = cc
object_chained (object.Id i) (object.Text u) (object.Id k) h g = cc
object_chained (object.Id i) q (object.Name v) h g = refl
object_chained (object.Id i) q (object.Text v) h g = refl
object_chained (object.Name t) (object.Id j) r h g = absurd cc
object_chained (object.Name t) (object.Name u) (object.Id k) h g = cc
object_chained (object.Name t) (object.Name u) (object.Name v) h g = nat_list_cmp_total.trans t u v h g
object_chained (object.Name t) (object.Name u) (object.Text v) h g = refl
object_chained (object.Name t) (object.Text u) (object.Id k) h g = cc
object_chained (object.Name t) (object.Text u) (object.Name v) h g = cc
object_chained (object.Name t) (object.Text u) (object.Text v) h g = refl
object_chained (object.Text t) (object.Id j) r h g = absurd cc
object_chained (object.Text t) (object.Name u) r h g = absurd cc
object_chained (object.Text t) (object.Text u) (object.Id k) h g = cc
object_chained (object.Text t) (object.Text u) (object.Name v) h g = cc
object_chained (object.Text t) (object.Text u) (object.Text v) h g = nat_list_cmp_total.trans t u v h g

object_alike : (p q r : Object) → object_order p q ≡ Equal → object_order p r ≡ object_order q r
object_alike (object.Id i) (object.Id j) (object.Id k) h = nat_cmp_total.congr i.number j.number k.number h
object_alike (object.Id i) (object.Id j) (object.Name v) h = refl
object_alike (object.Id i) (object.Id j) (object.Text v) h = refl
object_alike (object.Id i) (object.Name u) r h = absurd cc
object_alike (object.Id i) (object.Text u) r h = absurd cc
object_alike (object.Name t) (object.Id j) r h = absurd cc
object_alike (object.Name t) (object.Name u) (object.Id k) h = refl
object_alike (object.Name t) (object.Name u) (object.Name v) h = nat_list_cmp_total.congr t u v h
object_alike (object.Name t) (object.Name u) (object.Text v) h = refl
object_alike (object.Name t) (object.Text u) r h = absurd cc
object_alike (object.Text t) (object.Id j) r h = absurd cc
object_alike (object.Text t) (object.Name u) r h = absurd cc
object_alike (object.Text t) (object.Text u) (object.Id k) h = refl
object_alike (object.Text t) (object.Text u) (object.Name v) h = refl
object_alike (object.Text t) (object.Text u) (object.Text v) h = nat_list_cmp_total.congr t u v h

pub object_order_total : IsTotalOrder object_order
object_order_total = record { antisymm = object_turned; trans = object_chained; congr = object_alike }

-- ---- the order of statements

abbrev subject_of : Statement → ℕ
subject_of s = s.subject.number

abbrev prop_of_statement : Statement → Prop
prop_of_statement s = s.prop

abbrev object_of_statement : Statement → Object
object_of_statement s = s.object

pub statement_order_total : IsTotalOrder statement_order
statement_order_total = then_total (on_total subject_of nat_cmp_total) (then_total (on_total prop_of_statement prop_order_total) (on_total object_of_statement object_order_total))

-- ---- what ties is one

-- a known property stands in its row
at_row : (k : KnownProp) → get_or KNOWN_PROPS (known_row k - 1) K1 ≡ k
at_row K1 = refl
at_row K2 = refl
at_row K3 = refl
at_row K4 = refl
at_row K5 = refl
at_row K6 = refl
at_row K7 = refl
at_row K8 = refl
at_row K9 = refl
at_row K10 = refl
at_row K11 = refl
at_row K12 = refl
at_row K13 = refl
at_row K14 = refl
at_row K15 = refl
at_row K16 = refl
at_row K17 = refl
at_row K18 = refl
at_row K19 = refl
at_row K20 = refl

same_row : (k l : KnownProp) → known_row k ≡ known_row l → k ≡ l
same_row k l e = sym (at_row k) ∙ ap (λ (n : ℕ). get_or KNOWN_PROPS (n - 1) K1) e ∙ at_row l

same_prop : (p q : Prop) → prop_order p q ≡ Equal → p ≡ q
same_prop (prop.Known k) (prop.Known l) h = ap prop.Known (same_row k l (cmp_equal (known_row k) (known_row l) h))
same_prop (prop.Known k) (prop.Other u) h = absurd cc
same_prop (prop.Other t) (prop.Known l) h = absurd cc
same_prop (prop.Other t) (prop.Other u) h = ap prop.Other (exact_bytes t u h)

same_object : (p q : Object) → object_order p q ≡ Equal → p ≡ q
same_object (object.Id i) (object.Id j) h = ap object.Id (same_id i j (cmp_equal i.number j.number h))
same_object (object.Id i) (object.Name u) h = absurd cc
same_object (object.Id i) (object.Text u) h = absurd cc
same_object (object.Name t) (object.Id j) h = absurd cc
same_object (object.Name t) (object.Name u) h = ap object.Name (exact_bytes t u h)
same_object (object.Name t) (object.Text u) h = absurd cc
same_object (object.Text t) (object.Id j) h = absurd cc
same_object (object.Text t) (object.Name u) h = absurd cc
same_object (object.Text t) (object.Text u) h = ap object.Text (exact_bytes t u h)

-- statements that the order does not tell apart are one
pub tied_statements_are_one : (s t : Statement) → statement_order s t ≡ Equal → s ≡ t
tied_statements_are_one s t h =
    let first = then_equal (nat_cmp s.subject.number t.subject.number) (ordering_then (prop_order s.prop t.prop) (object_order s.object t.object)) h in
    let second = then_equal (prop_order s.prop t.prop) (object_order s.object t.object) first.1 in
    same_statement s t (same_id s.subject t.subject (cmp_equal s.subject.number t.subject.number first.0)) (same_prop s.prop t.prop second.0) (same_object s.object t.object second.1)
