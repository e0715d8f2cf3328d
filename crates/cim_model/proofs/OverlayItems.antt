-- The items of an overlay that stands: each is found by its identifier, and nothing that the model speaks of is one.
use Rattle.std.proofs.Common.{◌≡◌, ◌↔◌, ℕ, inl, inr, List, [], ◌∷◌, map, Bool, true, false, ◌==◌, cond, nat_eq, IsTrue, Option, Some, None, find, refl, ap, sym, ◌∙◌}
use Rattle.std.specs.List.{IsDistinct}
use Rattle.std.proofs.lemmas.Bool.{eqb-true}
use Rattle.plain_laws.proofs.Each.{each_read}
use Rattle.plain_laws.proofs.Members.{Among, contains_among}
use Rattle.plain_laws.proofs.Numbers.{equal_itself}
use Rattle.plain_laws.proofs.Options.{find_among}
use Rattle.cim_words.specs.declared.statement.Statement.{Statement}
use Rattle.cim_model.specs.Model.{is_subject}
use Rattle.cim_model.specs.Profile.{IsFaultless}
use Rattle.cim_model.specs.Stands.{ItemStands, Stands}
use Rattle.room_words.specs.Items.{item_number}
use Rattle.room_words.specs.Overlay.{item_of, item_or}
use Rattle.room_words.specs.Terms.{same_anchor, same_term}
use Rattle.room_words.specs.declared.anchor.Anchor.{Anchor}
use Rattle.room_words.specs.declared.items.TempItem.{TempItem}
use Rattle.room_words.specs.declared.overlay.Overlay.{Overlay}
use Rattle.room_words.specs.declared.term.Term.{Term}

-- a live network: a model without fault under an overlay that stands, where terminals and places are told apart
pub record IsLive (m : List Statement) (o : Overlay) : Type 0 where
  pub faultless : IsFaultless m
  pub stands : Stands m o
  pub terms : (t u : Term) → IsTrue (same_term t u) ↔ (t ≡ u)
  pub places : (a b : Anchor) → IsTrue (same_anchor a b) ↔ (a ≡ b)

-- ---- an item by its identifier

pub found_item_is_listed : (o : Overlay) (x : ℕ) (one : TempItem) → item_of o x ≡ Some one → Among o.items one × (item_number one ≡ x)
found_item_is_listed o x one found =
    let there = find_among (λ (other : TempItem). item_number other == x) o.items one found in
    (there.0, eqb-true (item_number one) x there.1)

find_here : (one : TempItem) (y : TempItem) (rest : Option TempItem) (b : Bool) → b ≡ true → y ≡ one → cond b (Some y) rest ≡ Some one
find_here one y rest true passes is = ap (λ (z : TempItem). Some z) is
find_here one y rest false passes is = absurd cc

find_later : (one : TempItem) (y : TempItem) (rest : Option TempItem) (b : Bool) → b ≡ false → rest ≡ Some one → cond b (Some y) rest ≡ Some one
find_later one y rest true fails is = absurd cc
find_later one y rest false fails is = is

item_in : (items : List TempItem) (one : TempItem) → IsDistinct nat_eq (map item_number items) → Among items one → find (λ (other : TempItem). item_number other == item_number one) items ≡ Some one
unfolding IsDistinct
item_in [] one distinct there = absurd there
item_in (y ∷ items) one distinct (inl is) =
    find_here one y _ (item_number y == item_number one) (ap (λ (z : TempItem). item_number z == item_number one) is ∙ equal_itself (item_number one)) is
item_in (y ∷ items) one distinct (inr there) =
    find_later one y _ (item_number y == item_number one) (each_read (λ (n : ℕ). nat_eq (item_number y) n ≡ false) item_number items one distinct.0 there)
    (item_in items one distinct.1 there)

pub item_found : (m : List Statement) (o : Overlay) (one : TempItem) → IsLive m o → Among o.items one → item_of o (item_number one) ≡ Some one
item_found m o one live there = item_in o.items one live.stands.identifiers there

pub item_stands : (m : List Statement) (o : Overlay) (one : TempItem) → IsLive m o → Among o.items one → ItemStands m o one
item_stands m o one live there = live.stands.items one (contains_among o.items one there)

-- ---- what the model speaks of is no item

no_item_if : (m : List Statement) (o : Overlay) (x : ℕ) (found : Option TempItem) → IsLive m o → item_of o x ≡ found → is_subject m x ≡ true → found ≡ None
no_item_if m o x None live is subject = refl
no_item_if m o x (Some one) live is subject =
    let there = found_item_is_listed o x one is in
    let fresh : is_subject m x ≡ false = ap (is_subject m) (sym there.1) ∙ (item_stands m o one live there.0).identifier in
    absurd (let both : true ≡ false = sym subject ∙ fresh in cc)

pub no_item : (m : List Statement) (o : Overlay) (x : ℕ) → IsLive m o → is_subject m x ≡ true → item_of o x ≡ None
no_item m o x live subject = no_item_if m o x (item_of o x) live refl subject

-- ---- what is said of an item, and of what is none

pub says_item : {X : Type 0} (o : Overlay) (x : ℕ) (one : TempItem) (says : TempItem → X) (other : X) → item_of o x ≡ Some one → item_or o x says other ≡ says one
says_item o x one says other is = rw is refl

pub says_other : {X : Type 0} (o : Overlay) (x : ℕ) (says : TempItem → X) (other : X) → item_of o x ≡ None → item_or o x says other ≡ other
says_other o x says other is = rw is refl

-- ---- what some holds

-- ---- what lists made of the elements of a list have
