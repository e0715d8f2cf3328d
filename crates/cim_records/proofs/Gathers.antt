-- What is gathered in a model without fault: the terminals of equipment by side, and those at nodes.
use Rattle.std.proofs.Common.{true, false, ◌≡◌, ℕ, ◌==◌, List, [], ◌∷◌, ◌++◌, map, Bool, not, ◌&&◌, refl, ap, sym, ◌∙◌, append_assoc, rules}
use Rattle.std.specs.Prelude.{if◌then◌else◌}
use Rattle.std.specs.List.{filter}
use Rattle.std.proofs.lemmas.List.{map-append}
use Rattle.std.proofs.lemmas.Bool.{eqb-true}
use Rattle.std.proofs.lemmas.List.Elements.{filter_agree}
use Rattle.std.proofs.Math.Bool.{and_comm}
use Rattle.plain_laws.proofs.Filters.{filter_twice}
use Rattle.plain_laws.proofs.Numbers.{equal_turned}
use Rattle.cim_words.specs.Groups.{is_terminal}
use Rattle.cim_words.specs.declared.identifier.Id.{Id}
use Rattle.cim_words.specs.Properties as property
use Rattle.cim_words.specs.declared.statement.Statement.{Statement}
use Rattle.cim_model.specs.Model.{is_naming, is_of, naming}
use Rattle.cim_model.specs.Network.{has_sides, terminals_by_side}
use Rattle.cim_model.specs.Profile.{IsFaultless}
use Rattle.cim_model.specs.Stated.{terminals_at, terminals_of}
use Rattle.cim_model.specs.Values.{as_id}
use Rattle.cim_records.specs.Found.{known_of, members}
use Rattle.cim_records.specs.Gathered.{gathered, is_taken, leads, property_of}
use Rattle.cim_records.specs.Subject.{records}
use Rattle.cim_records.specs.declared.gathering.Gathering.{Gathering}
use Rattle.cim_records.specs.declared.gathering.Gathering.TheVariants.{FirstTerminals, OtherTerminals, NodeTerminals}
use Rattle.cim_records.specs.declared.subject.Subject.{Subject}
use Rattle.cim_records.proofs.Known.{is_known, number_known}
use Rattle.cim_records.proofs.Sides.{is_first, terminals_parted}

-- ---- one statement more

module _ (gathering : Gathering) (subjects : List (Id × Subject)) (x : ℕ) where
  abbrev gathers : List Statement → List ℕ
  gathers list = gathered gathering subjects list x

  pub unnamed : (s : Statement) (after : List Statement) → is_naming (property_of gathering) x s ≡ false → gathers (s ∷ after) ≡ gathers after
  unnamed s after names = rw names refl

  untaken_by : (s : Statement) (after : List Statement) (key : ℕ) (b : Bool) → is_naming (property_of gathering) x s ≡ b → (key == x) ≡ b
      → is_taken gathering (known_of subjects key) (known_of subjects s.subject.number) ≡ false → gathers (s ∷ after) ≡ gathers after
  untaken_by s after key false names same untakable = rw names refl
  untaken_by s after key true names same untakable =
      let is : key ≡ x = eqb-true key x same in
      rw (names, ap (λ (n : ℕ). is_taken gathering (known_of subjects n) (known_of subjects s.subject.number)) (sym is) ∙ untakable) refl

  pub untaken : (s : Statement) (after : List Statement) (key : ℕ) → (key == x) ≡ is_naming (property_of gathering) x s
      → is_taken gathering (known_of subjects key) (known_of subjects s.subject.number) ≡ false → gathers (s ∷ after) ≡ gathers after
  untaken s after key = untaken_by s after key (is_naming (property_of gathering) x s) refl

  -- a statement of which nothing is gathered
  pub passed_by : (left after : List Statement) (s : Statement) (held all : List Id) → left ≡ s ∷ after → gathers (s ∷ after) ≡ gathers after
      → held ++ map as_id (gathers left) ≡ all → held ++ map as_id (gathers after) ≡ all
  passed_by left after s held all at same so_far = ap (λ (ids : List ℕ). held ++ map as_id ids) (sym (ap gathers at ∙ same)) ∙ so_far

  added_by : (s : Statement) (after : List Statement) (key : ℕ) (held now : List Id) (b : Bool) → is_naming (property_of gathering) x s ≡ b → (key == x) ≡ b
      → is_taken gathering (known_of subjects key) (known_of subjects s.subject.number) ≡ true → now ≡ (if b then held ++ s.subject ∷ [] else held)
      → now ++ map as_id (gathers after) ≡ held ++ map as_id (gathers (s ∷ after))
  added_by s after key held now false names same takable added = rw (added, names) refl
  added_by s after key held now true names same takable added =
      let is : key ≡ x = eqb-true key x same in
      let first : gathers (s ∷ after) ≡ s.subject.number ∷ gathers after
      = rw (names, ap (λ (n : ℕ). is_taken gathering (known_of subjects n) (known_of subjects s.subject.number)) (sym is) ∙ takable) refl in
      ap (λ (ids : List Id). ids ++ map as_id (gathers after)) added
      ∙ append_assoc held (s.subject ∷ []) (map as_id (gathers after))
      ∙ ap (λ (ids : List ℕ). held ++ map as_id ids) (sym first)

  -- a statement whose subject is gathered
  pub gathered_more : (left after : List Statement) (s : Statement) (key : ℕ) (held now all : List Id) → left ≡ s ∷ after → (key == x) ≡ is_naming (property_of gathering) x s
      → is_taken gathering (known_of subjects key) (known_of subjects s.subject.number) ≡ true → now ≡ (if x == key then held ++ s.subject ∷ [] else held)
      → held ++ map as_id (gathers left) ≡ all → now ++ map as_id (gathers after) ≡ all
  gathered_more left after s key held now all at names takable added so_far =
      added_by s after key held now (is_naming (property_of gathering) x s) refl names takable (added ∙ ap (λ (b : Bool). if b then held ++ s.subject ∷ [] else held) (equal_turned x key ∙ names))
      ∙ ap (λ (list : List Statement). held ++ map as_id (gathers list)) (sym at)
      ∙ so_far

  append_nil : (ids : List Id) → ids ++ [] ≡ ids
  append_nil ids = search rules

  pub all_gathered : (left : List Statement) (held all : List Id) → left ≡ [] → held ++ map as_id (gathers left) ≡ all → held ≡ all
  all_gathered left held all none so_far = sym (append_nil held) ∙ ap (λ (list : List Statement). held ++ map as_id (gathers list)) (sym none) ∙ so_far

-- ---- in a model without fault

module _ (m : List Statement) (faultless : IsFaultless m) (x : ℕ) where
  abbrev leading : ℕ → Bool
  leading t = is_of m has_sides x && is_first m t

  leads_is : (t : ℕ) → leads (known_of (records m) x) (known_of (records m) t) ≡ leading t
  leads_is t = rw (is_known m faultless x has_sides, number_known m faultless t) (and_comm (is_first m t) (is_of m has_sides x))

  first_taken : (t : ℕ) → is_taken FirstTerminals (known_of (records m) x) (known_of (records m) t) ≡ (is_of m is_terminal t && leading t)
  first_taken t = ap (λ (b : Bool). b && leads (known_of (records m) x) (known_of (records m) t)) (is_known m faultless t is_terminal) ∙ ap (λ (b : Bool). is_of m is_terminal t && b) (leads_is t)

  other_taken : (t : ℕ) → is_taken OtherTerminals (known_of (records m) x) (known_of (records m) t) ≡ (is_of m is_terminal t && not (leading t))
  other_taken t = ap (λ (b : Bool). b && not (leads (known_of (records m) x) (known_of (records m) t))) (is_known m faultless t is_terminal) ∙ ap (λ (b : Bool). is_of m is_terminal t && not b) (leads_is t)

  sides_gathered : gathered FirstTerminals (records m) m x ++ gathered OtherTerminals (records m) m x ≡ terminals_by_side m x
  sides_gathered =
      ap (λ (ts : List ℕ). ts ++ gathered OtherTerminals (records m) m x) (filter_agree _ _ first_taken (naming m property.conducting_equipment x) ∙ sym (filter_twice leading (is_of m is_terminal) (naming m property.conducting_equipment x)))
      ∙ ap (λ (ts : List ℕ). filter leading (terminals_of m x) ++ ts) (filter_agree _ _ other_taken (naming m property.conducting_equipment x) ∙ sym (filter_twice (λ t. not (leading t)) (is_of m is_terminal) (naming m property.conducting_equipment x)))
      ∙ sym (terminals_parted m faultless x)

  -- the terminals 1 of what has sides, and after them all others
  pub terminals_gathered : (subjects : List (Id × Subject)) (none first second : List (Id × List Id)) → subjects ≡ records m → none ≡ [] → members first x ≡ members none x ++ map as_id (gathered FirstTerminals subjects m x)
      → members second x ≡ members first x ++ map as_id (gathered OtherTerminals subjects m x) → members second x ≡ map as_id (terminals_by_side m x)
  terminals_gathered subjects none first second are empty one two =
      two
      ∙ rw (one, are, empty) refl
      ∙ sym (map-append as_id (gathered FirstTerminals (records m) m x) (gathered OtherTerminals (records m) m x))
      ∙ ap (map as_id) sides_gathered

  pub node_gathered : (subjects : List (Id × Subject)) (none first : List (Id × List Id)) → subjects ≡ records m → none ≡ [] → members first x ≡ members none x ++ map as_id (gathered NodeTerminals subjects m x) → members first x ≡ map as_id (terminals_at m x)
  node_gathered subjects none first are empty one =
      one ∙ rw (are, empty) refl ∙ ap (map as_id) (filter_agree _ _ (λ t. is_known m faultless t is_terminal) (naming m property.connectivity_node x))
