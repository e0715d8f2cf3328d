-- The phases that phase objects state, gathered statement by statement.
use Rattle.std.proofs.Common.{◌≡◌, ℕ, ◌+◌, ◌<◌, ◌==◌, List, [], ◌∷◌, ◌++◌, map, length, take, get_or, Bool, true, false, Option, Some, None, refl, ap, sym, ◌∙◌, rules}
use Rattle.std.specs.Prelude.{if◌then◌else◌}
use Rattle.std.specs.List.{filter, filter_map}
use Rattle.std.proofs.lemmas.List.{map-append, take_more}
use Rattle.std.proofs.lemmas.List.Elements.{filter-append, filter_agree, filter_map-append}
use Rattle.plain_laws.proofs.Filters.{filter_map_same}
use Rattle.plain_laws.proofs.Numbers.{equal_turned}
use Rattle.cim_words.specs.Groups.{counts_on}
use Rattle.cim_words.specs.declared.identifier.Id.{Id}
use Rattle.cim_words.specs.declared.known_prop.KnownProp.{KnownProp}
use Rattle.cim_words.specs.Properties as property
use Rattle.cim_words.specs.declared.phases.PhaseSet.{PhaseSet}
use Rattle.cim_words.specs.declared.statement.Statement.{Statement}
use Rattle.cim_model.specs.Model.{counts, is_naming, naming}
use Rattle.cim_model.specs.Network.{is_class, naming_by, part_phase, part_phases}
use Rattle.cim_model.specs.Profile.{IsFaultless}
use Rattle.cim_records.specs.Found.{found, known_of}
use Rattle.cim_records.specs.Joined.{join_all, join_one, stated_by}
use Rattle.cim_records.specs.Subject.{records}
use Rattle.cim_records.specs.Tables.{union_of}
use Rattle.cim_records.specs.declared.subject.Subject.{Subject}
use Rattle.cim_records.proofs.Known.{is_known, phase_known}
use Rattle.cim_records.proofs.Phases.{join_append, joined_is}

-- ---- one statement more

module _ (subjects : List (Id × Subject)) (k : KnownProp) (x : ℕ) where
  abbrev counted : ℕ → Bool
  counted y = is_class (counts_on k) (known_of subjects y).class

  abbrev phase : ℕ → Option PhaseSet
  phase y = (known_of subjects y).phase

  stated_append : (done more : List Statement) → stated_by subjects (done ++ more) k x ≡ stated_by subjects done k x ++ stated_by subjects more k x
  stated_append done more =
      ap (λ (list : List Statement). filter_map phase (filter counted (map (λ (s : Statement). s.subject.number) list))) (filter-append (is_naming k x) done more)
      ∙ ap (λ (list : List ℕ). filter_map phase (filter counted list)) (map-append (λ (s : Statement). s.subject.number) (filter (is_naming k x) done) (filter (is_naming k x) more))
      ∙ ap (filter_map phase) (filter-append counted (naming done k x) (naming more k x))
      ∙ filter_map-append phase (filter counted (naming done k x)) (filter counted (naming more k x))

  stated_next : (m : List Statement) (i : ℕ) (s : Statement) → i < length m → s ≡ get_or m i s → stated_by subjects (take (i + 1) m) k x ≡ stated_by subjects (take i m) k x ++ stated_by subjects (s ∷ []) k x
  stated_next m i s within is =
      ap (λ (list : List Statement). stated_by subjects list k x) (take_more m i s within ∙ ap (λ (t : Statement). take i m ++ t ∷ []) (sym is)) ∙ stated_append (take i m) (s ∷ [])

  silent_one : (s : Statement) (b c : Bool) → is_naming k x s ≡ b → counted s.subject.number ≡ c → phase s.subject.number ≡ None → stated_by subjects (s ∷ []) k x ≡ []
  silent_one s false c names is none = rw names refl
  silent_one s true false names is none = rw (names, is) refl
  silent_one s true true names is none = rw (names, is, none) refl

  stating_one : (s : Statement) (b : Bool) (v : PhaseSet) → is_naming k x s ≡ b → counted s.subject.number ≡ true → phase s.subject.number ≡ Some v → stated_by subjects (s ∷ []) k x ≡ (if b then v ∷ [] else [])
  stating_one s true v names is some = rw (names, is, some) refl
  stating_one s false v names is some = rw names refl

  append_nothing : (sets : List PhaseSet) → sets ++ [] ≡ sets
  append_nothing sets = search rules

  -- one statement more, of which nothing is stated
  pub silent_past : (m : List Statement) (i : ℕ) (s : Statement) (first old : Option PhaseSet) → i < length m → s ≡ get_or m i s → stated_by subjects (s ∷ []) k x ≡ []
      → old ≡ join_all first (stated_by subjects (take i m) k x) → old ≡ join_all first (stated_by subjects (take (i + 1) m) k x)
  silent_past m i s first old within is silent so_far =
      so_far ∙ ap (join_all first) (sym (stated_next m i s within is ∙ ap (λ (sets : List PhaseSet). stated_by subjects (take i m) k x ++ sets) silent ∙ append_nothing _))

  pub unnamed_one : (s : Statement) → is_naming k x s ≡ false → stated_by subjects (s ∷ []) k x ≡ []
  unnamed_one s names = rw names refl

  uncounted : (s : Statement) (b : Bool) → is_naming k x s ≡ b → counted s.subject.number ≡ false → stated_by subjects (s ∷ []) k x ≡ []
  uncounted s false names is = rw names refl
  uncounted s true names is = rw (names, is) refl

  pub uncounted_one : (s : Statement) → counted s.subject.number ≡ false → stated_by subjects (s ∷ []) k x ≡ []
  uncounted_one s = uncounted s (is_naming k x s) refl

  pub phaseless_one : (s : Statement) → phase s.subject.number ≡ None → stated_by subjects (s ∷ []) k x ≡ []
  phaseless_one s none = silent_one s (is_naming k x s) (counted s.subject.number) refl refl none

  join_one_more : (old : Option PhaseSet) (v : PhaseSet) (b : Bool) → (if b then Some (join_one old v) else old) ≡ join_all old (if b then v ∷ [] else [])
  join_one_more old v true = refl
  join_one_more old v false = refl

  pub joined_more : (m : List Statement) (i : ℕ) (s : Statement) (id : Id) (v : PhaseSet) (first old now : Option PhaseSet) → i < length m → s ≡ get_or m i s → (id.number == x) ≡ is_naming k x s
      → counted s.subject.number ≡ true → phase s.subject.number ≡ Some v → old ≡ join_all first (stated_by subjects (take i m) k x)
      → now ≡ (if x == id.number then Some (join_one old v) else old) → now ≡ join_all first (stated_by subjects (take (i + 1) m) k x)
  joined_more m i s id v first old now within is names counts_here some so_far added =
      added
      ∙ ap (λ (b : Bool). if b then Some (join_one old v) else old) (equal_turned x id.number ∙ names)
      ∙ join_one_more old v (is_naming k x s)
      ∙ ap (λ (sets : List PhaseSet). join_all old sets) (sym (stating_one s (is_naming k x s) v refl counts_here some))
      ∙ ap (λ (o : Option PhaseSet). join_all o (stated_by subjects (s ∷ []) k x)) so_far
      ∙ sym (join_append first (stated_by subjects (take i m) k x) (stated_by subjects (s ∷ []) k x))
      ∙ ap (join_all first) (sym (stated_next m i s within is))

-- ---- in a model without fault

module _ (m : List Statement) (faultless : IsFaultless m) (x : ℕ) where
  stated_is : (k : KnownProp) → stated_by (records m) m k x ≡ filter_map (part_phase m) (naming_by m k x)
  stated_is k =
      ap (filter_map (phase (records m) k x)) (filter_agree (counted (records m) k x) (λ y. counts m y k) (λ y. is_known m faultless y (counts_on k)) (naming m k x))
      ∙ filter_map_same (phase (records m) k x) (part_phase m) (λ y. phase_known m faultless y) (naming_by m k x)

  all_stated : part_phases m x ≡ stated_by (records m) m property.segment_of_phase x ++ stated_by (records m) m property.consumer_of_phase x ++ stated_by (records m) m property.switch_of_phase x
  all_stated =
      filter_map-append (part_phase m) (naming_by m property.segment_of_phase x ++ naming_by m property.consumer_of_phase x) (naming_by m property.switch_of_phase x)
      ∙ ap (λ (sets : List PhaseSet). sets ++ filter_map (part_phase m) (naming_by m property.switch_of_phase x)) (filter_map-append (part_phase m) (naming_by m property.segment_of_phase x) (naming_by m property.consumer_of_phase x))
      ∙ rw (stated_is property.segment_of_phase, stated_is property.consumer_of_phase, stated_is property.switch_of_phase) refl

  joined_in_turn : (first second third : Option PhaseSet) → first ≡ join_all None (stated_by (records m) m property.segment_of_phase x) → second ≡ join_all first (stated_by (records m) m property.consumer_of_phase x)
      → third ≡ join_all second (stated_by (records m) m property.switch_of_phase x) → third ≡ union_of (part_phases m x)
  joined_in_turn first second third one two three =
      three
      ∙ ap (λ (o : Option PhaseSet). join_all o (stated_by (records m) m property.switch_of_phase x)) (two ∙ ap (λ (o : Option PhaseSet). join_all o (stated_by (records m) m property.consumer_of_phase x)) one ∙ sym (join_append None (stated_by (records m) m property.segment_of_phase x) (stated_by (records m) m property.consumer_of_phase x)))
      ∙ sym (join_append None (stated_by (records m) m property.segment_of_phase x ++ stated_by (records m) m property.consumer_of_phase x) (stated_by (records m) m property.switch_of_phase x))
      ∙ ap (join_all None) (sym all_stated)
      ∙ joined_is (part_phases m x)

  -- the phases of the phase objects of each kind, joined one kind after the other
  pub all_joined : (subjects : List (Id × Subject)) (none : List (Id × PhaseSet)) (first second third : Option PhaseSet) → subjects ≡ records m → none ≡ []
      → first ≡ join_all (found none x) (stated_by subjects m property.segment_of_phase x) → second ≡ join_all first (stated_by subjects m property.consumer_of_phase x) → third ≡ join_all second (stated_by subjects m property.switch_of_phase x) → third ≡ union_of (part_phases m x)
  all_joined subjects none first second third are empty one two three =
      joined_in_turn first second third (one ∙ rw (are, empty) refl) (two ∙ rw are refl) (three ∙ rw are refl)
