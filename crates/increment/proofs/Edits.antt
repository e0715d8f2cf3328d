-- What is put into a map key by key, and a graph whose touched entries are put.
use Rattle.std.proofs.Common.{◌≡◌, ◌↔◌, ℕ, ◌⊎◌, inl, inr, List, [], ◌∷◌, ◌++◌, Bool, true, false, ◌==◌, cond, IsTrue, Option, Contains, refl, sym, ◌∙◌, subst}
use Rattle.std.proofs.lemmas.Bool.{eq-eqb, eqb-true}
use Rattle.std.proofs.lemmas.List.Elements.{Contains-append_left, Contains-append_right, Contains-push_cases}
use Rattle.plain_laws.proofs.Members.{contains_cases, contains_first, contains_nothing, contains_rest}
use Rattle.cim_words.specs.declared.statement.Statement.{Statement}
use Rattle.graph_pages.specs.Graph.{GraphView, members_of, star_of}
use Rattle.graph_pages.specs.declared.star.Star.{Star}
use Rattle.link_rules.specs.Map.{IsEntry, IsMap, IsStarAt}
use Rattle.room_words.specs.Terms.{same_anchor}
use Rattle.room_words.specs.declared.anchor.Anchor.{Anchor}
use Rattle.room_words.specs.declared.overlay.Overlay.{Overlay}
use Rattle.room_words.specs.declared.term.Term.{Term}
use Rattle.increment.specs.Edits.{ArePut, HasMembersPut, HasStarsPut}

-- a test tells keys apart
abbrev pub AreTold : {K : Type 0} → (K → K → Bool) → Type 0
AreTold {K} same = (a b : K) → IsTrue (same a b) ↔ (a ≡ b)

pub numbers_told : AreTold ◌==◌
numbers_told a b = (eqb-true a b, eq-eqb a b)

same_or_not : {K : Type 0} (same : K → K → Bool) → AreTold same → (a b : K) (r : Bool) → same a b ≡ r → (a ≡ b) ⊎ ¬ (a ≡ b)
same_or_not same told a b true is = inl ((told a b).0 is)
same_or_not same told a b false is = inr (λ e. let yes = (told a b).1 e in absurd cc)

listed_or_not : {K : Type 0} (same : K → K → Bool) → AreTold same → (keys : List K) (key : K) → Contains keys key ⊎ ¬ (Contains keys key)
listed_or_not same told [] key = inr (contains_nothing key)
listed_or_not same told (k ∷ keys) key = elim (same_or_not same told k key (same k key) refl) [
  | inl here ↦ inl (subst (Contains (k ∷ keys)) here (contains_first k keys))
  | inr other ↦ (elim (listed_or_not same told keys key) [
    | inl there ↦ inl (contains_rest k keys key there)
    | inr absent ↦ inr (λ h. elim (contains_cases k keys key h) [ inl here ↦ other here | inr there ↦ absent there ])
  ])
]

-- ---- one key more

chosen : {V : Type 0} (b : Bool) (value other : V) → b ≡ true → cond b value other ≡ value
chosen true value other is = refl
chosen false value other is = absurd cc

passed : {V : Type 0} (b : Bool) (value other : V) → ¬ (b ≡ true) → cond b value other ≡ other
passed true value other is = absurd (is refl)
passed false value other is = refl

only : {K : Type 0} (key k : K) → Contains (key ∷ []) k → key ≡ k
only key k there = elim (contains_cases key [] k there) [ inl here ↦ here | inr none ↦ contains_nothing k none ]

pub one_put : {K V : Type 0} (R : K → V → Type 0) (same : K → K → Bool) (key : K) (value : V) (before now : K → V)
    → AreTold same → R key value → ((k : K) → now k ≡ cond (same key k) value (before k)) → ArePut R (key ∷ []) before now
one_put R same key value before now told is puts = record {
  right = λ k there.
      let here : key ≡ k = only key k there in
      subst (λ (k : _). R k (now k)) here (subst (R key) (sym (puts key ∙ chosen (same key key) value (before key) ((told key key).1 refl))) is);
  others = λ k absent.
      puts k ∙ passed (same key k) value (before k) (λ yes. absent (subst (Contains (key ∷ [])) ((told key k).0 yes) (contains_first key [])));
}

pub more_put : {K V : Type 0} (R : K → V → Type 0) (same : K → K → Bool) (keys : List K) (key : K) (a b c : K → V)
    → AreTold same → ArePut R keys a b → ArePut R (key ∷ []) b c → ArePut R (keys ++ key ∷ []) a c
more_put R same keys key a b c told before last = record {
  right = λ k there. elim (same_or_not same told key k (same key k) refl) [
    | inl here ↦ last.right k (subst (Contains (key ∷ [])) here (contains_first key []))
    | inr other ↦ (elim (Contains-push_cases keys key k there) [
      | inl earlier ↦ subst (R k) (sym (last.others k (λ h. other (only key k h)))) (before.right k earlier)
      | inr here ↦ absurd (other here)
    ])
  ];
  others = λ k absent.
      last.others k (λ there. absent (Contains-append_right keys (key ∷ []) k there)) ∙ before.others k (λ there. absent (Contains-append_left keys (key ∷ []) k there));
}

-- what was right by another rule, and by this one at all other keys, is right by this one at all keys
pub all_right : {K V : Type 0} (Was IsRight : K → V → Type 0) (same : K → K → Bool) (keys : List K) (before now : K → V)
    → AreTold same → ((k : K) → Was k (before k)) → ((k : K) → ¬ (Contains keys k) → (v : V) → Was k v → IsRight k v) → ArePut IsRight keys before now → (k : K) → IsRight k (now k)
all_right Was IsRight same keys before now told was stays put k = elim (listed_or_not same told keys k) [
  | inl there ↦ put.right k there
  | inr absent ↦ subst (IsRight k) (sym (put.others k absent)) (stays k absent (before k) (was k))
]

-- ---- entry after entry

pub members_put : (m : List Statement) (o : Overlay) (place : Anchor) (members : Option (List Term)) (before now : GraphView) → AreTold same_anchor → IsEntry m o place members
    → ((other : Anchor) → members_of now other ≡ cond (same_anchor place other) members (members_of before other)) → ((x : ℕ) → star_of now x ≡ star_of before x)
    → HasMembersPut m o (place ∷ []) before now
members_put m o place members before now told is puts stars = record {
  places = one_put (IsEntry m o) same_anchor place members (members_of before) (members_of now) told is puts;
  stars = stars;
}

pub next_star_put : (m : List Statement) (o : Overlay) (xs : List ℕ) (x : ℕ) (a b c : GraphView) → HasStarsPut m o xs a b → HasStarsPut m o (x ∷ []) b c → HasStarsPut m o (xs ++ x ∷ []) a c
next_star_put m o xs x a b c before last = record {
  stars = more_put (IsStarAt m o) ◌==◌ xs x (star_of a) (star_of b) (star_of c) numbers_told before.stars last.stars;
  places = λ place. last.places place ∙ before.places place;
}

pub next_members_put : (m : List Statement) (o : Overlay) (places : List Anchor) (place : Anchor) (a b c : GraphView) → AreTold same_anchor
    → HasMembersPut m o places a b → HasMembersPut m o (place ∷ []) b c → HasMembersPut m o (places ++ place ∷ []) a c
next_members_put m o places place a b c told before last = record {
  places = more_put (IsEntry m o) same_anchor places place (members_of a) (members_of b) (members_of c) told before.places last.places;
  stars = λ x. last.stars x ∙ before.stars x;
}

-- ---- the whole

-- where the entries that differ under another overlay are put, the graph is the one under it
pub all_put : (m : List Statement) (o p : Overlay) (xs : List ℕ) (places : List Anchor) (a b c : GraphView) → AreTold same_anchor → IsMap m o a
    → ((x : ℕ) → ¬ (Contains xs x) → (star : Option Star) → IsStarAt m o x star → IsStarAt m p x star)
    → ((place : Anchor) → ¬ (Contains places place) → (members : Option (List Term)) → IsEntry m o place members → IsEntry m p place members)
    → HasStarsPut m p xs a b → HasMembersPut m p places b c → IsMap m p c
all_put m o p xs places a b c told was stars_stay places_stay stars members = record {
  stars = λ x. subst (IsStarAt m p x) (sym (members.stars x))
      (all_right (IsStarAt m o) (IsStarAt m p) ◌==◌ xs (star_of a) (star_of b) numbers_told was.stars stars_stay stars.stars x);
  places =
      all_right (IsEntry m o) (IsEntry m p) same_anchor places (members_of b) (members_of c) told
      (λ place. subst (IsEntry m o place) (sym (stars.places place)) (was.places place)) places_stay members.places;
}
