-- What a look asks of a reader's seat, and what it leaves.
use Rattle.std.proofs.Common.{◌≡◌, ℕ, ◌+◌, ◌≤◌, Bool, true, false, cond, List, [], ◌∷◌, ◌++◌, length, sym, refl, ap, ◌∙◌, subst, arith, Option, Some, None, length-append}
use mathlib.Core.Option.{none}
use Rattle.atomic_table.specs.Table.{Me, step, Allows}
use Rattle.board.specs.declared.views.Knows.{Knows}
use Rattle.board.specs.declared.views.Watching.{Watching}
use Rattle.board.specs.declared.reader.front.Front.{Front}
use Rattle.board.specs.Lists.{last_or}
use Rattle.board.specs.Word.{number_in, is_fresh}
use Rattle.board.specs.Views.{founds_of, newest, as_reader}
use Rattle.board.specs.Rule.{Stands}
use Rattle.board.specs.Steps.{looks}
use Rattle.board.specs.Held.{IsWatching, IsPending, watching}
use Rattle.board.specs.Fronts.{version_of, IsReader}
use Rattle.board.proofs.Prefixes.{prefix_length, prefix_whole, last_snoc}
use Rattle.board.proofs.ReaderSteps.{looks_allowed}

module _ {V I O : Type 0} (log : V → List I) (origin : V → O) where
  abbrev M : Type 0
  M = Me (Option V) (Knows I O)

  pub can_look : (slots id : ℕ) (m : M) (console : ℕ) (held : Option (Front V)) → IsReader log origin m console held → Allows (Stands log origin) slots id m console (λ n. n) (looks (step slots console 0 0 none) m)
  can_look slots id m console held h = looks_allowed log origin slots id m (watching console (founds_of m.0.role) h.front.slot h.front.number) h.watches.role

  -- a reader that looked and found nothing fresh
  pub record IsStale (m m' : M) (console : ℕ) (held : Option (Front V)) : Type 0 where
    pub reader : IsReader log origin m' console held
    pub number : ℕ
    pub founds : founds_of m'.0.role ≡ founds_of m.0.role ++ number ∷ []
    pub seen : length m.0.list ≤ number
    pub most : number ≤ length m'.0.list
    pub list : m'.0.list ≡ m.0.list
    pub whole : (v : V) × (version_of held ≡ Some v) × (log v ≡ m'.0.list)
    pub began : m'.0.origin ≡ m.0.origin

  pub stale : (slots : ℕ) (m m' : M) (console found : ℕ) (held : Option (Front V)) → IsReader log origin m console held → looks (step slots console 0 0 none) m found m' → is_fresh found ≡ false → IsStale m m' console held
  stale slots m m' console found held h then old =
      let f : Front V = h.front in
      let w = h.watches in
      let q : Watching = watching console (founds_of m.0.role) f.slot f.number in
      let t = then q w.role in
      let F : Bool → M = λ b. (as_reader m.0 (record q { founds = q.founds ++ cond b (number_in found) q.number ∷ []; pending = b }), m.1) in
      let after : m' ≡ F false = t.0 ∙ ap F old in
      let seen : length m.0.list ≤ f.number = (let l = t.1 in let e : newest found q ≡ f.number = ap (λ b. cond b (number_in found) q.number) old in omega arith) in
      let long : length (log f.version) ≡ f.number = w.is_version.numbered in
      let there : IsStale m (F false) console held = record {
        reader = record {
          front = f;
          held_is = h.held_is;
          watches = record {
            role = refl;
            settled = w.settled;
            small = w.small;
            carried = w.carried;
            is_version = record { begins = w.is_version.begins; numbered = w.is_version.numbered; began_there = w.is_version.began_there };
          };
        };
        number = f.number;
        founds = refl;
        seen = seen;
        most = let l = prefix_length (log f.version) m.0.list w.is_version.begins in omega arith;
        list = refl;
        whole = (f.version, ap version_of h.held_is, prefix_whole (log f.version) m.0.list w.is_version.begins (omega arith));
        began = refl;
      } in
      subst (λ (z : M). IsStale m z console held) (sym after) there

  -- a reader that looked and found something fresh
  pub record IsFound (m m' : M) (console found : ℕ) (f : Front V) : Type 0 where
    pub pending : IsPending log origin m' console (founds_of m'.0.role) f.slot f.number f.version
    pub founds : founds_of m'.0.role ≡ founds_of m.0.role ++ number_in found ∷ []
    pub seen : length m.0.list ≤ number_in found
    pub list : m'.0.list ≡ m.0.list
    pub began : m'.0.origin ≡ m.0.origin

  abbrev front_or : Front V → Option (Front V) → Front V
  front_or d (Some f) = f
  front_or d None = d

  pub fresh : (slots : ℕ) (m m' : M) (console found : ℕ) (held : Option (Front V)) (f : Front V) → IsReader log origin m console held → held ≡ Some f → looks (step slots console 0 0 none) m found m' → is_fresh found ≡ true → IsFound m m' console found f
  fresh slots m m' console found held f h held_is then new =
      let same : h.front ≡ f = ap (front_or f) (sym h.held_is ∙ held_is) in
      let w : IsWatching log origin m console (founds_of m.0.role) f.slot f.number f.version = subst (λ (z : Front V). IsWatching log origin m console (founds_of m.0.role) z.slot z.number z.version) same h.watches in
      let q : Watching = watching console (founds_of m.0.role) f.slot f.number in
      let t = then q w.role in
      let F : Bool → M = λ b. (as_reader m.0 (record q { founds = q.founds ++ cond b (number_in found) q.number ∷ []; pending = b }), m.1) in
      let after : m' ≡ F true = t.0 ∙ ap F new in
      let there : IsFound m (F true) console found f = record {
        pending = record {
          role = refl;
          settled = w.settled;
          small = w.small;
          carried = w.carried;
          is_version = record { begins = w.is_version.begins; numbered = w.is_version.numbered; began_there = w.is_version.began_there };
        };
        founds = refl;
        seen = let l = t.1 in let e : newest found q ≡ number_in found = ap (λ b. cond b (number_in found) q.number) new in omega arith;
        list = refl;
        began = refl;
      } in
      subst (λ (z : M). IsFound m z console found f) (sym after) there

  -- the same reader once it has collected
  pub holds : (m m' : M) (console : ℕ) (f : Front V) → IsWatching log origin m' console (founds_of m.0.role) f.slot f.number f.version → IsReader log origin m' console (Some f)
  holds m m' console f w = record { front = f; held_is = refl; watches = subst (λ (l : List ℕ). IsWatching log origin m' console l f.slot f.number f.version) (ap founds_of (sym w.role)) w }

  pub founds_stay : (m m' : M) (console : ℕ) (f : Front V) → IsWatching log origin m' console (founds_of m.0.role) f.slot f.number f.version → founds_of m'.0.role ≡ founds_of m.0.role
  founds_stay m m' console f w = ap founds_of w.role

  pub last_found : (founds before : List ℕ) (n k : ℕ) → founds ≡ before ++ n ∷ [] → last_or 0 founds ≤ k → n ≤ k
  last_found founds before n k is l = let e : last_or 0 founds ≡ n = ap (last_or 0) is ∙ last_snoc 0 before n in omega arith

  pub one_longer : (founds before : List ℕ) (n k : ℕ) → founds ≡ before ++ n ∷ [] → k ≡ length before → k + 1 ≡ length founds
  one_longer founds before n k is e = let f : length founds ≡ length (before ++ n ∷ []) = ap length is in omega (arith, length-append before (n ∷ []))
