-- What a reader that learns, and a writer that meets a reader, ask of their seats, and what they leave.
use Rattle.std.proofs.Common.{◌≡◌, ◌≢◌, ℕ, ◌<◌, List, [], ◌∷◌, ◌++◌, length, sym, refl, ap, ◌∙◌, subst, arith, Option, All}
use mathlib.Core.Option.{none}
use Rattle.std.proofs.lemmas.List.Elements.{All-head, All-tail}
use Rattle.atomic_table.specs.Table.{Me, step, Allows, Joins, Splits}
use Rattle.board.specs.declared.views.Knows.{Knows}
use Rattle.board.specs.declared.views.Old.{Old}
use Rattle.board.specs.declared.views.Watching.{Watching}
use Rattle.board.specs.declared.views.Role.TheVariants.{Spent, Note, Copy}
use Rattle.board.specs.declared.reader.front.Front.{Front}
use Rattle.board.specs.Lists.{IsPrefix, longer}
use Rattle.board.specs.Views.{founds_of, informed, compared, with_role, spent, old_of, settled}
use Rattle.board.specs.Rule.{Stands}
use Rattle.board.specs.Steps.{settles, leaves}
use Rattle.board.specs.Held.{IsSending, IsNote, watching}
use Rattle.board.specs.Fronts.{IsReader}
use Rattle.board.proofs.Prefixes.{prefix_trans}
use Rattle.board.proofs.ReaderSteps.{reader_settles, leaves_allowed}
use Rattle.board.proofs.WriterSteps.{writer_settles}
use Rattle.board.proofs.ViewSteps.{learns, compares, notes, copies}

module _ {V I O : Type 0} (log : V → List I) (origin : V → O) where
  abbrev M : Type 0
  M = Me (Option V) (Knows I O)

  abbrev role_of : (m : M) (console : ℕ) (held : Option (Front V)) → IsReader log origin m console held → Watching
  role_of m console held h = watching console (founds_of m.0.role) h.front.slot h.front.number

  pub can_learn : (id other : ℕ) (m n : M) (console : ℕ) (held : Option (Front V)) → IsReader log origin m console held → IsNote log origin n → Joins (Stands log origin) id m.0 other n.0 (informed m.0 n.0) spent
  can_learn id other m n console held h note = learns log origin id m.0 (role_of m console held h) other n.0 h.watches.role note.role

  pub can_settle : (slots id : ℕ) (m m' n : M) (console : ℕ) (held : Option (Front V)) → IsReader log origin m console held → m' ≡ (informed m.0 n.0, m.1)
      → Allows (Stands log origin) slots id m' console (λ k. k) (settles (step slots console 0 0 none) m')
  can_settle slots id m m' n console held h now =
      let at_joined : M = (informed m.0 n.0, m.1) in
      subst (λ (z : M). Allows (Stands log origin) slots id z console (λ k. k) (settles (step slots console 0 0 none) z)) (sym now) (reader_settles log origin slots id at_joined (role_of m console held h) h.watches.role)

  pub record IsLearned (m n m' : M) (console : ℕ) (held : Option (Front V)) : Type 0 where
    pub reader : IsReader log origin m' console held
    pub founds : founds_of m'.0.role ≡ founds_of m.0.role
    pub list : m'.0.list ≡ longer m.0.list n.0.list
    pub before : IsPrefix m.0.list m'.0.list
    pub noted : IsPrefix n.0.list m'.0.list
    pub origins : n.0.origin ≡ m.0.origin
    pub began : m'.0.origin ≡ m.0.origin

  learned_at : (slots : ℕ) (m n m' : M) (console found : ℕ) (held : Option (Front V)) → IsReader log origin m console held → settles (step slots console 0 0 none) (informed m.0 n.0, m.1) found m' → IsLearned m n m' console held
  learned_at slots m n m' console found held h then =
      let w = h.watches in
      let list : List I = longer m.0.list n.0.list in
      let after : M = (settled (informed m.0 n.0), m.1) in
      let P : Old I O → Type 0 = λ y. IsPrefix y.list list × (y.origin ≡ m.0.origin) in
      let two : All P (old_of m.0 ∷ old_of n.0 ∷ []) = subst (λ (l : List (Old I O)). All P (l ++ old_of m.0 ∷ old_of n.0 ∷ [])) w.settled then.1 in
      let mine = All-head P (old_of m.0) (old_of n.0 ∷ []) two in
      let told = All-head P (old_of n.0) [] (All-tail P (old_of m.0) (old_of n.0 ∷ []) two) in
      let there : IsLearned m n after console held = record {
        reader = record {
          front = h.front;
          held_is = h.held_is;
          watches = record {
            role = w.role;
            settled = refl;
            small = w.small;
            carried = w.carried;
            is_version = record { begins = prefix_trans (log h.front.version) m.0.list list w.is_version.begins mine.0; numbered = w.is_version.numbered; began_there = w.is_version.began_there };
          };
        };
        founds = refl;
        list = refl;
        before = mine.0;
        noted = told.0;
        origins = told.1;
        began = refl;
      } in
      subst (λ (z : M). IsLearned m n z console held) (sym then.0) there

  pub learned : (slots : ℕ) (m n j m' : M) (console found : ℕ) (held : Option (Front V)) → IsReader log origin m console held → j ≡ (informed m.0 n.0, m.1) → settles (step slots console 0 0 none) j found m' → IsLearned m n m' console held
  learned slots m n j m' console found held h now then = learned_at slots m n m' console found held h (subst (λ (z : M). settles (step slots console 0 0 none) z found m') now then)

  pub can_note : (id : ℕ) (m : M) (backs : List ℕ) (last : V) → IsSending log origin m backs last → Splits (Stands log origin) id m.0 m.0 (with_role Note m.0)
  can_note id m backs last h = notes log origin id m.0 h.sending h.role (λ c l. h.all_sent c (let e = h.sized in omega arith))

  pub can_copy : (id : ℕ) (m : M) (console : ℕ) (held : Option (Front V)) → IsReader log origin m console held → Splits (Stands log origin) id m.0 m.0 (with_role Copy m.0)
  can_copy id m console held h = copies log origin id m.0 (role_of m console held h) h.watches.role

  pub can_leave : (slots id : ℕ) (m : M) (console : ℕ) (held : Option (Front V)) → IsReader log origin m console held → Allows (Stands log origin) slots id m console (λ k. k) (leaves (step slots console 0 0 none) m)
  can_leave slots id m console held h = leaves_allowed log origin slots id m (role_of m console held h) h.watches.carried h.watches.role

  -- a seat with a list is joined to the writer's
  pub can_compare : (id other : ℕ) (m n : M) (backs : List ℕ) (last : V) → IsSending log origin m backs last → n.0.role ≢ Spent → Joins (Stands log origin) id m.0 other n.0 (compared m.0 n.0) spent
  can_compare id other m n backs last h unspent = compares log origin id m.0 h.sending other n.0 h.role unspent

  pub can_settle_all : (slots id : ℕ) (m m' : M) (v : Knows I O) (backs : List ℕ) (last : V) → IsSending log origin m backs last → 0 < length backs → m' ≡ (compared m.0 v, m.1)
      → Allows (Stands log origin) slots id m' 0 (λ k. k) (settles (step slots 0 0 0 none) m')
  can_settle_all slots id m m' v backs last h some_console now =
      let joined : M = (compared m.0 v, m.1) in
      subst (λ (z : M). Allows (Stands log origin) slots id z 0 (λ k. k) (settles (step slots 0 0 0 none) z)) (sym now) (writer_settles log origin slots id joined h.sending h.role (let e = h.sized in omega arith))

  -- what is learnt: the copy's list was published, and began where the writer's did
  pub record IsCompared (m m' : M) (v : Knows I O) : Type 0 where
    pub same : m' ≡ m
    pub seen : IsPrefix v.list m.0.list
    pub origins : v.origin ≡ m.0.origin

  pub met : (slots : ℕ) (m j m' : M) (v : Knows I O) (found : ℕ) (backs : List ℕ) (last : V) → IsSending log origin m backs last → j ≡ (compared m.0 v, m.1) → settles (step slots 0 0 0 none) j found m' → IsCompared m m' v
  met slots m j m' v found backs last h now then =
      let t : settles (step slots 0 0 0 none) (compared m.0 v, m.1) found m' = subst (λ (z : M). settles (step slots 0 0 0 none) z found m') now then in
      let P : Old I O → Type 0 = λ y. IsPrefix y.list m.0.list × (y.origin ≡ m.0.origin) in
      let one : All P (old_of v ∷ []) = subst (λ (l : List (Old I O)). All P (l ++ old_of v ∷ [])) h.settled t.1 in
      let head = All-head P (old_of v) [] one in record {
        same = t.0 ∙ ap (λ (l : List (Old I O)). let y : M = (record m.0 { olds = l }, m.1) in y) (sym h.settled);
        seen = head.0;
        origins = head.1;
      }
