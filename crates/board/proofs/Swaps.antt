-- What a swap asks of a seat whose slot was just filled, and what it leaves.
use Rattle.std.proofs.Common.{◌≡◌, ℕ, ◌+◌, ◌*◌, ◌^◌, ◌<◌, ◌≤◌, true, false, List, [], ◌∷◌, length, sym, refl, ap, ◌∙◌, subst, arith, Option, Some, None}
use mathlib.Core.Option.{none}
use Rattle.atomic_table.specs.Table.{Me, step, rest, Allows}
use Rattle.board.specs.declared.views.Knows.{Knows}
use Rattle.board.specs.declared.views.Role.{Role}
use Rattle.board.specs.declared.views.Role.TheVariants.{Reader, Writer}
use Rattle.board.specs.Lists.{IsPrefix, last_or}
use Rattle.board.specs.Word.{slot_in, number_in, is_fresh}
use Rattle.board.specs.Views.{founds_of}
use Rattle.board.specs.Rule.{Stands}
use Rattle.board.specs.Steps.{collects, delivers}
use Rattle.board.specs.Held.{IsWatching, IsPending, pending_at, watching}
use Rattle.board.specs.Sent.{CanSend, sent_out, role_sent}
use Rattle.board.proofs.Prefixes.{prefix_refl}
use Rattle.board.proofs.ReaderSteps.{collects_allowed}
use Rattle.board.proofs.WriterSteps.{delivers_allowed}

module _ {V I O : Type 0} (log : V → List I) (origin : V → O) where
  abbrev M : Type 0
  M = Me (Option V) (Knows I O)

  abbrev filled : M → ℕ → V → M
  filled m k v = (m.0, (k, Some v) ∷ rest m.1)

  pub sends : (slots id : ℕ) (m m' : M) (c back x : ℕ) (v : V) → CanSend log origin m c back v → m' ≡ (m.0, (3 * c + back, Some v) ∷ rest m.1) → length (log v) < 2 ^ 32
      → slot_in x ≡ back → is_fresh x ≡ true → number_in x ≡ length (log v) → Allows (Stands log origin) slots id m' c (λ _. x) (delivers log origin (step slots c x 0 none) m')
  sends slots id m m' c back x v h now narrow slot fresh number =
      subst (λ (z : M). Allows (Stands log origin) slots id z c (λ _. x) (delivers log origin (step slots c x 0 none) z)) (sym now)
      (delivers_allowed log origin slots id (filled m (3 * c + back) v) h.sending c x v (rest m.1) (ap (λ (b : ℕ). let l : List (ℕ × Option V) = (3 * c + b, Some v) ∷ rest m.1 in l) (sym h.back_is))
      h.role h.inside h.all_held h.all_started h.begins h.began narrow (slot ∙ sym h.back_is) fresh number)

  -- what a delivery leaves in the seat
  pub record IsSent (m m' : M) (c : ℕ) (v : V) (found : ℕ) : Type 0 where
    pub left : Option V
    pub slot : slot_in found < 3
    pub after : m' ≡ (sent_out m.0 c (log v) (slot_in found), (3 * c + slot_in found, left) ∷ rest m.1)

  sent_at_filled : (slots : ℕ) (m m' : M) (c back x found : ℕ) (v : V) → CanSend log origin m c back v → delivers log origin (step slots c x 0 none) (filled m (3 * c + back) v) found m' → IsSent m m' c v found
  sent_at_filled slots m m' c back x found v h then =
      let d = then h.sending (3 * c + back) v h.role refl in
      let role_is : role_sent c (length (log v)) (slot_in found) (Writer h.sending) ≡ role_sent c (length (log v)) (slot_in found) m.0.role = ap (role_sent c (length (log v)) (slot_in found)) (sym h.role) in
      let view_is = ap (λ (z : Role). let y : M = (record m.0 { role = z; list = log v }, (3 * c + slot_in found, d.left) ∷ rest m.1) in y) role_is in
      record { left = d.left; slot = d.slot; after = d.after ∙ view_is }

  pub sent : (slots : ℕ) (m n m' : M) (c back x found : ℕ) (v : V) → CanSend log origin m c back v → n ≡ (m.0, (3 * c + back, Some v) ∷ rest m.1) → delivers log origin (step slots c x 0 none) n found m' → IsSent m m' c v found
  sent slots m n m' c back x found v h now then =
      sent_at_filled slots m m' c back x found v h (subst (λ (z : M). delivers log origin (step slots c x 0 none) z found m') now then)

  pub gathers : (slots id : ℕ) (m m' : M) (c slot number x : ℕ) (version : V) → IsPending log origin m c (founds_of m.0.role) slot number version → m' ≡ (m.0, (3 * c + slot, Some version) ∷ rest m.1)
      → number < 2 ^ 32 → slot_in x ≡ slot → is_fresh x ≡ false → number_in x ≡ number → Allows (Stands log origin) slots id m' c (λ _. x) (collects log origin (step slots c x 0 none) m')
  gathers slots id m m' c slot number x version h now narrow slot_is stale number_is =
      subst (λ (z : M). Allows (Stands log origin) slots id z c (λ _. x) (collects log origin (step slots c x 0 none) z)) (sym now)
      (collects_allowed log origin slots id (filled m (3 * c + slot) version) (pending_at c (founds_of m.0.role) slot number) version x (rest m.1) refl h.role refl refl narrow h.is_version slot_is stale number_is)

  -- what a reader's seat is after it collected, and the slot with what lies in it
  pub record IsCollected (m m' : M) (c found : ℕ) : Type 0 where
    pub version : V
    pub after : m' ≡ (record m.0 { role = Reader (watching c (founds_of m.0.role) (slot_in found) (number_in found)); list = log version }, (3 * c + slot_in found, Some version) ∷ [])
    pub begins : IsPrefix m.0.list (log version)
    pub numbered : length (log version) ≡ number_in found
    pub began_there : m.0.origin ≡ Some (origin version)
    pub as_found : last_or 0 (founds_of m.0.role) ≤ number_in found
    pub narrow : number_in found < 2 ^ 32
    pub slot : slot_in found < 3

  gathered_at : (slots : ℕ) (m m' : M) (c slot number x found : ℕ) (version : V) → IsPending log origin m c (founds_of m.0.role) slot number version → collects log origin (step slots c x 0 none) (filled m (3 * c + slot) version) found m' → IsCollected m m' c found
  gathered_at slots m m' c slot number x found version h then =
      let d = then (pending_at c (founds_of m.0.role) slot number) h.role in
      let none_left : rest m.1 ≡ [] = ap rest h.carried in record {
        version = d.version;
        after = d.after ∙ ap (λ (l : List (ℕ × Option V)). let y : M = (record m.0 { role = Reader (watching c (founds_of m.0.role) (slot_in found) (number_in found)); list = log d.version }, (3 * c + slot_in found, Some d.version) ∷ l) in y) none_left;
        begins = d.begins;
        numbered = d.numbered;
        began_there = d.began_there;
        as_found = d.as_found;
        narrow = d.narrow;
        slot = d.slot;
      }

  pub gathered : (slots : ℕ) (m n m' : M) (c slot number x found : ℕ) (version : V) → IsPending log origin m c (founds_of m.0.role) slot number version → n ≡ (m.0, (3 * c + slot, Some version) ∷ rest m.1)
      → collects log origin (step slots c x 0 none) n found m' → IsCollected m m' c found
  gathered slots m n m' c slot number x found version h now then =
      gathered_at slots m m' c slot number x found version h (subst (λ (z : M). collects log origin (step slots c x 0 none) z found m') now then)

  -- the seat once its slot is emptied
  pub record IsGathered (m m' : M) (c slot number : ℕ) (v : V) : Type 0 where
    pub watches : IsWatching log origin m' c (founds_of m.0.role) slot number v
    pub begins : IsPrefix m.0.list m'.0.list
    pub whole : m'.0.list ≡ log v
    pub found : last_or 0 (founds_of m.0.role) ≤ length m'.0.list
    pub began : m'.0.origin ≡ m.0.origin

  pub gathers_all : (m m' m'' : M) (c found slot number : ℕ) (v : V) → (h : IsCollected m m' c found) → h.version ≡ v → slot ≡ slot_in found → number ≡ number_in found → m.0.olds ≡ [] → m'' ≡ (m'.0, (3 * c + slot, None) ∷ rest m'.1)
      → IsGathered m m'' c slot number v
  gathers_all m m' m'' c found slot number v h version_is slot_is number_is no_olds now =
      let view : Knows I O = record m.0 { role = Reader (watching c (founds_of m.0.role) (slot_in found) (number_in found)); list = log h.version } in
      let at_end : M = (view, (3 * c + slot_in found, None) ∷ []) in
      let a : m'' ≡ at_end = now ∙ (ap (λ (z : M). let y : M = (z.0, (3 * c + slot, None) ∷ rest z.1) in y) h.after ∙ ap (λ (k : ℕ). let y : M = (view, (3 * c + k, None) ∷ []) in y) slot_is) in
      let there : IsGathered m at_end c (slot_in found) (number_in found) h.version = record {
        watches = record {
          role = refl;
          settled = no_olds;
          small = h.slot;
          carried = refl;
          is_version = record { begins = prefix_refl (log h.version); numbered = h.numbered; began_there = h.began_there };
        };
        begins = h.begins;
        whole = refl;
        found = let e = h.numbered in let l = h.as_found in omega arith;
        began = refl;
      } in
      subst (λ (z : M × ℕ × ℕ × V). IsGathered m z.0 c z.1 z.2 z.3) (λ i. (sym a i, sym slot_is i, sym number_is i, version_is i)) there

  abbrev head_or : Option V → List (ℕ × Option V) → Option V
  head_or d [] = d
  head_or d (x ∷ xs) = x.1

  -- what lies in that slot
  pub in_slot : (m : M) (v : Knows I O) (k j : ℕ) (x y : Option V) (cs : List (ℕ × Option V)) → m ≡ (v, (j, x) ∷ cs) → m.1 ≡ (k, y) ∷ rest m.1 → y ≡ x
  in_slot m v k j x y cs is held = sym (ap (head_or None) held) ∙ ap (λ (z : M). head_or None z.1) is

  -- the slot that a seat has in hand first
  pub in_hand : (m : M) (v : Knows I O) (k j : ℕ) (x : Option V) (cs : List (ℕ × Option V)) → m ≡ (v, (j, x) ∷ cs) → k ≡ j → m.1 ≡ (k, x) ∷ rest m.1
  in_hand m v k j x cs is same =
      let e = ap (λ (z : M). z.1) is in
      e ∙ ((λ i. (sym same i, x) ∷ cs) ∙ ap (λ (l : List (ℕ × Option V)). (k, x) ∷ rest l) (sym e))

  pub sent_after : (m m' m'' : M) (c slot found : ℕ) (v : V) → IsSent m m' c v found → slot ≡ slot_in found → m'' ≡ (m'.0, (3 * c + slot, None) ∷ rest m'.1)
      → m'' ≡ (sent_out m.0 c (log v) slot, (3 * c + slot, None) ∷ rest m.1)
  sent_after m m' m'' c slot found v h same now =
      now ∙ (ap (λ (z : M). let y : M = (z.0, (3 * c + slot, None) ∷ rest z.1) in y) h.after ∙ ap (λ (j : ℕ). let y : M = (sent_out m.0 c (log v) j, (3 * c + slot, None) ∷ rest m.1) in y) (sym same))
