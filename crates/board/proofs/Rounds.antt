-- A version goes to one console after the other.
use Rattle.std.proofs.Common.{◌≡◌, ◌≢◌, ℕ, suc, ◌+◌, ◌-◌, ◌*◌, ◌<◌, List, [], ◌∷◌, ◌++◌, length, replicate, take, drop, get_or, set, sym, refl, ap, ◌∙◌, subst, arith, Option, Some, None, append_assoc, length-set, get_or-set_same, get_or-set_other}
use mathlib.Core.Logic.{dite}
use native.Mathlib.Decide.{ℕ_discrete}
use Rattle.std.proofs.Math.Seq.{drop-cons}
use Rattle.std.proofs.lemmas.List.{append-nil, drop-set-lt, take_more_set, take_all, drop_all, length-take-le, length-replicate, get_or-replicate, take-replicate, get_or_default}
use Rattle.std.proofs.lemmas.List.Elements.{All-set}
use Rattle.atomic_table.specs.Table.{Me, rest, turned}
use Rattle.board.specs.declared.views.Knows.{Knows}
use Rattle.board.specs.declared.views.Sending.{Sending}
use Rattle.board.specs.declared.views.Role.TheVariants.{Writer}
use Rattle.board.specs.Lists.{IsPrefix}
use Rattle.board.specs.Held.{IsSending, hands}
use Rattle.board.specs.Sent.{CanSend, HasSent, sent_there, role_sent, sent_out}
use Rattle.board.proofs.Prefixes.{prefix_refl}
use Rattle.board.proofs.Opens.{hands_more}

head_slot : (l : List ℕ) (j : ℕ) → j < length l → drop j l ≡ get_or l j 0 ∷ drop (j + 1) l
head_slot l j lt = drop-cons l j 0 lt ∙ ap (λ (k : ℕ). get_or l j 0 ∷ drop k l) (let e : suc j ≡ j + 1 = omega arith in e)

module _ {V I O : Type 0} (log : V → List I) (origin : V → O) where
  abbrev M : Type 0
  M = Me (Option V) (Knows I O)

  abbrev Hand : Type 0
  Hand = List (ℕ × Option V)

  -- the slots in hand when it is console k's turn
  abbrev turn_of : ℕ → List ℕ → Hand
  turn_of k backs = hands k (drop k backs) ++ hands 0 (take k backs)

  hands_at : (m : M) (backs : List ℕ) (v : V) (k n : ℕ) → HasSent log origin m backs v k n → k < n → m.1 ≡ (3 * k + get_or backs k 0, None) ∷ (hands (k + 1) (drop (k + 1) backs) ++ hands 0 (take k backs))
  hands_at m backs v k n h lt = h.carried ∙ ap (λ (l : List ℕ). hands {V = V} k l ++ hands 0 (take k backs)) (head_slot backs k (let e = h.long in omega arith))

  pub begin : (m : M) (backs : List ℕ) (last v : V) (n : ℕ) → length backs ≡ n → IsSending log origin m backs last → IsPrefix (log last) (log v) → Some (origin v) ≡ m.0.origin → HasSent log origin m backs v 0 n
  begin m backs last v n long h begins began = record {
    sending = h.sending;
    role = h.role;
    back = h.back;
    long = long;
    small = h.small;
    sized = h.sized ∙ long;
    all_held = h.all_held ∙ long;
    all_started = h.all_started ∙ long;
    sent = λ c l. absurd (omega arith);
    settled = h.settled;
    carried = h.carried ∙ sym (append-nil (hands 0 backs));
    begins = subst (λ (l : List I). IsPrefix l (log v)) (sym h.list) begins;
    done = λ l. absurd (omega arith);
    began = sym began;
  }

  pub can_send : (m : M) (backs : List ℕ) (v share : V) (k n back : ℕ) → HasSent log origin m backs v k n → k < n → share ≡ v → back ≡ get_or backs k back → CanSend log origin m k back share
  can_send m backs v share k n back h lt same back_is =
      let inside : k < length backs = (let e = h.long in omega arith) in
      let there : back ≡ get_or backs k 0 = back_is ∙ get_or_default backs k back 0 inside in
      let held = hands_at m backs v k n h lt in record {
        sending = h.sending;
        role = h.role;
        inside = let e = h.sized in omega arith;
        all_held = h.all_held ∙ sym h.sized;
        all_started = h.all_started ∙ sym h.sized;
        back_is = ap (λ (l : List ℕ). get_or l k 0) h.back ∙ sym there;
        small = let s : get_or backs k 0 < 3 = h.small k 0 inside in omega arith;
        carried = held ∙ ((λ i. (3 * k + sym there i, None) ∷ rest (sym held i)));
        begins = subst (λ (z : V). IsPrefix m.0.list (log z)) (sym same) h.begins;
        began = subst (λ (z : V). m.0.origin ≡ Some (origin z)) (sym same) h.began;
      }

  -- the version went to one console more
  pub next : (m j m' : M) (backs : List ℕ) (v share : V) (k n slot : ℕ) → HasSent log origin m backs v k n → k < n → share ≡ v → slot < 3
      → j ≡ (sent_out m.0 k (log share) slot, (3 * k + slot, None) ∷ rest m.1) → m' ≡ (j.0, turned j.1) → HasSent log origin m' (set backs k slot) v (k + 1) n
  next m j m' backs v share k n slot h lt same small sent_is turned_is =
      let p' : Sending = sent_there h.sending k (length (log v)) slot in
      let inside : k < length backs = (let e = h.long in omega arith) in
      let room : k < length h.sending.sent = (let e = h.sized in omega arith) in
      let others : Hand = hands (k + 1) (drop (k + 1) backs) ++ hands 0 (take k backs) in
      let rest_is : rest m.1 ≡ others = ap rest (hands_at m backs v k n h lt) in
      let backs' : List ℕ = set backs k slot in
      let drop_is : drop (k + 1) backs' ≡ drop (k + 1) backs = drop-set-lt (k + 1) backs k slot (omega arith) in
      let take_is : take (k + 1) backs' ≡ take k backs ++ slot ∷ [] = take_more_set backs k slot inside in
      let last : hands {V = V} 0 (take k backs) ++ (3 * k + slot, None) ∷ [] ≡ hands 0 (take k backs ++ slot ∷ []) = hands_more 0 (take k backs) slot k (let e : length (take k backs) ≡ k = length-take-le k backs (omega arith) in omega (arith, e)) in
      let whole : others ++ (3 * k + slot, None) ∷ [] ≡ turn_of (k + 1) backs' =
      append_assoc (hands (k + 1) (drop (k + 1) backs)) (hands 0 (take k backs)) ((3 * k + slot, None) ∷ [])
      ∙ (ap (λ (l : Hand). hands (k + 1) (drop (k + 1) backs) ++ l) last
      ∙ (λ i. hands {V = V} (k + 1) (sym drop_is i) ++ hands 0 (sym take_is i))) in
      let view : V → Knows I O = λ z. sent_out m.0 k (log z) slot in
      let role_is : role_sent k (length (log v)) slot m.0.role ≡ Writer p' = ap (role_sent k (length (log v)) slot) h.role in
      let at_end : M = (view v, turn_of (k + 1) backs') in
      let m'_is : m' ≡ at_end = turned_is ∙ (ap (λ (z : M). let y : M = (z.0, turned z.1) in y) sent_is
      ∙ ((λ i. let y : M = (view (same i), rest_is i ++ (3 * k + slot, None) ∷ []) in y) ∙ ap (λ (l : Hand). let y : M = (view v, l) in y) whole)) in
      let there : HasSent log origin at_end backs' v (k + 1) n = record {
        sending = p';
        role = role_is;
        back = ap (λ (l : List ℕ). set l k slot) h.back;
        long = length-set backs k slot ∙ h.long;
        small = All-set (λ (s : ℕ). s < 3) backs k slot small h.small;
        sized = length-set h.sending.sent k (length (log v)) ∙ h.sized;
        all_held = h.all_held;
        all_started = h.all_started;
        sent = λ c l. dite (ℕ_discrete c k)
            (λ e. ap (λ (i : ℕ). get_or (set h.sending.sent k (length (log v))) i 0) e ∙ get_or-set_same h.sending.sent k (length (log v)) 0 room)
            (λ ne. get_or-set_other h.sending.sent k c (length (log v)) 0 ne ∙ h.sent c (let m : c ≢ k = ne in omega arith));
        settled = h.settled;
        carried = refl;
        begins = prefix_refl (log v);
        done = λ l. refl;
        began = h.began;
      } in
      subst (λ (z : M). HasSent log origin z backs' v (k + 1) n) (sym m'_is) there

  pub finish : (m : M) (backs : List ℕ) (v : V) (k n : ℕ) → HasSent log origin m backs v k n → k ≡ n → 0 < n → IsSending log origin m backs v
  finish m backs v k n h all some_console =
      let long : length backs ≡ k = h.long ∙ sym all in record {
        sending = h.sending;
        role = h.role;
        back = h.back;
        small = h.small;
        sized = h.sized ∙ sym h.long;
        all_held = h.all_held ∙ sym h.long;
        all_started = h.all_started ∙ sym h.long;
        all_sent = λ c l. h.sent c (omega arith) ∙ ap length (sym (h.done (omega arith)));
        settled = h.settled;
        carried = h.carried ∙ (λ i. hands {V = V} k (drop_all k backs (omega arith) i) ++ hands 0 (take_all k backs (omega arith) i));
        list = h.done (omega arith);
        began = h.began;
      }

  -- one copy fewer: the last of some equal copies is taken off
  pub popped_share : (shares : List V) (v : V) (popped : Option V) (n k : ℕ) → shares ≡ replicate k v → n ≡ length shares → 0 < k → (0 < n → popped ≡ Some (get_or shares (n - 1) v)) → popped ≡ Some v
  popped_share shares v popped n k are long some_left value =
      let e : length shares ≡ k = ap length are ∙ length-replicate k v in
      value (omega arith) ∙ ap (λ m. Some (get_or shares (m - 1) v)) long ∙ ap Some ((λ i. get_or (are i) (e i - 1) v) ∙ get_or-replicate k (k - 1) v v (omega arith))

  pub fewer_shares : (shares : List V) (v : V) (k : ℕ) → shares ≡ replicate k v → take (length shares - 1) shares ≡ replicate (k - 1) v
  fewer_shares shares v k is = let e : length shares ≡ k = ap length is ∙ length-replicate k v in
      (λ i. take (e i - 1) (is i)) ∙ take-replicate (k - 1) k v (omega arith)
