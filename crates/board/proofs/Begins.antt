-- A new table meets the rule.
use Rattle.std.proofs.Common.{◌≡◌, ℕ, zero, suc, ◌+◌, ◌*◌, ◌^◌, ◌<◌, false, List, [], ◌∷◌, ◌++◌, map, length, replicate, sym, refl, ap, ◌∙◌, subst, arith, Option, Some, None}
use mathlib.Core.Option.{none, some, some-injective, some-ne-none}
use mathlib.Core.Option as maybe
use lib.ListN.{get_elem?, length-map}
use Rattle.std.proofs.lemmas.List.{length-replicate, get_or-replicate}
use Rattle.std.proofs.lemmas.List.Elements.{All-nil}
use Rattle.atomic_table.specs.Table.{opening}
use Rattle.board.specs.declared.views.Knows.{Knows}
use Rattle.board.specs.declared.views.Old.{Old}
use Rattle.board.specs.declared.views.Sending.{Sending}
use Rattle.board.specs.Lists.{IsPrefix}
use Rattle.board.specs.Word.{slot_in, number_in, is_fresh}
use Rattle.board.specs.Views.{sent_at, back_at, opened}
use Rattle.board.specs.Laid.{laid}
use Rattle.board.specs.Rule.{Lies, Console, Says, Stands}
use Rattle.board.proofs.Prefixes.{prefix_refl}

pub laid_more : {V : Type 0} (n : ℕ) (v : V) → ((laid n v ++ None ∷ []) ++ None ∷ []) ++ Some v ∷ [] ≡ laid (n + 1) v
laid_more zero v = refl
laid_more {V} (suc n) v = ap (λ (l : List (Option V)). None ∷ None ∷ Some v ∷ l) (laid_more n v) ∙ ap (λ k. laid k v) (let e : suc (n + 1) ≡ suc n + 1 = omega arith in e)

pub length_laid : {V : Type 0} (n : ℕ) (v : V) → length (laid n v) ≡ 3 * n
length_laid zero v = refl
length_laid (suc n) v = omega (arith, length_laid n v)

three_on : {A : Type 0} (a b d : A) (l : List A) (n k : ℕ) → get_elem? (a ∷ b ∷ d ∷ l) (3 * suc n + k) ≡ get_elem? l (3 * n + k)
three_on a b d l n k = let e : 3 * suc n + k ≡ suc (suc (suc (3 * n + k))) = omega arith in ap (get_elem? (a ∷ b ∷ d ∷ l)) e

laid_at : {V : Type 0} (n c : ℕ) (v : V) → c < n → Lies (map some (laid n v)) c 0 None × Lies (map some (laid n v)) c 1 None × Lies (map some (laid n v)) c 2 (Some v)
laid_at zero c v l = absurd (omega arith)
laid_at (suc n) zero v l = (refl, refl, refl)
laid_at {V} (suc n) (suc c) v l =
    let rest : List (maybe.Option (Option V)) = map some (laid n v) in
    let h = laid_at n c v (omega arith) in (
      three_on (some None) (some None) (some (Some v)) rest c 0 ∙ h.0,
      three_on (some None) (some None) (some (Some v)) rest c 1 ∙ h.1,
      three_on (some None) (some None) (some (Some v)) rest c 2 ∙ h.2,
    )

module _ {V I O : Type 0} (log : V → List I) (origin : V → O) where
  only_seat : (first : V) (n : ℕ) (words : List ℕ) (homes : List (maybe.Option (Option V))) (seat : ℕ) (v : Knows I O) → get_elem? (opened n (log first) (origin first) ∷ []) seat ≡ some v
      → Says log origin (opened n (log first) (origin first)) (record { sent = replicate n (length (log first)); back = replicate n 0; held = 0; started = 0 }) (λ c. 0) words homes seat v v.role
  only_seat first n words homes zero v e =
      let w : Knows I O = opened n (log first) (origin first) in
      let p : Sending = record { sent = replicate n (length (log first)); back = replicate n 0; held = 0; started = 0 } in
      subst (λ (z : Knows I O). Says log origin w p (λ c. 0) words homes 0 z z.role) (some-injective w v e)
      (record { begins = prefix_refl (log first); began = refl; olds = All-nil (λ (y : Old I O). IsPrefix y.list (log first) × (y.origin ≡ Some (origin first))) }, refl)
  only_seat first n words homes (suc seat) v e = absurd (some-ne-none v (sym e))

  pub begins : (n x : ℕ) (first : V) → slot_in x ≡ 2 → is_fresh x ≡ false → number_in x ≡ length (log first) → length (log first) < 2 ^ 32
      → Stands log origin (opening (replicate n x) (laid n first) (opened n (log first) (origin first)))
  begins n x first slot stale number narrow =
      let p : Sending = record { sent = replicate n (length (log first)); back = replicate n 0; held = 0; started = 0 } in
      let homes : List (maybe.Option (Option V)) = map some (laid n first) in
      let w : Knows I O = opened n (log first) (origin first) in record {
        writer = w;
        sending = p;
        at_writer = refl;
        is_writer = refl;
        wide = length-replicate n x ∙ sym (length-replicate n (length (log first)));
        deep = length-map (laid n first) some ∙ (length_laid n first ∙ ap (λ k. 3 * k) (sym (length-replicate n (length (log first)))));
        backs = length-replicate n 0 ∙ sym (length-replicate n (length (log first)));
        some_started = omega arith;
        seat_of = λ c. 0;
        each_console = λ c l.
            let inside : c < n = (let e = length-replicate n (length (log first)) in omega arith) in
            let there = laid_at n c first inside in
            let back_is : back_at p c ≡ 0 = get_or-replicate n c 0 0 inside in
            let sent_is : sent_at p c ≡ length (log first) = get_or-replicate n c (length (log first)) 0 inside in
            subst (λ (word : ℕ). Console log origin w p homes c word) (sym (get_or-replicate n c x 0 inside)) record {
              apart = (omega arith, omega arith, λ e. omega arith);
              narrow = omega arith;
              version = first;
              lies = ap (λ (k : ℕ). get_elem? homes (3 * c + k)) slot ∙ there.2;
              is_version = record { begins = prefix_refl (log first); numbered = sym number; began_there = refl };
              sent = omega arith;
              unheld = λ h. ap (λ (k : ℕ). get_elem? homes (3 * c + k)) back_is ∙ there.0;
              unstarted = λ h. record { stale = stale; numbered = number ∙ sym sent_is; unpublished = sent_is; slot = slot; back = back_is; front = there.1 };
            };
        each_seat = λ seat v e. only_seat first n (replicate n x) homes seat v e;
      }
