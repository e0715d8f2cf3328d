-- What the first steps at a new table ask of their seats, and what they leave.
use Rattle.std.proofs.Common.{◌≡◌, ℕ, ◌+◌, ◌*◌, ◌<◌, false, List, [], ◌∷◌, ◌++◌, length, replicate, get_or, sym, refl, ap, ◌∙◌, subst, arith, Option, Some, None}
use mathlib.Core.Option.{none}
use Rattle.std.proofs.lemmas.List.{length-replicate, get_or-replicate, replicate_more}
use Rattle.atomic_table.specs.Table.{Me, step, turned, Allows, Splits}
use Rattle.board.specs.declared.views.Knows.{Knows}
use Rattle.board.specs.declared.views.Sending.{Sending}
use Rattle.board.specs.declared.views.Watching.{Watching}
use Rattle.board.specs.declared.views.Role.TheVariants.{Reader}
use Rattle.board.specs.declared.reader.front.Front.{Front}
use Rattle.board.specs.Views.{founds_of, one_more, newcomer}
use Rattle.board.specs.Rule.{Stands}
use Rattle.board.specs.Steps.{claims, arms}
use Rattle.board.specs.Held.{hands, watching}
use Rattle.board.specs.Fronts.{IsReader}
use Rattle.board.specs.Opened.{opening_sending, opening_seat}
use Rattle.board.proofs.Prefixes.{prefix_refl}
use Rattle.board.proofs.ReaderSteps.{arms_allowed}
use Rattle.board.proofs.WriterSteps.{claims_allowed}
use Rattle.board.proofs.ViewSteps.{enrolls}

-- one slot more behind those in hand
pub hands_more : {V : Type 0} (k : ℕ) (xs : List ℕ) (x c : ℕ) → c ≡ k + length xs → hands {V = V} k xs ++ (3 * c + x, None) ∷ [] ≡ hands k (xs ++ x ∷ [])
hands_more {V} k [] x c e = ap (λ (j : ℕ). let l : List (ℕ × Option V) = (3 * j + x, None) ∷ [] in l) (let f : c ≡ k = omega arith in f)
hands_more {V} k (y ∷ ys) x c e = ap (λ (l : List (ℕ × Option V)). (3 * k + y, None) ∷ l) (hands_more (k + 1) ys x c (omega arith))

module _ {V I O : Type 0} (log : V → List I) (origin : V → O) where
  abbrev M : Type 0
  M = Me (Option V) (Knows I O)

  abbrev seat : ℕ → ℕ → ℕ → V → M
  seat n held started first = opening_seat n held started (log first) (origin first)

  pub can_claim : (slots id : ℕ) (m : M) (n c : ℕ) (first : V) → m ≡ opening_seat n c 0 (log first) (origin first) → c < n → Allows (Stands log origin) slots id m c (λ k. k) (claims (step slots c 0 0 none) m)
  can_claim slots id m n c first now inside =
      subst (λ (z : M). Allows (Stands log origin) slots id z c (λ k. k) (claims (step slots c 0 0 none) z)) (sym now)
      (claims_allowed log origin slots id (seat n c 0 first) (opening_sending n c 0 (length (log first))) c refl refl (let e = length-replicate n (length (log first)) in omega arith))

  pub claimed : (slots : ℕ) (m j m' : M) (n c found : ℕ) (first : V) → m ≡ opening_seat n c 0 (log first) (origin first) → c < n → claims (step slots c 0 0 none) m found j → m' ≡ (j.0, turned j.1)
      → m' ≡ opening_seat n (c + 1) 0 (log first) (origin first)
  claimed slots m j m' n c found first now inside then turned_is =
      let number : ℕ = length (log first) in
      let p : Sending = opening_sending n c 0 number in
      let t : claims (step slots c 0 0 none) (seat n c 0 first) found j = subst (λ (z : M). claims (step slots c 0 0 none) z found j) now then in
      let j_is = t p refl in
      let back : get_or (replicate n 0) c 0 ≡ 0 = get_or-replicate n c 0 0 inside in
      let all : hands {V = V} 0 (replicate c 0) ++ (3 * c + 0, None) ∷ [] ≡ hands 0 (replicate (c + 1) 0) =
      hands_more 0 (replicate c 0) 0 c (let zeros : List ℕ = replicate c 0 in let e : length zeros ≡ c = length-replicate c 0 in omega (arith, e)) ∙ ap (hands {V = V} 0) (replicate_more c 0) in
      let F : List (ℕ × Option V) → M = λ l. ((seat n (c + 1) 0 first).0, l) in
      turned_is ∙ (ap (λ (z : M). let y : M = (z.0, turned z.1) in y) j_is ∙ (ap (λ (k : ℕ). F (hands 0 (replicate c 0) ++ (3 * c + k, None) ∷ [])) back ∙ ap F all))

  pub can_enroll : (id : ℕ) (m : M) (n c : ℕ) (first : V) → m ≡ opening_seat n n c (log first) (origin first) → c < n → Splits (Stands log origin) id m.0 (record m.0 { role = one_more m.0.role }) (newcomer m.0)
  can_enroll id m n c first now inside =
      let number : ℕ = length (log first) in
      subst (λ (z : M). Splits (Stands log origin) id z.0 (record z.0 { role = one_more z.0.role }) (newcomer z.0)) (sym now)
      (enrolls log origin id (seat n n c first).0 (opening_sending n n c number) refl (let e = length-replicate n number in omega arith))

  abbrev arriving : ℕ → V → Watching
  arriving c first = record { console = c; founds = []; front = 1; number = length (log first); pending = false; ready = false }

  pub can_arm : (slots id : ℕ) (m j : M) (n c : ℕ) (first : V) → m ≡ opening_seat n n c (log first) (origin first) → j ≡ (newcomer m.0, []) → Allows (Stands log origin) slots id j c (λ k. k) (arms (step slots c 0 0 none) j)
  can_arm slots id m j n c first now then =
      let new : M = (newcomer (seat n n c first).0, []) in
      let j_is : j ≡ new = then ∙ ap (λ (z : M). let y : M = (newcomer z.0, []) in y) now in
      subst (λ (z : M). Allows (Stands log origin) slots id z c (λ k. k) (arms (step slots c 0 0 none) z)) (sym j_is) (arms_allowed log origin slots id new (arriving c first) refl refl)

  pub record IsArmed (m : M) (c : ℕ) (f : Front V) : Type 0 where
    pub reader : IsReader log origin m c (Some f)
    pub founds : founds_of m.0.role ≡ []
    pub list : m.0.list ≡ log f.version
    pub began : m.0.origin ≡ Some (origin f.version)

  pub armed : (slots : ℕ) (m j m' : M) (n c found number : ℕ) (first : V) → m ≡ opening_seat n n c (log first) (origin first) → j ≡ (newcomer m.0, []) → number ≡ length (log first) → arms (step slots c 0 0 none) j found m'
      → IsArmed m' c (record { slot = 1; number = number; version = first })
  armed slots m j m' n c found number first now then number_is arms_it =
      let new : M = (newcomer (seat n n c first).0, []) in
      let j_is : j ≡ new = then ∙ ap (λ (z : M). let y : M = (newcomer z.0, []) in y) now in
      let t : arms (step slots c 0 0 none) new found m' = subst (λ (z : M). arms (step slots c 0 0 none) z found m') j_is arms_it in
      let m'_is = t (arriving c first) refl in
      let view : ℕ → M = λ k. (record (newcomer (seat n n c first).0) { role = Reader (watching c [] 1 k) }, (3 * c + 1, None) ∷ []) in
      let m''_is : m' ≡ view number = m'_is ∙ ap view (sym number_is) in
      let f : Front V = record { slot = 1; number = number; version = first } in
      let there : IsArmed (view number) c f = record {
        reader = record {
          front = f;
          held_is = refl;
          watches = record { role = refl; settled = refl; small = omega arith; carried = refl; is_version = record { begins = prefix_refl (log first); numbered = sym number_is; began_there = refl } };
        };
        founds = refl;
        list = refl;
        began = refl;
      } in
      subst (λ (z : M). IsArmed z c f) (sym m''_is) there
