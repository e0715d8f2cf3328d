-- Views that are cut and joined keep the rule: no word and no slot changes.
use Rattle.std.proofs.Common.{◌≡◌, ◌≢◌, ℕ, zero, suc, ◌+◌, ◌*◌, ◌<◌, ◌≤◌, Bool, true, false, cond, leb, List, [], ◌∷◌, ◌++◌, length, get_or, set, sym, refl, ap, ◌∙◌, subst, ⊎_elim, ◌⊎◌, inl, inr, arith, Option, length-set, eqb, eq-eqb, ne_eqb}
use mathlib.Core.Option.{some, some-injective, some-ne-none}
use lib.ListN.{get_elem?}
use Rattle.std.proofs.lemmas.List.Elements.{All-nil, All-append, All-cons, All-weaker}
use Rattle.std.proofs.lemmas.Bool.Decides.{nat_tests}
use Rattle.atomic_table.specs.Table.{State, Splits, Joins}
use Rattle.atomic_table.proofs.Lists.{at_set, set_here, set_else, set_again, at_longer}
use Rattle.board.specs.declared.views.Knows.{Knows}
use Rattle.board.specs.declared.views.Old.{Old}
use Rattle.board.specs.declared.views.Sending.{Sending}
use Rattle.board.specs.declared.views.Watching.{Watching}
use Rattle.board.specs.declared.views.Role.{Role}
use Rattle.board.specs.declared.views.Role.TheVariants.{Spent, Note, Copy, Reader, Writer}
use Rattle.board.specs.Lists.{IsPrefix, longer}
use Rattle.board.specs.Word.{number_in}
use Rattle.board.specs.Views.{sent_at, newcomer, started_of, one_more, with_role, old_of, informed, compared, spent, as_writer}
use Rattle.board.specs.Rule.{AreOlds, Believes, Says, Stands}
use Rattle.board.proofs.Prefixes.{prefix_refl}
use Rattle.board.proofs.Frames.{Homes, console_else, watches_else, believes_more}
use Rattle.board.proofs.ReaderSteps.{reader_knows}
use Rattle.board.proofs.WriterSteps.{is_seat, retold, writer_olds, some_inside}

-- an element of a list with one more at its end
at_end : {A : Type 0} (l : List A) (a b : A) (j : ℕ) → get_elem? (l ++ a ∷ []) j ≡ some b → (get_elem? l j ≡ some b) ⊎ ((j ≡ length l) × (a ≡ b))
at_end [] a b zero e = inr (refl, some-injective a b e)
at_end [] a b (suc j) e = absurd (some-ne-none b (sym e))
at_end (x ∷ xs) a b zero e = inl e
at_end (x ∷ xs) a b (suc j) e = ⊎_elim (λ t. inl t) (λ (t : (j ≡ length xs) × (a ≡ b)). inr (ap suc t.0, t.1)) (at_end xs a b j e)

put : (ℕ → ℕ) → ℕ → ℕ → ℕ → ℕ
put f i n j = cond (eqb j i) n (f j)

put_here : (f : ℕ → ℕ) (i n : ℕ) → put f i n i ≡ n
unfolding put
put_here f i n = ap (λ b. cond b n (f i)) (eq-eqb i i refl)

put_else : (f : ℕ → ℕ) (i n j : ℕ) → j ≢ i → put f i n j ≡ f j
unfolding put
put_else f i n j ne = ap (λ b. cond b n (f j)) (ne_eqb j i ne)

-- the longer of two lists is one of them, and as long as both
longer_is : {A : Type 0} (P : List A → Type 0) (xs ys : List A) → P xs → P ys → P (longer xs ys)
longer_is P xs ys p q = elim (leb (length xs) (length ys)) as (λ b. P (cond b ys xs)) [ true ↦ q | false ↦ p ]

longer_left_at : {A : Type 0} (xs ys : List A) (b : Bool) → leb (length xs) (length ys) ≡ b → length xs ≤ length (cond b ys xs)
longer_left_at xs ys true e = grind (arith, nat_tests)
longer_left_at xs ys false e = omega arith

longer_right_at : {A : Type 0} (xs ys : List A) (b : Bool) → leb (length xs) (length ys) ≡ b → length ys ≤ length (cond b ys xs)
longer_right_at xs ys true e = omega arith
longer_right_at xs ys false e = grind (arith, nat_tests)

pub longer_left : {A : Type 0} (xs ys : List A) → length xs ≤ length (longer xs ys)
longer_left xs ys = longer_left_at xs ys (leb (length xs) (length ys)) refl

pub longer_right : {A : Type 0} (xs ys : List A) → length ys ≤ length (longer xs ys)
longer_right xs ys = longer_right_at xs ys (leb (length xs) (length ys)) refl

module _ {V I O : Type 0} (log : V → List I) (origin : V → O) where
  abbrev K : Type 0
  K = Knows I O

  abbrev St : Type 0
  St = State (Option V) K

  -- views that change while the words and the slots stay
  record Regroup (s : St) (r : Stands log origin s) (w' : K) (p' : Sending) (views' : List K) (seat_of' : ℕ → ℕ) : Type 0 where
    at_writer : get_elem? views' 0 ≡ some w'
    is_writer : w'.role ≡ Writer p'
    sent : p'.sent ≡ r.sending.sent
    back : p'.back ≡ r.sending.back
    held : p'.held ≡ r.sending.held
    more : r.sending.started ≤ p'.started
    some_started : p'.started ≤ length r.sending.sent
    list : w'.list ≡ r.writer.list
    began : w'.origin ≡ r.writer.origin
    each_seat : (seat : ℕ) (v : K) → get_elem? views' seat ≡ some v → Says log origin w' p' seat_of' s.words s.homes seat v v.role

  regrouped : (s : St) (r : Stands log origin s) (w' : K) (p' : Sending) (views' : List K) (seat_of' : ℕ → ℕ) → Regroup s r w' p' views' seat_of'
      → Stands log origin record { words = s.words; homes = s.homes; views = views' }
  regrouped s r w' p' views' seat_of' h = record {
    writer = w';
    sending = p';
    at_writer = h.at_writer;
    is_writer = h.is_writer;
    wide = r.wide ∙ ap length (sym h.sent);
    deep = r.deep ∙ ap (λ (l : List ℕ). 3 * length l) (sym h.sent);
    backs = ap length h.back ∙ (r.backs ∙ ap length (sym h.sent));
    some_started = let e : length p'.sent ≡ length r.sending.sent = ap length h.sent in let l = h.some_started in omega arith;
    seat_of = seat_of';
    each_console = λ c l. console_else log origin r.writer w' r.sending p' s.homes s.homes c (get_or s.words c 0)
        record { slots = λ k i. refl; sent = ap (λ (l : List ℕ). get_or l c 0) h.sent; back = ap (λ (l : List ℕ). get_or l c 0) h.back }
        (λ i. let e = h.held in omega arith) (λ i. let e = h.more in let l : r.sending.started ≤ c = omega arith in (l, h.list))
        (subst (λ (l : List I). IsPrefix r.writer.list l) (sym h.list) (prefix_refl r.writer.list)) h.began
        (r.each_console c (let e : length p'.sent ≡ length r.sending.sent = ap length h.sent in omega arith));
    each_seat = h.each_seat;
  }

  -- a view is cut in two, and the new one claims no more than its list
  cut : (s : St) (r : Stands log origin s) (id : ℕ) (v u : K) → get_elem? s.views id ≡ some v → ((seat : ℕ) → Says log origin r.writer r.sending r.seat_of s.words s.homes seat u u.role)
      → Stands log origin record { words = s.words; homes = s.homes; views = set s.views id v ++ u ∷ [] }
  cut s r id v u at new =
      let same : set s.views id v ≡ s.views = set_again s.views id v at in
      subst (λ (vs : List K). Stands log origin record { words = s.words; homes = s.homes; views = vs ++ u ∷ [] }) (sym same)
      (regrouped s r r.writer r.sending (s.views ++ u ∷ []) r.seat_of record {
        at_writer = at_longer s.views (u ∷ []) 0 r.writer r.at_writer;
        is_writer = r.is_writer;
        sent = refl;
        back = refl;
        held = refl;
        more = omega arith;
        some_started = r.some_started;
        list = refl;
        began = refl;
        each_seat = λ seat x e. ⊎_elim (λ (t : get_elem? s.views seat ≡ some x). r.each_seat seat x t)
            (λ (t : (seat ≡ length s.views) × (u ≡ x)). subst (λ (y : K). Says log origin r.writer r.sending r.seat_of s.words s.homes seat y y.role) t.1 (new seat))
            (at_end s.views u x seat e);
      })

  -- a note of the writer: what was published was sent to each console
  pub notes : (id : ℕ) (v : K) (p : Sending) → v.role ≡ Writer p → ((c : ℕ) → c < length p.sent → sent_at p c ≡ length v.list) → Splits (Stands log origin) id v v (with_role Note v)
  notes id v p is all_sent s r at =
      let e = is_seat log origin s r id v p at is in
      let r' : Stands log origin s = retold log origin s r id v p e is in
      cut s r' id v (with_role Note v) at
      (λ seat. (record { begins = prefix_refl v.list; began = refl; olds = All-nil (λ (y : Old I O). IsPrefix y.list v.list × (y.origin ≡ v.origin)) }, λ c l. let a = all_sent c l in omega arith))

  -- a copy of what a reader has seen
  pub copies : (id : ℕ) (v : K) (q : Watching) → v.role ≡ Reader q → Splits (Stands log origin) id v v (with_role Copy v)
  copies id v q is s r at =
      let k = reader_knows log origin s r id v q at is in
      cut s r id v (with_role Copy v) at (λ seat. record { begins = k.0.begins; began = k.0.began; olds = All-nil (λ (y : Old I O). IsPrefix y.list r.writer.list × (y.origin ≡ r.writer.origin)) })

  -- what a seat's view says stays so while the writer's view only takes in lists or one reader more
  plays_same : (w w' : K) (p p' : Sending) (seat_of seat_of' : ℕ → ℕ) (words : List ℕ) (homes : Homes V) (seat : ℕ) (v : K) → IsPrefix w.list w'.list → w'.origin ≡ w.origin → p'.sent ≡ p.sent → p'.back ≡ p.back → p.started ≤ p'.started
      → ((c : ℕ) → c < p.started → seat_of' c ≡ seat_of c) → (role : Role) → Says log origin w p seat_of words homes seat v role → Says log origin w' p' seat_of' words homes seat v role
  plays_same w w' p p' f f' words homes seat v begins began sent back more same Spent k = k
  plays_same w w' p p' f f' words homes seat v begins began sent back more same Copy k = believes_more log origin w w' v begins began k
  plays_same w w' p p' f f' words homes seat v begins began sent back more same Note k = (
    believes_more log origin w w' v begins began k.0,
    subst (λ (l : List ℕ). (c : ℕ) → c < length l → length v.list ≤ get_or l c 0) (sym sent) k.1,
  )
  plays_same w w' p p' f f' words homes seat v begins began sent back more same (Writer q) k = (believes_more log origin w w' v begins began k.0, k.1)
  plays_same w w' p p' f f' words homes seat v begins began sent back more same (Reader q) k = (
    believes_more log origin w w' v begins began k.0,
    k.1 ∙ sym (same q.console k.2),
    (let l = k.2 in omega arith),
    k.3,
    watches_else p p' homes homes v.list q (get_or words q.console 0) record { slots = λ j i. refl; sent = ap (λ (l : List ℕ). get_or l q.console 0) sent; back = ap (λ (l : List ℕ). get_or l q.console 0) back } k.4,
  )

  -- the view of a reader that is told to begin at the console n
  abbrev arrival : K → ℕ → K
  arrival v n = record v { role = Reader (record { console = n; founds = []; front = 1; number = length v.list; pending = false; ready = false }); olds = [] }

  arrives : (s : St) (r : Stands log origin s) (id : ℕ) → id ≡ 0 → r.sending.started < length r.sending.sent
      → Stands log origin record { words = s.words; homes = s.homes; views = set s.views id (as_writer r.writer (record r.sending { started = r.sending.started + 1 })) ++ arrival r.writer r.sending.started ∷ [] }
  arrives s r id zero_is inside =
      let p : Sending = r.sending in
      let n : ℕ = p.started in
      let p' : Sending = record p { started = n + 1 } in
      let w' : K = as_writer r.writer p' in
      let u : K = arrival r.writer n in
      let seat_of' : ℕ → ℕ = put r.seat_of n (length s.views) in
      let vs : List K = set s.views id w' in
      let word : ℕ = get_or s.words n 0 in
      let k = (r.each_console n inside).unstarted (omega arith) in
      let nothing : AreOlds r.writer.list r.writer.origin [] = All-nil (λ (y : Old I O). IsPrefix y.list r.writer.list × (y.origin ≡ r.writer.origin)) in
      let new_seat : Says log origin w' p' seat_of' s.words s.homes (length s.views) u u.role = (
        record { begins = prefix_refl r.writer.list; began = refl; olds = nothing },
        sym (put_here r.seat_of n (length s.views)),
        omega arith,
        All-nil (λ (y : Old I O). length y.list ≤ length r.writer.list),
        record {
          apart = (omega arith, (λ e. let t = k.slot in omega arith), λ e. let t = k.back in omega arith);
          newest_sent = ap (λ b. cond b (number_in word) (length r.writer.list)) k.stale ∙ sym k.unpublished;
          seen_sent = omega arith;
          has_seen = omega arith;
          pends = λ e. absurd (cc e);
          unready = λ e. k.front;
        },
      ) in
      regrouped s r w' p' (vs ++ u ∷ []) seat_of' record {
        at_writer = at_longer vs (u ∷ []) 0 w' (subst (λ j. get_elem? (set s.views j w') 0 ≡ some w') (sym zero_is) (set_here s.views 0 w' (some_inside s.views r.writer r.at_writer)));
        is_writer = refl;
        sent = refl;
        back = refl;
        held = refl;
        more = omega arith;
        some_started = omega arith;
        list = refl;
        began = refl;
        each_seat = λ seat x e. ⊎_elim
            (λ (t : get_elem? vs seat ≡ some x). ⊎_elim
            (λ (y : (seat ≡ id) × (w' ≡ x)). subst (λ (z : K). Says log origin w' p' seat_of' s.words s.homes seat z z.role) y.1
            (record { begins = prefix_refl r.writer.list; began = refl; olds = writer_olds log origin s r }, y.0 ∙ zero_is))
            (λ (y : (seat ≢ id) × (get_elem? s.views seat ≡ some x)). plays_same r.writer w' p p' r.seat_of seat_of' s.words s.homes seat x (prefix_refl r.writer.list) refl refl refl (omega arith)
            (λ c l. put_else r.seat_of n (length s.views) c (λ i. omega arith)) x.role (r.each_seat seat x y.1))
            (at_set s.views id seat w' x t))
            (λ (t : (seat ≡ length vs) × (u ≡ x)). subst (λ (z : ℕ × K). Says log origin w' p' seat_of' s.words s.homes z.0 z.1 z.1.role) (λ i. (sym (t.0 ∙ length-set s.views id w') i, t.1 i)) new_seat)
            (at_end vs u x seat e);
      }

  -- one reader more
  pub enrolls : (id : ℕ) (v : K) (p : Sending) → v.role ≡ Writer p → p.started < length p.sent → Splits (Stands log origin) id v (record v { role = one_more v.role }) (newcomer v)
  enrolls id v p is inside s r at =
      let e = is_seat log origin s r id v p at is in
      let r' : Stands log origin s = retold log origin s r id v p e is in
      let left_is : as_writer v (record p { started = p.started + 1 }) ≡ record v { role = one_more v.role } = ap (λ (z : Role). let y : K = record v { role = z } in y) (ap one_more (sym is)) in
      let right_is : arrival v p.started ≡ newcomer v = ap (arrival v) (ap started_of (sym is)) in
      subst (λ (z : K × K). Stands log origin record { words = s.words; homes = s.homes; views = set s.views id z.0 ++ z.1 ∷ [] }) (λ i. (left_is i, right_is i)) (arrives s r' id e.zero_is inside)

  -- two views are joined, of which the second is left with nothing
  record Union (s : St) (r : Stands log origin s) (id other : ℕ) (both w' : K) (p' : Sending) : Type 0 where
    apart : other ≢ id
    at_writer : get_elem? (set (set s.views id both) other spent) 0 ≡ some w'
    is_writer : w'.role ≡ Writer p'
    sending_is : p' ≡ r.sending
    list : w'.list ≡ r.writer.list
    began : w'.origin ≡ r.writer.origin
    mine : Says log origin w' p' r.seat_of s.words s.homes id both both.role

  united : (s : St) (r : Stands log origin s) (id other : ℕ) (both w' : K) (p' : Sending) → Union s r id other both w' p'
      → Stands log origin record { words = s.words; homes = s.homes; views = set (set s.views id both) other spent }
  united s r id other both w' p' h =
      let begins : IsPrefix r.writer.list w'.list = subst (λ (l : List I). IsPrefix r.writer.list l) (sym h.list) (prefix_refl r.writer.list) in
      let started_is : p'.started ≡ r.sending.started = ap (λ (z : Sending). z.started) h.sending_is in
      regrouped s r w' p' (set (set s.views id both) other spent) r.seat_of record {
        at_writer = h.at_writer;
        is_writer = h.is_writer;
        sent = ap (λ (z : Sending). z.sent) h.sending_is;
        back = ap (λ (z : Sending). z.back) h.sending_is;
        held = ap (λ (z : Sending). z.held) h.sending_is;
        more = omega arith;
        some_started = let l = r.some_started in omega arith;
        list = h.list;
        began = h.began;
        each_seat = λ seat x e. ⊎_elim
            (λ (t : (seat ≡ other) × (spent ≡ x)). subst (λ (z : K). Says log origin w' p' r.seat_of s.words s.homes seat z z.role) t.1 tt)
            (λ (t : (seat ≢ other) × (get_elem? (set s.views id both) seat ≡ some x)). ⊎_elim
            (λ (y : (seat ≡ id) × (both ≡ x)). subst (λ (z : ℕ × K). Says log origin w' p' r.seat_of s.words s.homes z.0 z.1 z.1.role) (λ i. (sym y.0 i, y.1 i)) h.mine)
            (λ (y : (seat ≢ id) × (get_elem? s.views seat ≡ some x)). plays_same r.writer w' r.sending p' r.seat_of r.seat_of s.words s.homes seat x begins h.began
            (ap (λ (z : Sending). z.sent) h.sending_is) (ap (λ (z : Sending). z.back) h.sending_is) (omega arith) (λ c l. refl) x.role (r.each_seat seat x y.1))
            (at_set s.views id seat both x t.1))
            (at_set (set s.views id both) other seat spent x e);
      }

  -- a seat whose role is no writer's is not the writer's
  elsewhere : (s : St) (r : Stands log origin s) (id : ℕ) (v : K) → get_elem? s.views id ≡ some v → ((p : Sending) → v.role ≢ Writer p) → 0 ≢ id
  elsewhere s r id v at no_writer zero_is = no_writer r.sending (ap (λ (z : K). z.role) (some-injective v r.writer (sym at ∙ (ap (get_elem? s.views) (sym zero_is) ∙ r.at_writer))) ∙ r.is_writer)

  -- a reader takes in a note
  pub learns : (id : ℕ) (v : K) (q : Watching) (other : ℕ) (w : K) → v.role ≡ Reader q → w.role ≡ Note → Joins (Stands log origin) id v other w (informed v w) spent
  learns id v q other w is note s r at ne at_note =
      let both : K = informed v w in
      let at_w : get_elem? s.views other ≡ some w = sym (set_else s.views id other both ne) ∙ at_note in
      let k = reader_knows log origin s r id v q at is in
      let told : Says log origin r.writer r.sending r.seat_of s.words s.homes other w Note = subst (Says log origin r.writer r.sending r.seat_of s.words s.homes other w) note (r.each_seat other w at_w) in
      let h = k.4 in
      let inside : q.console < length r.sending.sent = (let a = k.2 in let b = r.some_started in omega arith) in
      let long_v : length v.list ≤ length both.list = longer_left v.list w.list in
      let long_w : length w.list ≤ length both.list = longer_right v.list w.list in
      let R : Old I O → Type 0 = λ y. IsPrefix y.list r.writer.list × (y.origin ≡ r.writer.origin) in
      let S : Old I O → Type 0 = λ y. length y.list ≤ length both.list in
      united s r id other both r.writer r.sending record {
        apart = ne;
        at_writer = set_else (set s.views id both) other 0 spent (elsewhere s r other w at_w (λ p e. let f : Note ≡ Writer p = sym note ∙ e in cc f))
            ∙ (set_else s.views id 0 both (elsewhere s r id v at (λ p e. let f : Reader q ≡ Writer p = sym is ∙ e in cc f)) ∙ r.at_writer);
        is_writer = r.is_writer;
        sending_is = refl;
        list = refl;
        began = refl;
        mine = subst (Says log origin r.writer r.sending r.seat_of s.words s.homes id both) (sym is) (
          record {
            begins = longer_is (λ (l : List I). IsPrefix l r.writer.list) v.list w.list k.0.begins told.0.begins;
            began = k.0.began;
            olds = All-append R v.olds (old_of v ∷ old_of w ∷ []) k.0.olds (All-cons R (old_of v) (old_of w ∷ []) (k.0.begins, k.0.began) (All-cons R (old_of w) [] (told.0.begins, told.0.began) (All-nil R)));
          },
          k.1,
          k.2,
          All-append S v.olds (old_of v ∷ old_of w ∷ []) (All-weaker (λ (y : Old I O). length y.list ≤ length v.list) S (λ y l. omega arith) v.olds k.3)
              (All-cons S (old_of v) (old_of w ∷ []) long_v (All-cons S (old_of w) [] long_w (All-nil S))),
          record {
            apart = h.apart;
            newest_sent = h.newest_sent;
            seen_sent = longer_is (λ (l : List I). length l ≤ sent_at r.sending q.console) v.list w.list h.seen_sent (told.1 q.console inside);
            has_seen = let l = h.has_seen in omega arith;
            pends = h.pends;
            unready = h.unready;
          },
        );
      }

  -- a seat that is not spent has a list where the published one begins
  believes_of : (w : K) (p : Sending) (seat_of : ℕ → ℕ) (words : List ℕ) (homes : Homes V) (seat : ℕ) (v : K) (role : Role) → role ≢ Spent → Says log origin w p seat_of words homes seat v role → Believes log origin w v
  believes_of w p f words homes seat v Spent ne k = absurd (ne refl)
  believes_of w p f words homes seat v Note ne k = k.0
  believes_of w p f words homes seat v Copy ne k = k
  believes_of w p f words homes seat v (Reader q) ne k = k.0
  believes_of w p f words homes seat v (Writer q) ne k = k.0

  -- the writer takes in a copy of what a reader has seen, or the reader itself
  pub compares : (id : ℕ) (v : K) (p : Sending) (other : ℕ) (w : K) → v.role ≡ Writer p → w.role ≢ Spent → Joins (Stands log origin) id v other w (compared v w) spent
  compares id v p other w is unspent s r at ne at_copy =
      let e = is_seat log origin s r id v p at is in
      let r' : Stands log origin s = retold log origin s r id v p e is in
      let both : K = compared v w in
      let at_w : get_elem? s.views other ≡ some w = sym (set_else s.views id other both ne) ∙ at_copy in
      let told : Believes log origin v w = believes_of v p r.seat_of s.words s.homes other w w.role unspent (r'.each_seat other w at_w) in
      let R : Old I O → Type 0 = λ y. IsPrefix y.list v.list × (y.origin ≡ v.origin) in
      united s r' id other both both p record {
        apart = ne;
        at_writer = set_else (set s.views id both) other 0 spent (λ z. ne (sym z ∙ sym e.zero_is))
            ∙ subst (λ j. get_elem? (set s.views j both) 0 ≡ some both) (sym e.zero_is) (set_here s.views 0 both (some_inside s.views v r'.at_writer));
        is_writer = is;
        sending_is = refl;
        list = refl;
        began = refl;
        mine = subst (Says log origin both p r.seat_of s.words s.homes id both) (sym is) (
          record { begins = prefix_refl v.list; began = refl; olds = All-append R v.olds (old_of w ∷ []) (writer_olds log origin s r') (All-cons R (old_of w) [] (told.begins, told.began) (All-nil R)) },
          e.zero_is,
        );
      }
