-- The steps of the writer keep the rule.
use Rattle.std.proofs.Common.{◌≡◌, ◌≢◌, ℕ, ◌+◌, ◌*◌, ◌^◌, ◌<◌, ◌≤◌, true, cond, List, [], ◌∷◌, length, get_or, set, sym, refl, ap, ◌∙◌, subst, arith, Option, Some, None, length-set, get_or-set_same, get_or-set_other}
use mathlib.Core.Option.{none, some, some-injective, some-ne-none}
use lib.ListN.{get_elem?}
use Rattle.std.proofs.lemmas.List.Elements.{All-nil}
use Rattle.atomic_table.specs.Table.{State, Me, step, keeps, takes, gives, chain, Allows}
use Rattle.atomic_table.proofs.Lists.{set_here, set_else}
use Rattle.board.specs.declared.views.Knows.{Knows}
use Rattle.board.specs.declared.views.Old.{Old}
use Rattle.board.specs.declared.views.Sending.{Sending}
use Rattle.board.specs.declared.views.Watching.{Watching}
use Rattle.board.specs.declared.views.Role.{Role}
use Rattle.board.specs.declared.views.Role.TheVariants.{Writer}
use Rattle.board.specs.Lists.{IsPrefix}
use Rattle.board.specs.Word.{slot_in, number_in, is_fresh}
use Rattle.board.specs.Views.{sent_at, back_at, as_writer, settled}
use Rattle.board.specs.Rule.{Watches, AreOlds, Console, Says, Stands}
use Rattle.board.specs.Steps.{claims, settles, Delivered, delivers}
use Rattle.board.proofs.Prefixes.{prefix_refl, prefix_length}
use Rattle.board.proofs.Places.{two_slots, one_slot}
use Rattle.board.proofs.Frames.{Homes, SameAt, changed, olds_more}

abbrev sending_or : Sending → Role → Sending
sending_or d (Writer p) = p
sending_or d _ = d

pub some_inside : {A : Type 0} (l : List A) (a : A) → get_elem? l 0 ≡ some a → 0 < length l
some_inside [] a e = absurd (some-ne-none a (sym e))
some_inside (x ∷ xs) a e = omega arith

module _ {V I O : Type 0} (log : V → List I) (origin : V → O) where
  abbrev K : Type 0
  K = Knows I O

  abbrev St : Type 0
  St = State (Option V) K

  abbrev M : Type 0
  M = Me (Option V) K

  same_writer : (F : Sending → Type 0) (role : Role) (p p' : Sending) → role ≡ Writer p → role ≡ Writer p' → F p → F p'
  same_writer F role p p' is is' h = subst F (ap (sending_or p) (sym is ∙ is')) h

  -- a seat with the writer's role is the writer's
  pub record IsSeat (s : St) (r : Stands log origin s) (id : ℕ) (v : K) (p : Sending) : Type 0 where
    pub zero_is : id ≡ 0
    pub view_is : r.writer ≡ v
    pub sending_is : r.sending ≡ p

  pub is_seat : (s : St) (r : Stands log origin s) (id : ℕ) (v : K) (p : Sending) → get_elem? s.views id ≡ some v → v.role ≡ Writer p → IsSeat s r id v p
  is_seat s r id v p at is =
      let k : Says log origin r.writer r.sending r.seat_of s.words s.homes id v (Writer p) = subst (Says log origin r.writer r.sending r.seat_of s.words s.homes id v) is (r.each_seat id v at) in
      let same : r.writer ≡ v = some-injective r.writer v (sym r.at_writer ∙ subst (λ j. get_elem? s.views j ≡ some v) k.1 at) in
      record { zero_is = k.1; view_is = same; sending_is = ap (sending_or r.sending) (sym r.is_writer ∙ (ap (λ (z : K). z.role) same ∙ is)) }

  -- the rule, told with the seat's view
  abbrev pub retold : (s : St) (r : Stands log origin s) (id : ℕ) (v : K) (p : Sending) → IsSeat s r id v p → v.role ≡ Writer p → Stands log origin s
  retold s r id v p e is = record {
    writer = v;
    sending = p;
    at_writer = r.at_writer ∙ ap (λ (z : K). some z) e.view_is;
    is_writer = is;
    wide = r.wide ∙ ap (λ (z : Sending). length z.sent) e.sending_is;
    deep = r.deep ∙ ap (λ (z : Sending). 3 * length z.sent) e.sending_is;
    backs = subst (λ (z : Sending). length z.back ≡ length z.sent) e.sending_is r.backs;
    some_started = subst (λ (z : Sending). z.started ≤ length z.sent) e.sending_is r.some_started;
    seat_of = r.seat_of;
    each_console = subst (λ (z : K × Sending). (c : ℕ) → c < length z.1.sent → Console log origin z.0 z.1 s.homes c (get_or s.words c 0)) (λ i. (e.view_is i, e.sending_is i)) r.each_console;
    each_seat = subst (λ (z : K × Sending). (seat : ℕ) (u : K) → get_elem? s.views seat ≡ some u → Says log origin z.0 z.1 r.seat_of s.words s.homes seat u u.role) (λ i. (e.view_is i, e.sending_is i)) r.each_seat;
  }

  -- what a step of the writer has to show
  record Step (s : St) (r : Stands log origin s) (c x : ℕ) (homes' : Homes V) (w' : K) (p' : Sending) : Type 0 where
    role : w'.role ≡ Writer p'
    inside : c < length r.sending.sent
    sent_len : length p'.sent ≡ length r.sending.sent
    back_len : length p'.back ≡ length r.sending.back
    started : p'.started ≡ r.sending.started
    unpublished : (d : ℕ) → d < length r.sending.sent → r.sending.started ≤ d → w'.list ≡ r.writer.list
    deep : length homes' ≡ length s.homes
    others : (d : ℕ) → d ≢ c → SameAt r.sending p' s.homes homes' d
    held : (d : ℕ) → d ≢ c → p'.held ≤ d → r.sending.held ≤ d
    grows : sent_at r.sending c ≤ sent_at p' c
    begins : IsPrefix r.writer.list w'.list
    began : w'.origin ≡ r.writer.origin
    console : Console log origin w' p' homes' c x
    olds : AreOlds w'.list w'.origin w'.olds
    reader : (q : Watching) (seen : List I) → q.console ≡ c → Watches r.sending s.homes seen q (get_or s.words q.console 0) → Watches p' homes' seen q x

  stepped_writer : (s : St) (r : Stands log origin s) (c x id : ℕ) (homes' : Homes V) (w' : K) (p' : Sending) → id ≡ 0 → Step s r c x homes' w' p'
      → Stands log origin record { words = set s.words c x; homes = homes'; views = set s.views id w' }
  stepped_writer s r c x id homes' w' p' zero_is h =
      changed log origin s r c x id homes' w' w' p' record {
        inside = h.inside;
        here = (r.writer, subst (λ j. get_elem? s.views j ≡ some r.writer) (sym zero_is) r.at_writer);
        at_writer = subst (λ j. get_elem? (set s.views j w') 0 ≡ some w') (sym zero_is) (set_here s.views 0 w' (some_inside s.views r.writer r.at_writer));
        is_writer = h.role;
        sent_len = h.sent_len;
        back_len = h.back_len;
        started = h.started;
        unpublished = h.unpublished;
        deep = h.deep;
        others = h.others;
        held = h.held;
        grows = h.grows;
        begins = h.begins;
        began = h.began;
        console = h.console;
        mine = subst (Says log origin w' p' r.seat_of (set s.words c x) homes' id w') (sym h.role) (record { begins = prefix_refl w'.list; began = refl; olds = h.olds }, zero_is);
        reader = λ q seen e ne watches. h.reader q seen e watches;
      }

  pub writer_olds : (s : St) (r : Stands log origin s) → AreOlds r.writer.list r.writer.origin r.writer.olds
  writer_olds s r = let k : Says log origin r.writer r.sending r.seat_of s.words s.homes 0 r.writer (Writer r.sending) =
      subst (Says log origin r.writer r.sending r.seat_of s.words s.homes 0 r.writer) r.is_writer (r.each_seat 0 r.writer r.at_writer) in k.0.olds

  claim_step : (s : St) (r : Stands log origin s) (c : ℕ) → r.sending.held ≡ c → c < length r.sending.sent
      → Step s r c (get_or s.words c 0) (set s.homes (3 * c + back_at r.sending c) none) (as_writer r.writer (record r.sending { held = r.sending.held + 1 })) (record r.sending { held = r.sending.held + 1 })
  claim_step s r c next inside =
      let k = r.each_console c inside in
      let f : ℕ = 3 * c + back_at r.sending c in
      let found : ℕ = get_or s.words c 0 in record {
        role = refl;
        inside = inside;
        sent_len = refl;
        back_len = refl;
        started = refl;
        unpublished = λ d i l. refl;
        deep = length-set s.homes f none;
        others = λ d ne. record { slots = λ j l. one_slot s.homes c d j (back_at r.sending c) none ne l k.apart.1; sent = refl; back = refl };
        held = λ d ne l. omega arith;
        grows = omega arith;
        begins = prefix_refl r.writer.list;
        began = refl;
        console = record {
          apart = k.apart;
          narrow = k.narrow;
          version = k.version;
          lies = set_else s.homes f (3 * c + slot_in found) none (λ e. k.apart.2 (omega arith)) ∙ k.lies;
          is_version = record { begins = k.is_version.begins; numbered = k.is_version.numbered; began_there = k.is_version.began_there };
          sent = k.sent;
          unheld = λ l. absurd (omega arith);
          unstarted = λ l. let u = k.unstarted l in record {
            stale = u.stale;
            numbered = u.numbered;
            unpublished = u.unpublished;
            slot = u.slot;
            back = u.back;
            front = set_else s.homes f (3 * c + 1) none (λ e. let z = u.back in omega arith) ∙ u.front;
          };
        };
        olds = writer_olds s r;
        reader = λ q seen e h. let found_is : get_or s.words q.console 0 ≡ found = ap (λ j. get_or s.words j 0) e in
            let h' : Watches r.sending s.homes seen q found = subst (λ (n : ℕ). Watches r.sending s.homes seen q n) found_is h in record {
              apart = h'.apart;
              newest_sent = h'.newest_sent;
              seen_sent = h'.seen_sent;
              has_seen = h'.has_seen;
              pends = h'.pends;
              unready = λ u. set_else s.homes f (3 * q.console + q.front) none (λ i. h'.apart.2 (let b : back_at r.sending q.console ≡ back_at r.sending c = ap (back_at r.sending) e in omega arith)) ∙ h'.unready u;
            };
      }

  -- the writer takes its slot of the next console
  pub claims_allowed : (slots id : ℕ) (m : M) (p : Sending) (c : ℕ) → m.0.role ≡ Writer p → p.held ≡ c → c < length p.sent → Allows (Stands log origin) slots id m c (λ n. n) (claims (step slots c 0 0 none) m)
  claims_allowed slots id m p c is next inside s r deep at lt =
      let e = is_seat s r id m.0 p at is in
      let r' : Stands log origin s = retold s r id m.0 p e is in
      let p' : Sending = record p { held = p.held + 1 } in
      let v' : K = as_writer m.0 p' in
      let f : ℕ = 3 * c + back_at p c in (
        v',
        takes f None,
        (r'.each_console c inside).unheld (omega arith),
        stepped_writer s r' c (get_or s.words c 0) id (set s.homes f none) v' p' e.zero_is (claim_step s r' c next inside),
        λ z is'. same_writer (λ z. let m' : M = (v', (f, None) ∷ m.1) in m' ≡ (as_writer m.0 (record z { held = z.held + 1 }), (3 * c + back_at z c, None) ∷ m.1)) m.0.role p z is is' refl,
      )

  -- what was joined to the writer's view was published
  pub writer_settles : (slots id : ℕ) (m : M) (p : Sending) → m.0.role ≡ Writer p → 0 < length p.sent → Allows (Stands log origin) slots id m 0 (λ n. n) (settles (step slots 0 0 0 none) m)
  writer_settles slots id m p is some_console s r deep at lt =
      let e = is_seat s r id m.0 p at is in
      let r' : Stands log origin s = retold s r id m.0 p e is in
      let v' : K = settled m.0 in
      let k = r'.each_console 0 some_console in (
        v',
        keeps,
        tt,
        stepped_writer s r' 0 (get_or s.words 0 0) id s.homes v' p e.zero_is record {
          role = is;
          inside = some_console;
          sent_len = refl;
          back_len = refl;
          started = refl;
          unpublished = λ d i l. refl;
          deep = refl;
          others = λ d ne. record { slots = λ j l. refl; sent = refl; back = refl };
          held = λ d ne l. l;
          grows = omega arith;
          begins = prefix_refl m.0.list;
          began = refl;
          console = record {
            apart = k.apart;
            narrow = k.narrow;
            version = k.version;
            lies = k.lies;
            is_version = record { begins = k.is_version.begins; numbered = k.is_version.numbered; began_there = k.is_version.began_there };
            sent = k.sent;
            unheld = k.unheld;
            unstarted = k.unstarted;
          };
          olds = All-nil (λ (y : Old I O). IsPrefix y.list m.0.list × (y.origin ≡ m.0.origin));
          reader = λ q seen at_0 h. subst (λ (n : ℕ). Watches p s.homes seen q n) (ap (λ j. get_or s.words j 0) at_0) h;
        },
        (refl, writer_olds s r'),
      )

  abbrev first_or : V → List (ℕ × Option V) → V
  first_or d ((k, Some v) ∷ xs) = v
  first_or d _ = d

  -- the writer's view after a version went to a console whose word named the slot `mid`
  abbrev sent_to : K → Sending → ℕ → V → ℕ → K
  sent_to v p c new mid = record (as_writer v (record p { sent = set p.sent c (length (log new)); back = set p.back c mid })) { list = log new }

  -- a delivery at a console, and what is asked of it
  record Delivery (v : K) (p : Sending) (c x : ℕ) (new : V) : Type 0 where
    role : v.role ≡ Writer p
    inside : c < length p.sent
    all_held : p.held ≡ length p.sent
    all_started : p.started ≡ length p.sent
    begins : IsPrefix v.list (log new)
    began : v.origin ≡ Some (origin new)
    narrow : length (log new) < 2 ^ 32
    slot : slot_in x ≡ back_at p c
    fresh : is_fresh x ≡ true
    number : number_in x ≡ length (log new)

  delivery_step : (s : St) (r : Stands log origin s) (c x : ℕ) (new : V) → Delivery r.writer r.sending c x new
      → Step s r c x (set (set s.homes (3 * c + back_at r.sending c) (some (Some new))) (3 * c + slot_in (get_or s.words c 0)) none) (sent_to r.writer r.sending c new (slot_in (get_or s.words c 0)))
      (record r.sending { sent = set r.sending.sent c (length (log new)); back = set r.sending.back c (slot_in (get_or s.words c 0)) })
  delivery_step s r c x new d =
      let p : Sending = r.sending in
      let k = r.each_console c d.inside in
      let found : ℕ = get_or s.words c 0 in
      let mid : ℕ = slot_in found in
      let f : ℕ = 3 * c + back_at p c in
      let n : ℕ = 3 * c + mid in
      let given : Homes V = set s.homes f (some (Some new)) in
      let homes' : Homes V = set given n none in
      let p' : Sending = record p { sent = set p.sent c (length (log new)); back = set p.back c mid } in
      let longer : length r.writer.list ≤ length (log new) = prefix_length r.writer.list (log new) d.begins in
      let sent_now : sent_at p' c ≡ length (log new) = get_or-set_same p.sent c (length (log new)) 0 d.inside in
      let back_now : back_at p' c ≡ mid = get_or-set_same p.back c mid 0 (let e = r.backs in let l = d.inside in omega arith) in
      let other : n ≢ f = (λ e. k.apart.2 (omega arith)) in
      let room : f < length s.homes = (let e = r.deep in let l = d.inside in let b = k.apart.1 in omega arith) in record {
        role = refl;
        inside = d.inside;
        sent_len = length-set p.sent c (length (log new));
        back_len = length-set p.back c mid;
        started = refl;
        unpublished = λ j i l. absurd (let a = d.all_started in omega arith);
        deep = length-set given n none ∙ length-set s.homes f (some (Some new));
        others = λ j ne. record {
          slots = λ i l. two_slots s.homes c j i (back_at p c) mid (some (Some new)) none ne l k.apart.1 k.apart.0;
          sent = get_or-set_other p.sent c j (length (log new)) 0 ne;
          back = get_or-set_other p.back c j mid 0 ne;
        };
        held = λ j ne l. l;
        grows = let l = k.sent in omega arith;
        begins = d.begins;
        began = refl;
        console = record {
          apart = (subst (λ (y : ℕ). y < 3) (sym d.slot) k.apart.1, subst (λ (y : ℕ). y < 3) (sym back_now) k.apart.0, λ e. k.apart.2 (sym back_now ∙ (sym e ∙ d.slot)));
          narrow = subst (λ (y : ℕ). y < 2 ^ 32) (sym d.number) d.narrow;
          version = new;
          lies = ap (λ (y : ℕ). get_elem? homes' (3 * c + y)) d.slot ∙ (set_else given n f none (λ e. other (sym e)) ∙ set_here s.homes f (some (Some new)) room);
          is_version = record { begins = prefix_refl (log new); numbered = sym d.number; began_there = d.began };
          sent = omega arith;
          unheld = λ l. absurd (let a = d.all_held in let b = d.inside in omega arith);
          unstarted = λ l. absurd (let a = d.all_started in let b = d.inside in omega arith);
        };
        olds = olds_more r.writer.list (log new) r.writer.origin r.writer.origin r.writer.olds d.begins refl (writer_olds s r);
        reader = λ q seen e h.
            let found_is : get_or s.words q.console 0 ≡ found = ap (λ j. get_or s.words j 0) e in
            let h' : Watches p s.homes seen q found = subst (λ (n : ℕ). Watches p s.homes seen q n) found_is h in
            let back_is : back_at p q.console ≡ back_at p c = ap (back_at p) e in
            let sent_is : sent_at p q.console ≡ sent_at p c = ap (sent_at p) e in
            let back_is' : back_at p' q.console ≡ mid = ap (back_at p') e ∙ back_now in
            let sent_is' : sent_at p' q.console ≡ length (log new) = ap (sent_at p') e ∙ sent_now in
            let in_list : sent_at p c ≤ length r.writer.list = k.sent in record {
              apart = (h'.apart.0, λ i. h'.apart.2 (i ∙ (d.slot ∙ sym back_is)), λ i. h'.apart.1 (i ∙ back_is'));
              newest_sent = ap (λ b. cond b (number_in x) q.number) d.fresh ∙ (d.number ∙ sym sent_is');
              seen_sent = let l = h'.seen_sent in omega arith;
              has_seen = h'.has_seen;
              pends = λ u. let t = h'.pends u in let now : number_in found ≡ sent_at p q.console = ap (λ b. cond b (number_in found) q.number) (sym t.0) ∙ h'.newest_sent in
                  (d.fresh, let num = d.number in let l = t.1 in omega arith);
              unready = λ u. let home : ℕ = 3 * q.console + q.front in set_else given n home none (λ i. h'.apart.1 (omega arith)) ∙ (set_else s.homes f home (some (Some new)) (λ i. h'.apart.2 (omega arith)) ∙ h'.unready u);
            };
      }

  delivers_at : (slots id : ℕ) (v : K) (p : Sending) (c x : ℕ) (new : V) (cs : List (ℕ × Option V)) → Delivery v p c x new
      → Allows (Stands log origin) slots id (v, (3 * c + back_at p c, Some new) ∷ cs) c (λ _. x) (delivers log origin (step slots c x 0 none) (v, (3 * c + back_at p c, Some new) ∷ cs))
  delivers_at slots id v p c x new cs d s r deep at lt =
      let e = is_seat s r id v p at d.role in
      let r' : Stands log origin s = retold s r id v p e d.role in
      let k = r'.each_console c d.inside in
      let found : ℕ = get_or s.words c 0 in
      let mid : ℕ = slot_in found in
      let f : ℕ = 3 * c + back_at p c in
      let n : ℕ = 3 * c + mid in
      let m : M = (v, (f, Some new) ∷ cs) in
      let p' : Sending = record p { sent = set p.sent c (length (log new)); back = set p.back c mid } in
      let v' : K = sent_to v p c new mid in
      let m' : M = (v', (n, Some k.version) ∷ cs) in
      let delivered : Delivered log origin m p c new found m' = record { left = Some k.version; slot = k.apart.0; after = refl } in
      let homes' : Homes V = set (set s.homes f (some (Some new))) n none in (
        v',
        chain gives (takes n (Some k.version)),
        (tt, set_else s.homes f n (some (Some new)) (λ i. k.apart.2 (omega arith)) ∙ k.lies),
        stepped_writer s r' c x id homes' v' p' e.zero_is (delivery_step s r' c x new d),
        λ z j u is' held'. subst (λ (y : V). Delivered log origin m z c y found m') (ap (first_or new) held')
            (same_writer (λ z. Delivered log origin m z c new found m') v.role p z d.role is' delivered),
      )

  -- the writer gives its slot of a console, with a version, for the word's
  pub delivers_allowed : (slots id : ℕ) (m : M) (p : Sending) (c x : ℕ) (new : V) (cs : List (ℕ × Option V)) → m.1 ≡ (3 * c + back_at p c, Some new) ∷ cs
      → m.0.role ≡ Writer p → c < length p.sent → p.held ≡ length p.sent → p.started ≡ length p.sent → IsPrefix m.0.list (log new) → m.0.origin ≡ Some (origin new) → length (log new) < 2 ^ 32
      → slot_in x ≡ back_at p c → is_fresh x ≡ true → number_in x ≡ length (log new)
      → Allows (Stands log origin) slots id m c (λ _. x) (delivers log origin (step slots c x 0 none) m)
  delivers_allowed slots id m p c x new cs carried role inside all_held all_started begins began narrow slot fresh number =
      subst (λ (cs : List (ℕ × Option V)). let m' : M = (m.0, cs) in Allows (Stands log origin) slots id m' c (λ _. x) (delivers log origin (step slots c x 0 none) m')) (sym carried)
      (delivers_at slots id m.0 p c x new cs record {
        role = role;
        inside = inside;
        all_held = all_held;
        all_started = all_started;
        begins = begins;
        began = began;
        narrow = narrow;
        slot = slot;
        fresh = fresh;
        number = number;
      })
