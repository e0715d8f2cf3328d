-- The steps of a reader keep the rule.
use Rattle.std.proofs.Common.{◌≡◌, ◌≢◌, ℕ, ◌+◌, ◌*◌, ◌^◌, ◌<◌, ◌≤◌, true, false, cond, List, [], ◌∷◌, length, get_or, set, sym, refl, ap, ◌∙◌, subst, arith, Option, Some, None, length-set, get_or-set_same, All}
use mathlib.Core.Option as maybe
use mathlib.Core.Option.{none, some, some-injective}
use lib.ListN.{get_elem?}
use Rattle.std.proofs.lemmas.List.Elements.{All-weaker, All-nil}
use Rattle.atomic_table.specs.Table.{State, Me, step, keeps, takes, gives, chain, Allows}
use Rattle.atomic_table.proofs.Lists.{set_here, set_else}
use Rattle.board.specs.declared.views.Knows.{Knows}
use Rattle.board.specs.declared.views.Old.{Old}
use Rattle.board.specs.declared.views.Sending.{Sending}
use Rattle.board.specs.declared.views.Watching.{Watching}
use Rattle.board.specs.declared.views.Role.{Role}
use Rattle.board.specs.declared.views.Role.TheVariants.{Reader, Writer}
use Rattle.board.specs.Lists.{IsPrefix}
use Rattle.board.specs.Word.{slot_in, number_in, is_fresh}
use Rattle.board.specs.Views.{sent_at, back_at, newest, looked, as_reader, settled}
use Rattle.board.specs.Rule.{Watches, IsVersion, Console, Believes, Says, Stands}
use Rattle.board.specs.Steps.{arms, leaves, looks, settles, Collected, collects}
use Rattle.board.proofs.Prefixes.{prefix_refl, prefix_trans, prefix_shorter, last_snoc}
use Rattle.board.proofs.Places.{two_slots, one_slot}
use Rattle.board.proofs.Frames.{Homes, changed}

abbrev watching_or : Watching → Role → Watching
watching_or d (Reader r) = r
watching_or d _ = d

module _ {V I O : Type 0} (log : V → List I) (origin : V → O) where
  abbrev K : Type 0
  K = Knows I O

  abbrev St : Type 0
  St = State (Option V) K

  abbrev M : Type 0
  M = Me (Option V) K

  same_reader : (F : Watching → Type 0) (role : Role) (q q' : Watching) → role ≡ Reader q → role ≡ Reader q' → F q → F q'
  same_reader F role q q' is is' h = subst F (ap (watching_or q) (sym is ∙ is')) h

  pub reader_knows : (s : St) (r : Stands log origin s) (id : ℕ) (v : K) (q : Watching) → get_elem? s.views id ≡ some v → v.role ≡ Reader q
      → Says log origin r.writer r.sending r.seat_of s.words s.homes id v (Reader q)
  reader_knows s r id v q at is = subst (Says log origin r.writer r.sending r.seat_of s.words s.homes id v) is (r.each_seat id v at)

  -- the writer's seat is no reader's
  pub not_writer : (s : St) (r : Stands log origin s) (v : K) (q : Watching) → v.role ≡ Reader q → get_elem? s.views 0 ≡ some v → ⊥
  not_writer s r v q is at =
      let same : v ≡ r.writer = some-injective v r.writer (sym at ∙ r.at_writer) in
      let roles : Reader q ≡ Writer r.sending = sym is ∙ (ap (λ (z : K). z.role) same ∙ r.is_writer) in cc roles

  -- what a step of a reader has to show
  record Step (s : St) (r : Stands log origin s) (q : Watching) (x id : ℕ) (homes' : Homes V) (v' : K) (q' : Watching) : Type 0 where
    role : v'.role ≡ Reader q'
    console_is : q'.console ≡ q.console
    deep : length homes' ≡ length s.homes
    slots : (d k : ℕ) → d ≢ q.console → k < 3 → get_elem? homes' (3 * d + k) ≡ get_elem? s.homes (3 * d + k)
    console : Console log origin r.writer r.sending homes' q.console x
    believes : Believes log origin r.writer v'
    olds : All (λ (y : Old I O). length y.list ≤ length v'.list) v'.olds
    watches : Watches r.sending homes' v'.list q' x

  stepped_reader : (s : St) (r : Stands log origin s) (q : Watching) (x id : ℕ) (homes' : Homes V) (v v' : K) (q' : Watching) → get_elem? s.views id ≡ some v → v.role ≡ Reader q
      → Step s r q x id homes' v' q' → Stands log origin record { words = set s.words q.console x; homes = homes'; views = set s.views id v' }
  stepped_reader s r q x id homes' v v' q' at is h =
      let k = reader_knows s r id v q at is in
      let seat : id ≡ r.seat_of q.console = k.1 in
      let inside : q.console < length r.sending.sent = (let a = k.2 in let b = r.some_started in omega arith) in
      let here : get_or (set s.words q.console x) q.console 0 ≡ x = get_or-set_same s.words q.console x 0 (let e = r.wide in omega arith) in
      let here' : x ≡ get_or (set s.words q.console x) q'.console 0 = sym (ap (λ j. get_or (set s.words q.console x) j 0) h.console_is ∙ here) in
      changed log origin s r q.console x id homes' v' r.writer r.sending record {
        inside = inside;
        here = (v, at);
        at_writer = set_else s.views id 0 v' (λ e. not_writer s r v q is (subst (λ j. get_elem? s.views j ≡ some v) (sym e) at)) ∙ r.at_writer;
        is_writer = r.is_writer;
        sent_len = refl;
        back_len = refl;
        started = refl;
        unpublished = λ d i l. refl;
        deep = h.deep;
        others = λ d ne. record { slots = λ j l. h.slots d j ne l; sent = refl; back = refl };
        held = λ d ne l. l;
        grows = omega arith;
        begins = prefix_refl r.writer.list;
        began = refl;
        console = h.console;
        mine = subst (Says log origin r.writer r.sending r.seat_of (set s.words q.console x) homes' id v') (sym h.role)
            (h.believes, (seat ∙ ap r.seat_of (sym h.console_is)), (let a = k.2 in let e = h.console_is in omega arith), h.olds, subst (Watches r.sending homes' v'.list q') here' h.watches);
        reader = λ q'' seen e ne. absurd (ne (ap r.seat_of e ∙ sym seat));
      }

  -- what is newest at the console is what was sent there, of which all that was seen is a beginning
  pub looks_allowed : (slots id : ℕ) (m : M) (q : Watching) → m.0.role ≡ Reader q → Allows (Stands log origin) slots id m q.console (λ n. n) (looks (step slots q.console 0 0 none) m)
  looks_allowed slots id m q is s r deep at lt =
      let found : ℕ = get_or s.words q.console 0 in
      let k = reader_knows s r id m.0 q at is in
      let w = k.4 in
      let inside : q.console < length r.sending.sent = (let a = k.2 in let b = r.some_started in omega arith) in
      let seen : length m.0.list ≤ newest found q = (let a = w.newest_sent in let b = w.seen_sent in omega arith) in
      let v' : K = as_reader m.0 (looked found q) in (
        v',
        keeps,
        tt,
        stepped_reader s r q found id s.homes m.0 v' (looked found q) at is record {
          role = refl;
          console_is = refl;
          deep = refl;
          slots = λ d j ne l. refl;
          console = r.each_console q.console inside;
          believes = record { begins = k.0.begins; began = k.0.began; olds = k.0.olds };
          olds = k.3;
          watches = record {
            apart = w.apart;
            newest_sent = w.newest_sent;
            seen_sent = w.seen_sent;
            has_seen = w.has_seen;
            pends = λ fresh. (fresh, let e = last_snoc 0 q.founds (newest found q) in let f : newest found q ≡ number_in found = ap (λ b. cond b (number_in found) q.number) fresh in omega arith);
            unready = w.unready;
          };
        },
        λ q' is'. same_reader (λ z. let m' : M = (v', m.1) in (m' ≡ (as_reader m.0 (looked found z), m.1)) × (length m.0.list ≤ newest found z)) m.0.role q q' is is' (refl, seen),
      )

  -- where the reader's own slot changes, its console is as it was
  console_beside : (p : Sending) (writer : K) (homes : Homes V) (seen : List I) (q : Watching) (found : ℕ) (x : maybe.Option (Option V)) → Watches p homes seen q found → q.console < p.started
      → Console log origin writer p homes q.console found → Console log origin writer p (set homes (3 * q.console + q.front) x) q.console found
  console_beside p writer homes seen q found x watches started c = record {
    apart = c.apart;
    narrow = c.narrow;
    version = c.version;
    lies = set_else homes (3 * q.console + q.front) (3 * q.console + slot_in found) x (λ e. watches.apart.1 (omega arith)) ∙ c.lies;
    is_version = c.is_version;
    sent = c.sent;
    unheld = λ l. set_else homes (3 * q.console + q.front) (3 * q.console + back_at p q.console) x (λ e. watches.apart.2 (omega arith)) ∙ c.unheld l;
    unstarted = λ l. absurd (omega arith);
  }

  pub arms_allowed : (slots id : ℕ) (m : M) (q : Watching) → m.0.role ≡ Reader q → q.ready ≡ false → Allows (Stands log origin) slots id m q.console (λ n. n) (arms (step slots q.console 0 0 none) m)
  arms_allowed slots id m q is unready s r deep at lt =
      let found : ℕ = get_or s.words q.console 0 in
      let k = reader_knows s r id m.0 q at is in
      let w = k.4 in
      let inside : q.console < length r.sending.sent = (let a = k.2 in let b = r.some_started in omega arith) in
      let c = r.each_console q.console inside in
      let q' : Watching = record q { ready = true } in
      let v' : K = as_reader m.0 q' in
      let homes' : Homes V = set s.homes (3 * q.console + q.front) none in (
        v',
        takes (3 * q.console + q.front) None,
        w.unready unready,
        stepped_reader s r q found id homes' m.0 v' q' at is record {
          role = refl;
          console_is = refl;
          deep = length-set s.homes (3 * q.console + q.front) none;
          slots = λ d j ne l. one_slot s.homes q.console d j q.front none ne l w.apart.0;
          console = console_beside r.sending r.writer s.homes m.0.list q found none w k.2 c;
          believes = record { begins = k.0.begins; began = k.0.began; olds = k.0.olds };
          olds = k.3;
          watches = record {
            apart = w.apart;
            newest_sent = w.newest_sent;
            seen_sent = w.seen_sent;
            has_seen = w.has_seen;
            pends = w.pends;
            unready = λ e. absurd (cc e);
          };
        },
        λ z is'. same_reader (λ z. let m' : M = (v', (3 * q.console + q.front, None) ∷ m.1) in m' ≡ (as_reader m.0 (record z { ready = true }), (3 * z.console + z.front, None) ∷ m.1)) m.0.role q z is is' refl,
      )

  leaves_at : (slots id : ℕ) (v : K) (q : Watching) (cs : List (ℕ × Option V)) → v.role ≡ Reader q
      → Allows (Stands log origin) slots id (v, (3 * q.console + q.front, None) ∷ cs) q.console (λ n. n) (leaves (step slots q.console 0 0 none) (v, (3 * q.console + q.front, None) ∷ cs))
  leaves_at slots id v q cs is s r deep at lt =
      let found : ℕ = get_or s.words q.console 0 in
      let k = reader_knows s r id v q at is in
      let w = k.4 in
      let inside : q.console < length r.sending.sent = (let a = k.2 in let b = r.some_started in omega arith) in
      let c = r.each_console q.console inside in
      let f : ℕ = 3 * q.console + q.front in
      let room : f < length s.homes = (let d = r.deep in let a = w.apart.0 in omega arith) in
      let q' : Watching = record q { ready = false } in
      let v' : K = as_reader v q' in
      let homes' : Homes V = set s.homes f (some None) in (
        v',
        gives,
        tt,
        stepped_reader s r q found id homes' v v' q' at is record {
          role = refl;
          console_is = refl;
          deep = length-set s.homes f (some None);
          slots = λ d j ne l. one_slot s.homes q.console d j q.front (some None) ne l w.apart.0;
          console = console_beside r.sending r.writer s.homes v.list q found (some None) w k.2 c;
          believes = record { begins = k.0.begins; began = k.0.began; olds = k.0.olds };
          olds = k.3;
          watches = record {
            apart = w.apart;
            newest_sent = w.newest_sent;
            seen_sent = w.seen_sent;
            has_seen = w.has_seen;
            pends = w.pends;
            unready = λ e. set_here s.homes f (some None) room;
          };
        },
        λ z is'. same_reader (λ z. let m' : M = (v', cs) in m' ≡ (as_reader v (record z { ready = false }), cs)) v.role q z is is' refl,
      )

  pub leaves_allowed : (slots id : ℕ) (m : M) (q : Watching) → m.1 ≡ (3 * q.console + q.front, None) ∷ [] → m.0.role ≡ Reader q → Allows (Stands log origin) slots id m q.console (λ n. n) (leaves (step slots q.console 0 0 none) m)
  leaves_allowed slots id m q held is =
      subst (λ (cs : List (ℕ × Option V)). let m' : M = (m.0, cs) in Allows (Stands log origin) slots id m' q.console (λ n. n) (leaves (step slots q.console 0 0 none) m')) (sym held) (leaves_at slots id m.0 q [] is)

  -- a reader that found something fresh gives its slot, with its version, for the word's
  pub collects_at : (slots id : ℕ) (v : K) (q : Watching) (old : V) (cs : List (ℕ × Option V)) (x : ℕ) → v.role ≡ Reader q → q.pending ≡ true → q.ready ≡ true → q.number < 2 ^ 32
      → IsVersion log origin v.list v.origin q.number old → slot_in x ≡ q.front → is_fresh x ≡ false → number_in x ≡ q.number
      → Allows (Stands log origin) slots id (v, (3 * q.console + q.front, Some old) ∷ cs) q.console (λ _. x) (collects log origin (step slots q.console x 0 none) (v, (3 * q.console + q.front, Some old) ∷ cs))
  collects_at slots id v q old cs x is pending ready narrow version slot stale number s r deep at lt =
      let found : ℕ = get_or s.words q.console 0 in
      let m : M = (v, (3 * q.console + q.front, Some old) ∷ cs) in
      let k = reader_knows s r id v q at is in
      let w = k.4 in
      let inside : q.console < length r.sending.sent = (let a = k.2 in let b = r.some_started in omega arith) in
      let c = r.each_console q.console inside in
      let pends = w.pends pending in
      let got : V = c.version in
      let mid : ℕ = slot_in found in
      let f : ℕ = 3 * q.console + q.front in
      let n : ℕ = 3 * q.console + mid in
      let back : ℕ = 3 * q.console + back_at r.sending q.console in
      let given : Homes V = set s.homes f (some (Some old)) in
      let homes' : Homes V = set given n none in
      let q' : Watching = record q { front = mid; number = number_in found; pending = false } in
      let v' : K = record (as_reader v q') { list = log got } in
      let is_sent : number_in found ≡ sent_at r.sending q.console = ap (λ b. cond b (number_in found) q.number) (sym pends.0) ∙ w.newest_sent in
      let long : length (log got) ≡ number_in found = c.is_version.numbered in
      let seen : length v.list ≤ length (log got) = (let a = w.seen_sent in omega arith) in
      let begins : IsPrefix v.list (log got) = prefix_shorter v.list (log got) r.writer.list k.0.begins c.is_version.begins seen in
      let other : n ≢ f = (λ e. w.apart.1 (omega arith)) in
      let room : f < length s.homes = (let d = r.deep in let a = w.apart.0 in omega arith) in
      let collected : Collected log origin m q found (v', (n, Some got) ∷ cs) = record {
        version = got;
        after = refl;
        begins = begins;
        numbered = long;
        began_there = k.0.began ∙ c.is_version.began_there;
        as_found = pends.1;
        narrow = c.narrow;
        slot = c.apart.0;
      } in (
        v',
        chain gives (takes n (Some got)),
        (tt, set_else s.homes f n (some (Some old)) other ∙ c.lies),
        stepped_reader s r q x id homes' v v' q' at is record {
          role = refl;
          console_is = refl;
          deep = length-set given n none ∙ length-set s.homes f (some (Some old));
          slots = λ d j ne l. two_slots s.homes q.console d j q.front mid (some (Some old)) none ne l w.apart.0 c.apart.0;
          console = record {
            apart = (subst (λ (y : ℕ). y < 3) (sym slot) w.apart.0, c.apart.1, λ e. w.apart.2 (sym slot ∙ e));
            narrow = subst (λ (y : ℕ). y < 2 ^ 32) (sym number) narrow;
            version = old;
            lies = ap (λ (y : ℕ). get_elem? homes' (3 * q.console + y)) slot ∙ (set_else given n f none (λ e. other (sym e)) ∙ set_here s.homes f (some (Some old)) room);
            is_version = record {
              begins = prefix_trans (log old) v.list r.writer.list version.begins k.0.begins;
              numbered = version.numbered ∙ sym number;
              began_there = sym k.0.began ∙ version.began_there;
            };
            sent = c.sent;
            unheld = λ l. set_else given n back none (λ e. c.apart.2 (omega arith)) ∙ (set_else s.homes f back (some (Some old)) (λ e. w.apart.2 (omega arith)) ∙ c.unheld l);
            unstarted = λ l. absurd (let a = k.2 in omega arith);
          };
          believes = record { begins = c.is_version.begins; began = k.0.began; olds = k.0.olds };
          olds = All-weaker (λ (y : Old I O). length y.list ≤ length v.list) (λ (y : Old I O). length y.list ≤ length (log got)) (λ y l. omega arith) v.olds k.3;
          watches = record {
            apart = (c.apart.0, λ e. w.apart.1 (sym (e ∙ slot)), c.apart.2);
            newest_sent = ap (λ b. cond b (number_in x) (number_in found)) stale ∙ is_sent;
            seen_sent = omega arith;
            has_seen = omega arith;
            pends = λ e. absurd (cc e);
            unready = λ e. absurd (let b : true ≡ false = sym ready ∙ e in cc b);
          };
        },
        λ z is'. same_reader (λ z. Collected log origin m z found (v', (n, Some got) ∷ cs)) v.role q z is is' collected,
      )

  pub collects_allowed : (slots id : ℕ) (m : M) (q : Watching) (old : V) (x : ℕ) (cs : List (ℕ × Option V)) → m.1 ≡ (3 * q.console + q.front, Some old) ∷ cs → m.0.role ≡ Reader q → q.pending ≡ true → q.ready ≡ true → q.number < 2 ^ 32
      → IsVersion log origin m.0.list m.0.origin q.number old → slot_in x ≡ q.front → is_fresh x ≡ false → number_in x ≡ q.number
      → Allows (Stands log origin) slots id m q.console (λ _. x) (collects log origin (step slots q.console x 0 none) m)
  collects_allowed slots id m q old x cs held is pending ready narrow version slot stale number =
      subst (λ (cs : List (ℕ × Option V)). let m' : M = (m.0, cs) in Allows (Stands log origin) slots id m' q.console (λ _. x) (collects log origin (step slots q.console x 0 none) m')) (sym held)
      (collects_at slots id m.0 q old cs x is pending ready narrow version slot stale number)

  -- what was joined to a reader's view is where its list begins
  pub reader_settles : (slots id : ℕ) (m : M) (q : Watching) → m.0.role ≡ Reader q → Allows (Stands log origin) slots id m q.console (λ n. n) (settles (step slots q.console 0 0 none) m)
  reader_settles slots id m q is s r deep at lt =
      let found : ℕ = get_or s.words q.console 0 in
      let k = reader_knows s r id m.0 q at is in
      let inside : q.console < length r.sending.sent = (let a = k.2 in let b = r.some_started in omega arith) in
      let v' : K = settled m.0 in (
        v',
        keeps,
        tt,
        stepped_reader s r q found id s.homes m.0 v' q at is record {
          role = is;
          console_is = refl;
          deep = refl;
          slots = λ d j ne l. refl;
          console = r.each_console q.console inside;
          believes = record { begins = k.0.begins; began = k.0.began; olds = All-nil (λ (y : Old I O). IsPrefix y.list r.writer.list × (y.origin ≡ r.writer.origin)) };
          olds = All-nil (λ (y : Old I O). length y.list ≤ length m.0.list);
          watches = k.4;
        },
        (refl, λ i d l. let a = k.0.olds i d l in (prefix_shorter (get_or m.0.olds i d).list m.0.list r.writer.list a.0 k.0.begins (k.3 i d l), a.1 ∙ sym k.0.began)),
      )
