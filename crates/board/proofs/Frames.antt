-- A step at one console keeps what is said of the others.
use Rattle.std.proofs.Common.{◌≡◌, ◌≢◌, ℕ, ◌+◌, ◌*◌, ◌<◌, ◌≤◌, List, length, get_or, set, sym, ap, ◌∙◌, subst, ⊎_elim, arith, Option, length-set, get_or-set_other, get_or-set_same}
use mathlib.Core.Logic.{dite}
use mathlib.Core.Option.{some}
use mathlib.Core.Option as maybe
use native.Mathlib.Decide.{ℕ_discrete}
use lib.ListN.{get_elem?}
use Rattle.std.proofs.lemmas.List.Elements.{All-weaker}
use Rattle.atomic_table.specs.Table.{State}
use Rattle.atomic_table.proofs.Lists.{at_set}
use Rattle.board.specs.declared.views.Knows.{Knows}
use Rattle.board.specs.declared.views.Old.{Old}
use Rattle.board.specs.declared.views.Sending.{Sending}
use Rattle.board.specs.declared.views.Watching.{Watching}
use Rattle.board.specs.declared.views.Role.{Role}
use Rattle.board.specs.declared.views.Role.TheVariants.{Spent, Note, Copy, Reader, Writer}
use Rattle.board.specs.Lists.{IsPrefix}
use Rattle.board.specs.Word.{slot_in, number_in}
use Rattle.board.specs.Views.{sent_at, back_at}
use Rattle.board.specs.Rule.{Watches, AreOlds, IsVersion, Console, Believes, Says, Stands}
use Rattle.board.proofs.Prefixes.{prefix_trans, prefix_length}

abbrev pub Homes : Type 0 → Type 0
Homes V = List (maybe.Option (Option V))

-- what is sent and held at a console is the same
pub record SameAt {V : Type 0} (p p' : Sending) (homes homes' : Homes V) (d : ℕ) : Type 0 where
  pub slots : (k : ℕ) → k < 3 → get_elem? homes' (3 * d + k) ≡ get_elem? homes (3 * d + k)
  pub sent : sent_at p' d ≡ sent_at p d
  pub back : back_at p' d ≡ back_at p d

pub watches_else : {V I : Type 0} (p p' : Sending) (homes homes' : Homes V) (seen : List I) (q : Watching) (word : ℕ) → SameAt p p' homes homes' q.console → Watches p homes seen q word → Watches p' homes' seen q word
watches_else p p' homes homes' seen q word same h = record {
  apart = subst (λ b. (q.front < 3) × (q.front ≢ slot_in word) × (q.front ≢ b)) (sym same.back) h.apart;
  newest_sent = h.newest_sent ∙ sym same.sent;
  seen_sent = let e = same.sent in let l = h.seen_sent in omega arith;
  has_seen = h.has_seen;
  pends = h.pends;
  unready = λ e. same.slots q.front h.apart.0 ∙ h.unready e;
}

pub olds_more : {I O : Type 0} (list list' : List I) (o o' : Option O) (olds : List (Old I O)) → IsPrefix list list' → o' ≡ o → AreOlds list o olds → AreOlds list' o' olds
olds_more {I} {O} list list' o o' olds pre same all =
    All-weaker (λ (x : Old I O). IsPrefix x.list list × (x.origin ≡ o)) (λ (x : Old I O). IsPrefix x.list list' × (x.origin ≡ o'))
    (λ x t. (prefix_trans x.list list list' t.0 pre, t.1 ∙ sym same)) olds all

module _ {V I O : Type 0} (log : V → List I) (origin : V → O) where
  abbrev K : Type 0
  K = Knows I O

  abbrev St : Type 0
  St = State (Option V) K

  pub version_more : (list list' : List I) (o o' : Option O) (number : ℕ) (v : V) → IsPrefix list list' → o' ≡ o → IsVersion log origin list o number v → IsVersion log origin list' o' number v
  version_more list list' o o' number v pre same h = record { begins = prefix_trans (log v) list list' h.begins pre; numbered = h.numbered; began_there = same ∙ h.began_there }

  pub console_else : (w w' : K) (p p' : Sending) (homes homes' : Homes V) (d word : ℕ) → SameAt p p' homes homes' d → (p'.held ≤ d → p.held ≤ d) → (p'.started ≤ d → (p.started ≤ d) × (w'.list ≡ w.list))
      → IsPrefix w.list w'.list → w'.origin ≡ w.origin → Console log origin w p homes d word → Console log origin w' p' homes' d word
  console_else w w' p p' homes homes' d word same held started pre began h = record {
    apart = subst (λ b. (slot_in word < 3) × (b < 3) × (slot_in word ≢ b)) (sym same.back) h.apart;
    narrow = h.narrow;
    version = h.version;
    lies = same.slots (slot_in word) h.apart.0 ∙ h.lies;
    is_version = version_more w.list w'.list w.origin w'.origin (number_in word) h.version pre began h.is_version;
    sent = let e = same.sent in let l = h.sent in let n = prefix_length w.list w'.list pre in omega arith;
    unheld = λ l. ap (λ b. get_elem? homes' (3 * d + b)) same.back ∙ (same.slots (back_at p d) h.apart.1 ∙ h.unheld (held l));
    unstarted = λ l. let t = started l in let u = h.unstarted t.0 in record {
      stale = u.stale;
      numbered = u.numbered ∙ sym same.sent;
      unpublished = same.sent ∙ (u.unpublished ∙ ap length (sym t.1));
      slot = u.slot;
      back = same.back ∙ u.back;
      front = same.slots 1 (omega arith) ∙ u.front;
    };
  }

  pub believes_more : (w w' v : K) → IsPrefix w.list w'.list → w'.origin ≡ w.origin → Believes log origin w v → Believes log origin w' v
  believes_more w w' v pre began h = record { begins = prefix_trans v.list w.list w'.list h.begins pre; began = h.began ∙ sym began; olds = olds_more w.list w'.list w.origin w'.origin v.olds pre began h.olds }

  -- a change of the word, the slots and the view of one seat, all at the console c
  pub record Change (s : St) (r : Stands log origin s) (c x me : ℕ) (homes' : Homes V) (v' w' : K) (p' : Sending) : Type 0 where
    pub inside : c < length r.sending.sent
    pub here : (v : K) × (get_elem? s.views me ≡ some v)
    pub at_writer : get_elem? (set s.views me v') 0 ≡ some w'
    pub is_writer : w'.role ≡ Writer p'
    pub sent_len : length p'.sent ≡ length r.sending.sent
    pub back_len : length p'.back ≡ length r.sending.back
    pub started : p'.started ≡ r.sending.started
    pub unpublished : (d : ℕ) → d < length r.sending.sent → r.sending.started ≤ d → w'.list ≡ r.writer.list
    pub deep : length homes' ≡ length s.homes
    pub others : (d : ℕ) → d ≢ c → SameAt r.sending p' s.homes homes' d
    pub held : (d : ℕ) → d ≢ c → p'.held ≤ d → r.sending.held ≤ d
    pub grows : sent_at r.sending c ≤ sent_at p' c
    pub begins : IsPrefix r.writer.list w'.list
    pub began : w'.origin ≡ r.writer.origin
    pub console : Console log origin w' p' homes' c x
    pub mine : Says log origin w' p' r.seat_of (set s.words c x) homes' me v' v'.role
    pub reader : (q : Watching) (seen : List I) → q.console ≡ c → r.seat_of q.console ≢ me → Watches r.sending s.homes seen q (get_or s.words q.console 0) → Watches p' homes' seen q x

  word_else : (words : List ℕ) (c x d : ℕ) → c < length words → (F : ℕ → Type 0) → (d ≡ c → F x) → (d ≢ c → F (get_or words d 0)) → F (get_or (set words c x) d 0)
  word_else words c x d inside F here there = dite (ℕ_discrete d c)
      (λ e. subst F (sym (ap (λ j. get_or (set words c x) j 0) e ∙ get_or-set_same words c x 0 inside)) (here e))
      (λ ne. subst F (sym (get_or-set_other words c d x 0 ne)) (there ne))

  plays_else : (s : St) (r : Stands log origin s) (c x me : ℕ) (homes' : Homes V) (v' w' : K) (p' : Sending) → Change s r c x me homes' v' w' p' → (seat : ℕ) (v : K) → seat ≢ me
      → (role : Role) → Says log origin r.writer r.sending r.seat_of s.words s.homes seat v role → Says log origin w' p' r.seat_of (set s.words c x) homes' seat v role
  plays_else s r c x me homes' v' w' p' h seat v ne Spent k = k
  plays_else s r c x me homes' v' w' p' h seat v ne Copy k = believes_more r.writer w' v h.begins h.began k
  plays_else s r c x me homes' v' w' p' h seat v ne Note k = (
    believes_more r.writer w' v h.begins h.began k.0,
    λ d l. let b = k.1 d (let e = h.sent_len in omega arith) in
        dite (ℕ_discrete d c) (λ e. subst (λ j. length v.list ≤ sent_at p' j) (sym e) (let g = h.grows in let b' : length v.list ≤ sent_at r.sending c = subst (λ j. length v.list ≤ sent_at r.sending j) e b in omega arith))
        (λ n. let e = (h.others d n).sent in omega arith),
  )
  plays_else s r c x me homes' v' w' p' h seat v ne (Writer q) k = (believes_more r.writer w' v h.begins h.began k.0, k.1)
  plays_else s r c x me homes' v' w' p' h seat v ne (Reader q) k = (
    believes_more r.writer w' v h.begins h.began k.0,
    k.1,
    (let e = h.started in let l = k.2 in omega arith),
    k.3,
    word_else s.words c x q.console (let e = r.wide in let l = h.inside in omega arith) (λ n. Watches p' homes' v.list q n)
        (λ e. h.reader q v.list e (λ m. ne (k.1 ∙ m)) k.4)
        (λ n. watches_else r.sending p' s.homes homes' v.list q (get_or s.words q.console 0) (h.others q.console n) k.4),
  )

  -- the rule is kept
  pub changed : (s : St) (r : Stands log origin s) (c x me : ℕ) (homes' : Homes V) (v' w' : K) (p' : Sending) → Change s r c x me homes' v' w' p'
      → Stands log origin record { words = set s.words c x; homes = homes'; views = set s.views me v' }
  changed s r c x me homes' v' w' p' h = record {
    writer = w';
    sending = p';
    at_writer = h.at_writer;
    is_writer = h.is_writer;
    wide = length-set s.words c x ∙ (r.wide ∙ sym h.sent_len);
    deep = h.deep ∙ (r.deep ∙ ap (λ n. 3 * n) (sym h.sent_len));
    backs = h.back_len ∙ (r.backs ∙ sym h.sent_len);
    some_started = let a = h.started in let b = h.sent_len in let l = r.some_started in omega arith;
    seat_of = r.seat_of;
    each_console = λ d l. let inside : d < length r.sending.sent = (let b = h.sent_len in omega arith) in
        word_else s.words c x d (let e = r.wide in let k = h.inside in omega arith) (λ n. Console log origin w' p' homes' d n)
        (λ e. subst (λ j. Console log origin w' p' homes' j x) (sym e) h.console)
        (λ n. console_else r.writer w' r.sending p' s.homes homes' d (get_or s.words d 0) (h.others d n) (h.held d n) (λ m. let a = h.started in let l : r.sending.started ≤ d = omega arith in (l, h.unpublished d inside l)) h.begins h.began (r.each_console d inside));
    each_seat = λ seat v at. ⊎_elim
        (λ (t : (seat ≡ me) × (v' ≡ v)). subst (λ (z : ℕ × K). Says log origin w' p' r.seat_of (set s.words c x) homes' z.0 z.1 z.1.role) (λ i. (sym t.0 i, t.1 i)) h.mine)
        (λ (t : (seat ≢ me) × (get_elem? s.views seat ≡ some v)). plays_else s r c x me homes' v' w' p' h seat v t.0 v.role (r.each_seat seat v t.1))
        (at_set s.views me seat v' v at);
  }
