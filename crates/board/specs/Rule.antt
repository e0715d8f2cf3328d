-- The rule of the board, console by console: three slots, of which the reader has one, the writer one, and the word names the third.
-- A slot is at home, with what lies in it, or out with a seat: `homes` has `some x` or nothing. Three slots belong to each console, one console after the other.
use Rattle.std.specs.Prelude.{◌≡◌, ◌≢◌, ℕ, ◌+◌, ◌*◌, ◌^◌, ◌<◌, ◌≤◌, true, false, List, length, slice_index, Option, Some, None, All}
use mathlib.Core.Option.{some}
use mathlib.Core.Option as maybe
use lib.ListN.{get_elem?}
use Rattle.atomic_table.specs.Table.{State}
use Rattle.board.specs.declared.views.Knows.{Knows}
use Rattle.board.specs.declared.views.Old.{Old}
use Rattle.board.specs.declared.views.Sending.{Sending}
use Rattle.board.specs.declared.views.Watching.{Watching}
use Rattle.board.specs.declared.views.Role.{Role}
use Rattle.board.specs.declared.views.Role.TheVariants.{Spent, Note, Copy, Reader, Writer}
use Rattle.board.specs.Lists.{IsPrefix, last_or}
use Rattle.board.specs.Word.{slot_in, is_fresh, number_in}
use Rattle.board.specs.Views.{sent_at, back_at, newest}

-- x lies at home in one of the three slots of a console
abbrev pub Lies : {V : Type 0} → List (maybe.Option (Option V)) → ℕ → ℕ → Option V → Type 0
Lies homes console slot x = get_elem? homes (3 * console + slot) ≡ some (some x)

-- what a reader's view says of its console, whose word this is. It has seen this list
pub record Watches {V I : Type 0} (p : Sending) (homes : List (maybe.Option (Option V))) (seen : List I) (r : Watching) (word : ℕ) : Type 0 where
  -- its slot is neither the word's nor the writer's
  pub apart : (r.front < 3) × (r.front ≢ slot_in word) × (r.front ≢ back_at p r.console)
  -- what is newest there is what was sent there last
  pub newest_sent : newest word r ≡ sent_at p r.console
  -- it has seen no more than was sent there
  pub seen_sent : length seen ≤ sent_at p r.console
  -- and no less than the version that it has
  pub has_seen : r.number ≤ length seen
  -- what it found fresh is there still, or something newer
  pub pends : r.pending ≡ true → (is_fresh word ≡ true) × (last_or 0 r.founds ≤ number_in word)
  -- while it has not taken its slot, or has given it back, that lies empty
  pub unready : r.ready ≡ false → Lies homes r.console r.front None

-- a console as it was laid: its word names the last slot, which is not fresh, the first slot is for the writer, and the second, which lies empty, for the reader. What was sent there is all that was published: the first version
pub record AsLaid {V I : Type 0} (p : Sending) (homes : List (maybe.Option (Option V))) (list : List I) (c word : ℕ) : Type 0 where
  pub stale : is_fresh word ≡ false
  pub numbered : number_in word ≡ sent_at p c
  pub unpublished : sent_at p c ≡ length list
  pub slot : slot_in word ≡ 2
  pub back : back_at p c ≡ 0
  pub front : Lies homes c 1 None

-- each list that was joined to a view is where the published list begins, and began where it did
abbrev pub AreOlds : {I O : Type 0} → List I → Option O → List (Old I O) → Type 0
AreOlds list origin olds = All (λ x. IsPrefix x.list list × (x.origin ≡ origin)) olds

module _ {V I O : Type 0} (log : V → List I) (origin : V → O) where
  -- v is the version with this number of what was published
  pub record IsVersion (list : List I) (began : Option O) (number : ℕ) (v : V) : Type 0 where
    pub begins : IsPrefix (log v) list
    pub numbered : length (log v) ≡ number
    pub began_there : began ≡ Some (origin v)

  -- what is so of a console, its word and its slots, where w is the writer's view
  pub record Console (w : Knows I O) (p : Sending) (homes : List (maybe.Option (Option V))) (c word : ℕ) : Type 0 where
    -- the word's slot is not the writer's
    pub apart : (slot_in word < 3) × (back_at p c < 3) × (slot_in word ≢ back_at p c)
    -- the number fits its place in a word
    pub narrow : number_in word < 2 ^ 32
    -- the word's slot has a version of the number that the word states
    pub version : V
    pub lies : Lies homes c (slot_in word) (Some version)
    pub is_version : IsVersion w.list w.origin (number_in word) version
    -- what was sent there last was published
    pub sent : sent_at p c ≤ length w.list
    -- before the writer takes its slot, that lies empty
    pub unheld : p.held ≤ c → Lies homes c (back_at p c) None
    -- before it has a reader, all lies as it was laid
    pub unstarted : p.started ≤ c → AsLaid p homes w.list c word

  -- the list of a view is where the published list begins, and so are those that were joined to it
  pub record Believes (w v : Knows I O) : Type 0 where
    pub begins : IsPrefix v.list w.list
    pub began : v.origin ≡ w.origin
    pub olds : AreOlds w.list w.origin v.olds

  -- what a seat's view says, by its role. A note is no longer than what was sent to each console; of a copy that is not said
  abbrev pub Says : Knows I O → Sending → (ℕ → ℕ) → List ℕ → List (maybe.Option (Option V)) → ℕ → Knows I O → Role → Type 0
  Says w p seat_of words homes seat v Spent = Unit {0}
  Says w p seat_of words homes seat v Copy = Believes w v
  Says w p seat_of words homes seat v Note = Believes w v × ((c : ℕ) → c < length p.sent → length v.list ≤ sent_at p c)
  Says w p seat_of words homes seat v (Reader r) =
      Believes w v × (seat ≡ seat_of r.console) × (r.console < p.started) × All (λ x. length x.list ≤ length v.list) v.olds
      × Watches p homes v.list r (slice_index words r.console)
  Says w p seat_of words homes seat v (Writer q) = Believes w v × (seat ≡ 0)

  -- the rule: seat 0 is the writer's, and each console and each seat is as said above
  pub record Stands (s : State (Option V) (Knows I O)) : Type 0 where
    pub writer : Knows I O
    pub sending : Sending
    pub at_writer : get_elem? s.views 0 ≡ some writer
    pub is_writer : writer.role ≡ Writer sending
    pub wide : length s.words ≡ length sending.sent
    pub deep : length s.homes ≡ 3 * length sending.sent
    pub backs : length sending.back ≡ length sending.sent
    pub some_started : sending.started ≤ length sending.sent
    -- the seat of each console's reader
    pub seat_of : ℕ → ℕ
    pub each_console : (c : ℕ) → c < length sending.sent → Console writer sending s.homes c (slice_index s.words c)
    pub each_seat : (seat : ℕ) (v : Knows I O) → get_elem? s.views seat ≡ some v → Says writer sending seat_of s.words s.homes seat v v.role
