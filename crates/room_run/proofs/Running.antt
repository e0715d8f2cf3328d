-- What the consoles of a room did, once it is closed.
use Rattle.std.proofs.Common.{◌≡◌, ℕ, zero, suc, ◌+◌, ◌<◌, ◌≤◌, ◌^◌, List, [], ◌∷◌, ◌++◌, length, map, take, All, IfSome, Some, slice_get, slice_index_or, refl, ap, sym, subst, ◌∙◌, arith}
use Rattle.std.proofs.lemmas.List.Elements.{All-head, All-tail}
use Rattle.std.proofs.Math.Seq.{take-append_seam}
use Rattle.std.proofs.lemmas.List.Sums.{sum_by-cons}
use Rattle.std.specs.List.{sum_by}
use Rattle.atomic_table.specs.Seated.{TableId}
use Rattle.board.specs.Ends.{newly_seated}
use Rattle.board.specs.Lists.{IsPrefix}
use Rattle.cim_words.specs.declared.statement.Statement.{Statement}
use Rattle.desk.specs.Ends.{AreAllPosts, number_of}
use Rattle.desk.specs.Legal.{IsLegal}
use Rattle.desk.specs.Receipts.{AreNumbered, receipts_in}
use Rattle.room_run.specs.Runs.{AreConsoleRuns, ConsoleRecord, IsConsoleRun, IsRun, unseen}
use Rattle.room_run.specs.Standing.{counts_of, doors_of, posts_of}
use Rattle.room_words.specs.declared.event.Entry.{Entry}
use Rattle.session_host.specs.Doors.{AreVisits, AtDoor, ServedItsDoor}
use Rattle.session_host.specs.Told.{Post}
use Rattle.session_host.specs.Views.{View, view_of}
use Rattle.versions.specs.History.{Judges}
use Rattle.versions.specs.Past.{Past}

-- all of two lists are related, place by place
abbrev pub EachServed : List AtDoor → List AtDoor → Type 0
EachServed [] [] = Unit {0}
EachServed (before ∷ befores) (after ∷ afters) = ServedItsDoor before after × EachServed befores afters
EachServed _ _ = ⊥

pub each_served : (xs ys : List AtDoor) → length ys ≡ length xs →
    ((index : ℕ) (stand : AtDoor) → index < length xs → ServedItsDoor (slice_index_or xs index stand) (slice_index_or ys index stand)) → EachServed xs ys
each_served [] [] lengths each = tt
each_served [] (y ∷ ys) lengths each = absurd cc
each_served (x ∷ xs) [] lengths each = absurd cc
each_served (x ∷ xs) (y ∷ ys) lengths each =
    (each 0 x (omega arith), each_served xs ys (omega (arith, lengths)) (λ index stand inside. each (suc index) stand (omega (arith, inside))))

-- consoles that have seen nothing, of one origin, with numbers from this one on
abbrev pub AreNew : List Statement → ℕ → List Post → Type 0
AreNew base console [] = Unit {0}
AreNew base console (post ∷ posts) =
    (post.reader.console ≡ console) × (post.reader.origin ≡ Some base) × (view_of post ≡ unseen) × AreNew base (console + 1) posts

pub are_new : (base : List Statement) (board : TableId) (first : Past) (from : ℕ) (posts : List Post) →
    ((index : ℕ) → index < length posts → IfSome (slice_get posts index) (λ post. (post.reader ≡ newly_seated {I = Entry} board (from + index) [] base first) × (post.receipts ≡ []))) →
    AreNew base from posts
are_new base board first from [] fresh = tt
are_new base board first from (post ∷ posts) fresh =
    let its = fresh 0 (omega arith) in
    let number : from + 0 ≡ from = omega arith in (
      ap (λ r. r.console) its.0 ∙ number,
      ap (λ r. r.origin) its.0,
      cc,
      are_new base board first (from + 1) posts (λ index inside.
          let next : from + suc index ≡ from + 1 + index = omega arith in
          subst (λ (n : ℕ). IfSome (slice_get posts index) (λ (p : Post). (p.reader ≡ newly_seated {I = Entry} board n [] base first) × (p.receipts ≡ []))) next
          (fresh (suc index) (omega (arith, inside)))),
    )

-- they are all consoles of the room still
pub same_places : (xs ys : List AtDoor) → EachServed xs ys → map (λ (p : Post). p.reader.console) (posts_of ys) ≡ map (λ (p : Post). p.reader.console) (posts_of xs)
same_places [] [] each = refl
same_places [] (y ∷ ys) each = absurd each
same_places (x ∷ xs) [] each = absurd each
same_places (x ∷ xs) (y ∷ ys) each =
    let head : y.post.reader.console ≡ x.post.reader.console = each.0.served.console in
    ap (λ (n : ℕ). n ∷ map (λ (p : Post). p.reader.console) (posts_of ys)) head ∙ ap (λ (ns : List ℕ). x.post.reader.console ∷ ns) (same_places xs ys each.1)

at_place : (xs ys : List Post) → map (λ (p : Post). p.reader.console) ys ≡ map (λ (p : Post). p.reader.console) xs → (index : ℕ) (y : Post) → slice_get ys index ≡ Some y →
    (x : Post) × (slice_get xs index ≡ Some x) × (y.reader.console ≡ x.reader.console)
at_place [] [] same index y is = absurd cc
at_place [] (z ∷ ys) same index y is = absurd cc
at_place (x ∷ xs) [] same index y is = absurd cc
at_place (x ∷ xs) (z ∷ ys) same zero y is =
    let first : z ≡ y = cc in let heads : z.reader.console ≡ x.reader.console = cc in (x, refl, ap (λ (p : Post). p.reader.console) (sym first) ∙ heads)
at_place (x ∷ xs) (z ∷ ys) same (suc index) y is =
    let tails : map (λ (p : Post). p.reader.console) ys ≡ map (λ (p : Post). p.reader.console) xs = cc in at_place xs ys tails index y is

as_many : (xs ys : List Post) → map (λ (p : Post). p.reader.console) ys ≡ map (λ (p : Post). p.reader.console) xs → length ys ≡ length xs
as_many [] [] same = refl
as_many [] (z ∷ ys) same = absurd cc
as_many (x ∷ xs) [] same = absurd cc
as_many (x ∷ xs) (z ∷ ys) same =
    let tails : map (λ (p : Post). p.reader.console) ys ≡ map (λ (p : Post). p.reader.console) xs = cc in ap (λ (n : ℕ). suc n) (as_many xs ys tails)

pub all_posts : (consoles : ℕ) (xs ys : List Post) → map (λ (p : Post). p.reader.console) ys ≡ map (λ (p : Post). p.reader.console) xs → AreAllPosts consoles xs → AreAllPosts consoles ys
all_posts consoles xs ys same all = record {
  count = as_many xs ys same ∙ all.count;
  order = λ index post is. let its = at_place xs ys same index post is in its.2 ∙ all.order index its.0 its.1;
}

-- what holds of the consoles at the close of the room
pub record Closes (history : List Entry) (posts : List Post) : Type 0 where
  pub seen : All (λ post. IsPrefix post.reader.seen history) posts
  pub receipts : All (λ post. post.receipts ≡ receipts_in (number_of post) history) posts
  pub serials : All (λ post. AreNumbered post.receipts) posts

closes_rest : (history : List Entry) (post : Post) (posts : List Post) → Closes history (post ∷ posts) → Closes history posts
closes_rest history post posts closes = record {
  seen = All-tail (λ (p : Post). IsPrefix p.reader.seen history) post posts closes.seen;
  receipts = All-tail (λ (p : Post). p.receipts ≡ receipts_in (number_of p) history) post posts closes.receipts;
  serials = All-tail (λ (p : Post). AreNumbered p.receipts) post posts closes.serials;
}

abbrev pub records : (xs ys : List AtDoor) → EachServed xs ys → List ConsoleRecord
records [] [] each = []
records [] (y ∷ ys) each = []
records (x ∷ xs) [] each = []
records (x ∷ xs) (y ∷ ys) each = record { visits = each.0.served.visits; last = view_of y.post } ∷ records xs ys each.1

one_run : (base : List Statement) (history : List Entry) (from : ℕ) (x y : AtDoor) (served : ServedItsDoor x y) → x.post.reader.console ≡ from → x.post.reader.origin ≡ Some base →
    view_of x.post ≡ unseen → IsPrefix y.post.reader.seen history → y.post.receipts ≡ receipts_in (number_of y.post) history → AreNumbered y.post.receipts →
    IsConsoleRun base history (from + 1) x.door y.door y.counted (record { visits = served.served.visits; last = view_of y.post })
one_run base history from x y served console origin new seen receipts serials =
    let number : number_of x.post ≡ from + 1 = ap (λ (n : ℕ). n + 1) console in
    let after : number_of y.post ≡ from + 1 = ap (λ (n : ℕ). n + 1) (served.served.console ∙ console) in
    record {
      sessions = subst (λ (v : View). AreVisits base history (from + 1) v served.served.visits (view_of y.post)) new
          (subst (λ (n : ℕ). AreVisits base history n (view_of x.post) served.served.visits (view_of y.post)) number (served.served.heard base origin history seen));
      seen = seen;
      made = receipts ∙ ap (λ (n : ℕ). receipts_in n history) after;
      serials = serials;
      gave = served.served.gave;
      asked = served.asked;
    }

pub are_runs : (base : List Statement) (history : List Entry) (from : ℕ) (xs ys : List AtDoor) (each : EachServed xs ys) → AreNew base from (posts_of xs) → Closes history (posts_of ys) →
    AreConsoleRuns base history (from + 1) (doors_of xs) (doors_of ys) (counts_of ys) (records xs ys each)
are_runs base history from [] [] each new closes = tt
are_runs base history from [] (y ∷ ys) each new closes = absurd each
are_runs base history from (x ∷ xs) [] each new closes = absurd each
are_runs base history from (x ∷ xs) (y ∷ ys) each new closes = (
  one_run base history from x y each.0 new.0 new.1 new.2 (All-head (λ (p : Post). IsPrefix p.reader.seen history) y.post (posts_of ys) closes.seen)
      (All-head (λ (p : Post). p.receipts ≡ receipts_in (number_of p) history) y.post (posts_of ys) closes.receipts)
      (All-head (λ (p : Post). AreNumbered p.receipts) y.post (posts_of ys) closes.serials),
  are_runs base history (from + 1) xs ys each.1 new.3 (closes_rest history y.post (posts_of ys) closes),
)

-- the receipts of all consoles together
pub all_made : (xs ys : List AtDoor) (each : EachServed xs ys) → sum_by (λ (c : ConsoleRecord). length c.last.made) (records xs ys each) ≡ sum_by (λ (p : Post). length p.receipts) (posts_of ys)
all_made [] [] each = refl
all_made [] (y ∷ ys) each = absurd each
all_made (x ∷ xs) [] each = absurd each
all_made (x ∷ xs) (y ∷ ys) each =
    sum_by-cons (λ (c : ConsoleRecord). length c.last.made) (record { visits = each.0.served.visits; last = view_of y.post }) (records xs ys each.1)
    ∙ (ap (λ (n : ℕ). length y.post.receipts + n) (all_made xs ys each.1) ∙ sym (sum_by-cons (λ (p : Post). length p.receipts) y.post (posts_of ys)))

-- before its first session a console has looked at nothing
pub no_looks : (base : List Statement) (from : ℕ) (xs : List AtDoor) → AreNew base from (posts_of xs) → (index : ℕ) (stand : AtDoor) → index < length xs →
    length (slice_index_or xs index stand).post.reader.founds ≤ 2 ^ 62
no_looks base from [] new index stand inside = absurd (omega (arith, inside))
no_looks base from (x ∷ xs) new zero stand inside = let none : length x.post.reader.founds ≡ 0 = ap (λ (v : View). length v.founds) new.2 in omega (arith, none)
no_looks base from (x ∷ xs) new (suc index) stand inside = no_looks base (from + 1) xs new.3 index stand (omega (arith, inside))

-- the consoles of a room that was just opened, at their doors
pub new_stands : (base : List Statement) (board : TableId) (first : Past) (count : ℕ) (posts : List Post) (xs : List AtDoor) → posts_of xs ≡ posts → AreAllPosts count posts →
    ((index : ℕ) → index < count → IfSome (slice_get posts index) (λ post. (post.reader ≡ newly_seated {I = Entry} board index [] base first) × (post.receipts ≡ []))) →
    AreNew base 0 (posts_of xs)
new_stands base board first count posts xs same all fresh =
    subst (AreNew base 0) (sym same) (are_new base board first 0 posts (λ index inside.
    let counted : length posts ≡ count = all.count in
    let plain : index ≡ 0 + index = omega arith in
    subst (λ (n : ℕ). IfSome (slice_get posts index) (λ (p : Post). (p.reader ≡ newly_seated {I = Entry} board n [] base first) × (p.receipts ≡ []))) plain
    (fresh index (omega (arith, inside, counted)))))

pub all_at : {X : Type 0} (P : X → Type 0) (xs : List X) → All P xs → (index : ℕ) (x : X) → index < length xs → P (slice_index_or xs index x)
all_at P [] each index x inside = absurd (omega (arith, inside))
all_at P (y ∷ ys) each zero x inside = All-head P y ys each
all_at P (y ∷ ys) each (suc index) x inside = all_at P ys (All-tail P y ys each) index x (omega (arith, inside))

-- a list that was changed where it stands, in a vector
pub written : {X : Type 0} (ys rest : List X) (len : ℕ) → length ys ≡ len → take len (ys ++ rest) ≡ ys
written ys rest len is = subst (λ (n : ℕ). take n (ys ++ rest) ≡ ys) is (take-append_seam ys rest)

-- the base of the closed room is that of the first version
pub same_base : (base last : List Statement) (xs ys : List AtDoor) → EachServed xs ys → AreNew base 0 (posts_of xs) → All (λ post. post.reader.origin ≡ Some last) (posts_of ys) →
    0 < length xs → last ≡ base
same_base base last [] ys each new began some = absurd (omega (arith, some))
same_base base last (x ∷ xs) [] each new began some = absurd each
same_base base last (x ∷ xs) (y ∷ ys) each new began some =
    let at_first : x.post.reader.origin ≡ Some base = new.1 in
    let kept : y.post.reader.origin ≡ x.post.reader.origin = each.0.served.origin in
    let at_last : y.post.reader.origin ≡ Some last = All-head (λ (p : Post). p.reader.origin ≡ Some last) y.post (posts_of ys) began in
    let both : Some last ≡ Some base = sym at_last ∙ (kept ∙ at_first) in cc

pub is_run : (base : List Statement) (history : List Entry) (xs ys : List AtDoor) → EachServed xs ys → AreNew base 0 (posts_of xs) → Closes history (posts_of ys) →
    IsLegal (Judges base) history → sum_by (λ (p : Post). length p.receipts) (posts_of ys) ≡ length history → IsRun base history (doors_of xs) (doors_of ys) (counts_of ys)
is_run base history xs ys each new closes legal all = record {
  legal = legal;
  records = records xs ys each;
  consoles = are_runs base history 0 xs ys each new closes;
  receipts = all_made xs ys each ∙ all;
}
