-- The receipts of all consoles: where they are as many as the entries of the log, they are these, each once.
use Rattle.std.proofs.Common.{◌≡◌, ℕ, suc, ◌+◌, ◌<◌, ◌≤◌, List, [], ◌∷◌, length, Bool, true, false, cond, All, Some, slice_get, refl, arith, rules, ◌==◌}
use mathlib.Core.Logic.{dite}
use native.Mathlib.Decide.{ℕ_discrete}
use Rattle.std.specs.List.{filter, sum_by}
use Rattle.std.proofs.lemmas.List.Elements.{All-head, All-tail, All-cons, All-nil}
use Rattle.std.proofs.lemmas.List.Sums.{sum_by-cons}
use Rattle.desk.proofs.Receipts.{named_more, receipts_length, some_all, some_length}
use Rattle.board.specs.Lists.{IsPrefix}
use Rattle.desk.specs.Ends.{PostState, number_of, AreAllPosts}
use Rattle.desk.specs.Receipts.{AreSomeOf, receipts_after, receipts_in}
use Rattle.room_words.specs.declared.event.Entry.{Entry}
use Rattle.room_words.specs.declared.receipt.Receipt.{Receipt}

module _ {X : Type 0} (f g : X → ℕ) where
  -- sums of numbers of which none is greater
  pub sums_ordered : (xs : List X) → All (λ x. f x ≤ g x) xs → sum_by f xs ≤ sum_by g xs
  sums_ordered [] each = omega arith
  sums_ordered (x ∷ xs) each =
      let first : f x ≤ g x = All-head (λ (y : X). f y ≤ g y) x xs each in
      let rest : sum_by f xs ≤ sum_by g xs = sums_ordered xs (All-tail (λ (y : X). f y ≤ g y) x xs each) in
      omega (arith, first, rest, sum_by-cons f x xs, sum_by-cons g x xs)

  -- and where the sums are equal all the same, none is less
  pub sums_tight : (xs : List X) → All (λ x. f x ≤ g x) xs → sum_by g xs ≤ sum_by f xs → All (λ x. g x ≤ f x) xs
  sums_tight [] each tight = All-nil (λ (y : X). g y ≤ f y)
  sums_tight (x ∷ xs) each tight =
      let first : f x ≤ g x = All-head (λ (y : X). f y ≤ g y) x xs each in
      let others : All (λ y. f y ≤ g y) xs = All-tail (λ (y : X). f y ≤ g y) x xs each in
      let rest : sum_by f xs ≤ sum_by g xs = sums_ordered xs others in
      All-cons (λ (y : X). g y ≤ f y) x xs
      (omega (arith, tight, rest, sum_by-cons f x xs, sum_by-cons g x xs))
      (sums_tight xs others (omega (arith, tight, first, sum_by-cons f x xs, sum_by-cons g x xs)))

one_test : (m n : ℕ) → (m ≡ n → ⊥) → cond {A = ℕ} (m == n) 1 0 ≡ 0
one_test m n differ = tested (m == n) refl
  where
    tested : (b : Bool) → (m == n) ≡ b → cond {A = ℕ} b 1 0 ≡ 0
    tested false is = refl
    tested true is = absurd (differ (search rules))

one_at_most : (b : Bool) → cond {A = ℕ} b 1 0 ≤ 1
one_at_most true = omega arith
one_at_most false = omega arith

module _ {V O : Type 0} where
  -- posts that stand in the order of their consoles, from this one on
  abbrev InOrder : ℕ → List (PostState V O) → Type 0
  InOrder first posts = (index : ℕ) (post : PostState V O) → slice_get posts index ≡ Some post → number_of post ≡ first + index

  in_order_rest : (first : ℕ) (post : PostState V O) (posts : List (PostState V O)) → InOrder first (post ∷ posts) → InOrder (first + 1) posts
  in_order_rest first post posts order index other is = let e = order (suc index) other is in omega (arith, e)

  -- how many of the posts a receipt belongs to
  abbrev belongs : Receipt → PostState V O → ℕ
  belongs receipt post = cond (receipt.console == number_of post) 1 0

  none_belongs : (receipt : Receipt) (first : ℕ) (posts : List (PostState V O)) → InOrder first posts → receipt.console < first → sum_by (belongs receipt) posts ≡ 0
  none_belongs receipt first [] order less = refl
  none_belongs receipt first (post ∷ posts) order less =
      let number : number_of post ≡ first + 0 = order 0 post refl in
      let here : belongs receipt post ≡ 0 = one_test receipt.console (number_of post) (λ e. omega (arith, e, number, less)) in
      let rest = none_belongs receipt (first + 1) posts (in_order_rest first post posts order) (omega (arith, less)) in
      omega (arith, here, rest, sum_by-cons (belongs receipt) post posts)

  one_belongs : (receipt : Receipt) (first : ℕ) (posts : List (PostState V O)) → InOrder first posts → sum_by (belongs receipt) posts ≤ 1
  one_belongs receipt first [] order = omega arith
  one_belongs receipt first (post ∷ posts) order =
      let number : number_of post ≡ first + 0 = order 0 post refl in
      let step = sum_by-cons (belongs receipt) post posts in
      dite (ℕ_discrete receipt.console (number_of post))
      (λ e.
      let few = one_at_most (receipt.console == number_of post) in
      let rest = none_belongs receipt (first + 1) posts (in_order_rest first post posts order) (omega (arith, e, number)) in
      omega (arith, few, rest, step))
      (λ ne.
      let here = one_test receipt.console (number_of post) ne in
      let rest = one_belongs receipt (first + 1) posts (in_order_rest first post posts order) in
      omega (arith, here, rest, step))

  -- the receipts of a list that belong to a post
  abbrev theirs : List Receipt → PostState V O → ℕ
  theirs receipts post = length (filter (λ (receipt : Receipt). receipt.console == number_of post) receipts)

  theirs_nothing : (posts : List (PostState V O)) → sum_by (theirs []) posts ≡ 0
  theirs_nothing [] = refl
  theirs_nothing (post ∷ posts) = let rest = theirs_nothing posts in omega (arith, rest, sum_by-cons (theirs []) post posts)

  theirs_one : (receipt : Receipt) (receipts : List Receipt) (post : PostState V O) (b : Bool) → (receipt.console == number_of post) ≡ b
      → theirs (receipt ∷ receipts) post ≡ belongs receipt post + theirs receipts post
  theirs_one receipt receipts post true is = rw is (omega arith)
  theirs_one receipt receipts post false is = rw is (omega arith)

  theirs_more : (receipt : Receipt) (receipts : List Receipt) (posts : List (PostState V O)) → sum_by (theirs (receipt ∷ receipts)) posts ≡ sum_by (belongs receipt) posts + sum_by (theirs receipts) posts
  theirs_more receipt receipts [] = refl
  theirs_more receipt receipts (post ∷ posts) =
      let here = theirs_one receipt receipts post (receipt.console == number_of post) refl in
      let rest = theirs_more receipt receipts posts in
      omega (arith, here, rest, sum_by-cons (theirs (receipt ∷ receipts)) post posts, sum_by-cons (belongs receipt) post posts, sum_by-cons (theirs receipts) post posts)

  theirs_all : (receipts : List Receipt) (first : ℕ) (posts : List (PostState V O)) → InOrder first posts → sum_by (theirs receipts) posts ≤ length receipts
  theirs_all [] first posts order = let none = theirs_nothing posts in omega (arith, none)
  theirs_all (receipt ∷ receipts) first posts order =
      let one = one_belongs receipt first posts order in
      let rest = theirs_all receipts first posts order in
      omega (arith, one, rest, theirs_more receipt receipts posts)

  -- the posts' receipts name entries of the log, and are as many: each post has those of its console
  abbrev Named : List Entry → PostState V O → Type 0
  Named log post = AreSomeOf post.receipts (receipts_in (number_of post) log)

  all_named : (log : List Entry) (posts : List (PostState V O)) → All (Named log) posts → All (λ post. length post.receipts ≤ theirs (receipts_after 0 log) post) posts
  all_named log [] named = All-nil (λ (post : PostState V O). length post.receipts ≤ theirs (receipts_after 0 log) post)
  all_named log (post ∷ posts) named =
      All-cons (λ (other : PostState V O). length other.receipts ≤ theirs (receipts_after 0 log) other) post posts
      (some_length post.receipts (receipts_in (number_of post) log) (All-head (Named log) post posts named))
      (all_named log posts (All-tail (Named log) post posts named))

  all_equal : (log : List Entry) (posts : List (PostState V O)) → All (Named log) posts → All (λ post. theirs (receipts_after 0 log) post ≤ length post.receipts) posts
      → All (λ post. post.receipts ≡ receipts_in (number_of post) log) posts
  all_equal log [] named many = All-nil (λ (post : PostState V O). post.receipts ≡ receipts_in (number_of post) log)
  all_equal log (post ∷ posts) named many =
      All-cons (λ (other : PostState V O). other.receipts ≡ receipts_in (number_of other) log) post posts
      (some_all post.receipts (receipts_in (number_of post) log) (All-head (Named log) post posts named)
      (All-head (λ (other : PostState V O). theirs (receipts_after 0 log) other ≤ length other.receipts) post posts many))
      (all_equal log posts (All-tail (Named log) post posts named) (All-tail (λ (other : PostState V O). theirs (receipts_after 0 log) other ≤ length other.receipts) post posts many))

  pub receipts_are_all : (consoles : ℕ) (log : List Entry) (posts : List (PostState V O)) → AreAllPosts consoles posts → All (Named log) posts → sum_by (λ post. length post.receipts) posts ≡ length log
      → All (λ post. post.receipts ≡ receipts_in (number_of post) log) posts
  receipts_are_all consoles log posts all named made =
      let order : InOrder 1 posts = λ index post is. let e = all.order index post is in omega (arith, e) in
      let few = theirs_all (receipts_after 0 log) 1 posts order in
      let count = receipts_length log in
      all_equal log posts named
      (sums_tight (λ (post : PostState V O). length post.receipts) (theirs (receipts_after 0 log)) posts (all_named log posts named) (omega (arith, few, count, made)))

  -- what names entries that a post has seen names entries of the log
  pub named_in_log : (log : List Entry) (posts : List (PostState V O)) → All (λ post. AreSomeOf post.receipts (receipts_in (number_of post) post.reader.seen)) posts → All (λ post. IsPrefix post.reader.seen log) posts
      → All (Named log) posts
  named_in_log log [] named seen = All-nil (Named log)
  named_in_log log (post ∷ posts) named seen =
      All-cons (Named log) post posts
      (named_more (number_of post) post.receipts post.reader.seen log (All-head (λ (other : PostState V O). AreSomeOf other.receipts (receipts_in (number_of other) other.reader.seen)) post posts named)
      (All-head (λ (other : PostState V O). IsPrefix other.reader.seen log) post posts seen))
      (named_in_log log posts (All-tail (λ (other : PostState V O). AreSomeOf other.receipts (receipts_in (number_of other) other.reader.seen)) post posts named)
      (All-tail (λ (other : PostState V O). IsPrefix other.reader.seen log) post posts seen))
