-- Posts of a room that was just opened.
use Rattle.std.proofs.Common.{◌≡◌, ℕ, ◌<◌, ◌≤◌, List, [], length, All, IfSome, slice_get, ap, subst, arith}
use Rattle.atomic_table.specs.Seated.{TableId}
use Rattle.board.specs.Ends.{newly_seated}
use Rattle.desk.proofs.Queues.{all_from_get, get_within}
use Rattle.desk.specs.Consoles.{IsConsole, most_consoles}
use Rattle.desk.specs.Ends.{PostState, AreAllPosts, number_of}
use Rattle.room_words.specs.declared.event.Entry.{Entry}

module _ {V O : Type 0} (consoles : ℕ) (posts : List (PostState V O)) (all : AreAllPosts consoles posts) where
  -- their consoles have numbers from 1 to 16
  pub are_consoles : consoles ≤ most_consoles → All (λ post. IsConsole (number_of post)) posts
  are_consoles few =
      all_from_get (λ (post : PostState V O). IsConsole (number_of post)) posts
      (λ index post is.
      let at : post.reader.console ≡ index = all.order index post is in
      let within = get_within posts index post is in
      let count : length posts ≡ consoles = all.count in
      (omega arith, omega (arith, at, within, count, few)))

  -- and have seen nothing
  pub are_new : (board : TableId) (origin : O) (first : V)
      → ((index : ℕ) → index < consoles → IfSome (slice_get posts index) (λ post. (post.reader ≡ newly_seated {I = Entry} board index [] origin first) × (post.receipts ≡ [])))
      → All (λ post. (post.reader.seen ≡ []) × (post.receipts ≡ [])) posts
  are_new board origin first fresh =
      all_from_get (λ (post : PostState V O). (post.reader.seen ≡ []) × (post.receipts ≡ [])) posts
      (λ index post is.
      let within = get_within posts index post is in
      let count : length posts ≡ consoles = all.count in
      let its = subst (λ o. IfSome o (λ (one : PostState V O). (one.reader ≡ newly_seated {I = Entry} board index [] origin first) × (one.receipts ≡ []))) is (fresh index (omega (arith, within, count))) in
      (ap (λ r. r.seen) its.0, its.1))
