-- What desks and posts hold after a step.
use Rattle.std.proofs.Common.{◌≡◌, ℕ, ◌+◌, ◌<◌, ◌≤◌, List, [], ◌∷◌, ◌++◌, length, Some, ap, sym, subst, ◌∙◌, arith, length-append, Bool, cond, nat_le, true, take, slice_get, IfSome, ◌^◌}
use Rattle.std.proofs.lemmas.Bool.Decides.{nat_tests}
use Rattle.std.proofs.lemmas.List.{length-take, length-map}
use Rattle.atomic_table.specs.Seated.{TableId}
use Rattle.board.specs.Ends.{ReaderState, WriterState, newly_seated}
use Rattle.board.specs.Lists.{IsPrefix, longer}
use Rattle.desk.proofs.Legal.{legal_empty, legal_grows}
use Rattle.desk.proofs.Queues.{get_map, get_mapped, get_within}
use Rattle.desk.proofs.Receipts.{named_few, named_last, named_more, none_of}
use Rattle.desk.specs.Consoles.{IsConsole}
use Rattle.desk.specs.Ends.{PreparedState, PostState, AreAllPosts}
use Rattle.desk.specs.Follows.{Follows}
use Rattle.desk.specs.Held.{HeldByDesk, HeldByPost, HeldBySeed, AreFresh}
use Rattle.desk.specs.Legal.{Judgement, IsLegal}
use Rattle.desk.specs.Receipts.{AreSomeOf, receipt_of, receipts_in}
use Rattle.room_words.specs.declared.event.Entry.{Entry}
use Rattle.room_words.specs.declared.receipt.Receipt.{Receipt}

-- what was told is longer than what it goes on from
pub told_is_longer : (xs ys zs : List Entry) → IsPrefix xs ys → longer xs (ys ++ zs) ≡ ys ++ zs
told_is_longer xs ys zs begins =
    let cut = length-take (length xs) ys in
    let same : length (take (length xs) ys) ≡ length xs = ap length begins in
    let both = length-append ys zs in
    let few : length xs ≤ length (ys ++ zs) = omega (arith, cut, same, both) in
    let yes : nat_le (length xs) (length (ys ++ zs)) ≡ true = grind (arith, nat_tests) in
    ap (λ (b : Bool). cond b (ys ++ zs) xs) yes

-- the receipt of the last entry
abbrev receipt : ℕ → ℕ → ℕ → Receipt
receipt console serial number = record { console = console; serial = serial; number = number }

pub receipt_is : (log longer : List Entry) (entry : Entry) (console serial number : ℕ) → longer ≡ log ++ entry ∷ [] → console ≡ entry.console → serial ≡ entry.serial → number ≡ length longer
    → record { console = console; serial = serial; number = number } ≡ receipt_of (length log) entry
receipt_is log longer entry console serial number more of_console of_serial count =
    let last : number ≡ length log + 1 = let both : length longer ≡ length (log ++ entry ∷ []) = ap length more in omega (arith, count, both, length-append log (entry ∷ [])) in
    ap (λ (n : ℕ). receipt n serial number) of_console ∙ ap (λ (n : ℕ). receipt entry.console n number) of_serial ∙ ap (λ (n : ℕ). receipt entry.console entry.serial n) last

module _ {V O : Type 0} (board : TableId) (reader : ReaderState V Entry O) (receipts : List Receipt) (console parts amount : ℕ) where
  -- a post without receipts
  pub post_begins : reader.board ≡ board → console ≡ reader.console + 1 → IsConsole console → parts ≡ 1 → amount ≡ 0 → receipts ≡ [] → HeldByPost board reader receipts console parts amount
  post_begins here is range one none empty =
      record {
        board_is = here;
        console_is = is;
        in_range = range;
        one_part = one;
        counted = none ∙ ap length (sym empty);
        few = let count : length receipts ≡ 0 = ap length empty in omega (arith, count);
        named = subst (λ (list : List Receipt). AreSomeOf list (receipts_in console reader.seen)) (sym empty) (none_of (receipts_in console reader.seen));
      }

  -- a post that has seen more
  pub post_sees : HeldByPost board reader receipts console parts amount → (after : ReaderState V Entry O) → IsPrefix reader.seen after.seen → after.board ≡ reader.board → after.console ≡ reader.console
      → HeldByPost board after receipts console parts amount
  post_sees held after begins same_board same_console =
      record {
        board_is = same_board ∙ held.board_is;
        console_is = held.console_is ∙ ap (λ (n : ℕ). n + 1) (sym same_console);
        in_range = held.in_range;
        one_part = held.one_part;
        counted = held.counted;
        few = held.few;
        named = named_more console receipts reader.seen after.seen held.named begins;
      }

  -- a post that got a receipt
  pub post_gains : HeldByPost board reader receipts console parts amount → (log : List Entry) (entry : Entry) → IsPrefix reader.seen log → length log + 1 < 2 ^ 32 → entry.console ≡ console
      → (after : ReaderState V Entry O) → after.board ≡ reader.board → after.console ≡ reader.console → after.seen ≡ log ++ entry ∷ []
      → (more : List Receipt) → more ≡ receipts ++ receipt_of (length log) entry ∷ []
      → (parts_after amount_after : ℕ) → parts_after ≡ parts → amount_after ≡ amount + 1 → HeldByPost board after more console parts_after amount_after
  post_gains held log entry begins bound its after same_board same_console seen more longer parts_after amount_after same_parts one_more =
      record {
        board_is = same_board ∙ held.board_is;
        console_is = held.console_is ∙ ap (λ (n : ℕ). n + 1) (sym same_console);
        in_range = held.in_range;
        one_part = same_parts ∙ held.one_part;
        few = let count : length more ≡ length (receipts ++ receipt_of (length log) entry ∷ []) = ap length longer in
            let most = named_few console receipts log (named_more console receipts reader.seen log held.named begins) in
            omega (arith, bound, most, count, length-append receipts (receipt_of (length log) entry ∷ []));
        counted = let count : length more ≡ length (receipts ++ receipt_of (length log) entry ∷ []) = ap length longer in omega (arith, one_more, held.counted, count, length-append receipts (receipt_of (length log) entry ∷ []));
        named = subst (λ (list : List Entry). AreSomeOf more (receipts_in console list)) (sym seen)
            (subst (λ (list : List Receipt). AreSomeOf list (receipts_in console (log ++ entry ∷ []))) (sym longer)
            (named_last console receipts log entry (named_more console receipts reader.seen log held.named begins) its));
      }

module _ {V O : Type 0} (judges : O → Judgement) (origin : V → O) (log : V → List Entry) (board : TableId) (posts : ℕ) (writer : WriterState V O) (book : ℕ) where
  -- a desk of a seed
  pub desk_begins : (readers : List (ReaderState V Entry O)) (consoles parts : ℕ) → HeldBySeed origin log writer readers consoles parts → writer.board ≡ board → consoles ≡ posts → book ≡ 0
      → HeldByDesk judges origin log board posts writer book
  desk_begins readers consoles parts held here are none =
      let count : length (log writer.last) ≡ 0 = ap length held.empty in
      let told : writer.told ≡ 0 = ap (λ (w : WriterState V O). w.told) held.writer_is in
      record {
        board_is = here;
        consoles_are = ap (λ (w : WriterState V O). w.consoles) held.writer_is ∙ are;
        some = let some = held.some in omega (arith, some, are);
        few = let few = held.few in omega (arith, few, are);
        began = ap (λ (w : WriterState V O). w.origin) held.writer_is;
        legal = subst (IsLegal (judges (origin writer.last))) (sym held.empty) (legal_empty (judges (origin writer.last)));
        counted = none ∙ sym count;
        told_few = omega (arith, told);
      }

  -- a desk that published a version with one more entry
  pub desk_goes_on : HeldByDesk judges origin log board posts writer book → (prepared : PreparedState V) → Follows judges origin log writer.last prepared
      → (after : WriterState V O) → after ≡ record writer { last = prepared.version; told = writer.told + 1 } → (book_after : ℕ) → book_after ≡ book + 1
      → HeldByDesk judges origin log board posts after book_after
  desk_goes_on held prepared follows after is book_after one_more =
      let count : length (log prepared.version) ≡ length (log writer.last ++ prepared.entry ∷ []) = ap length follows.log_is in
      let more = length-append (log writer.last) (prepared.entry ∷ []) in
      let grown : IsLegal (judges (origin writer.last)) (log writer.last ++ prepared.entry ∷ []) = legal_grows (judges (origin writer.last)) (log writer.last) prepared.entry held.legal follows.next in
      subst (λ (w : WriterState V O). HeldByDesk judges origin log board posts w book_after) (sym is) (record {
        board_is = held.board_is;
        consoles_are = held.consoles_are;
        some = held.some;
        few = held.few;
        began = held.began ∙ ap (λ (o : O). Some o) (sym follows.began);
        legal = subst (λ (o : O). IsLegal (judges o) (log prepared.version)) (sym follows.began) (subst (IsLegal (judges (origin writer.last))) (sym follows.log_is) grown);
        counted = omega (arith, one_more, held.counted, count, more);
        told_few = omega (arith, held.told_few, count, more);
      })

-- the posts of a seed's readers
module _ {V O : Type 0} (origin : V → O) (log : V → List Entry) (writer : WriterState V O) (readers : List (ReaderState V Entry O)) (consoles parts : ℕ)
    (held : HeldBySeed origin log writer readers consoles parts) (posts : List (PostState V O)) (fresh : AreFresh readers posts) where
  abbrev reader_of : PostState V O → ReaderState V Entry O
  reader_of post = post.reader

  abbrev seated : ℕ → ReaderState V Entry O
  seated console = newly_seated writer.board console [] (origin writer.last) writer.last

  posts_count : length posts ≡ consoles
  posts_count = sym (length-map posts reader_of) ∙ ap length fresh.0 ∙ held.count

  pub posts_in_order : AreAllPosts consoles posts
  posts_in_order =
      record {
        count = posts_count;
        order = λ index post is.
            let within : index < length posts = get_within posts index post is in
            let there : slice_get readers index ≡ Some post.reader = ap (λ xs. slice_get xs index) (sym fresh.0) ∙ get_map reader_of posts index post is in
            let same : Some post.reader ≡ Some (seated index) = sym there ∙ held.each index (omega (arith, within, posts_count)) in
            let is_seated : post.reader ≡ seated index = cc in
            ap (λ (r : ReaderState V Entry O). r.console) is_seated;
      }

  pub posts_fresh : (index : ℕ) → index < consoles → IfSome (slice_get posts index) (λ post. (post.reader ≡ seated index) × (post.receipts ≡ []))
  posts_fresh index within = get_mapped reader_of (λ post. post.receipts ≡ []) posts index (seated index) (ap (λ xs. slice_get xs index) fresh.0 ∙ held.each index within) fresh.1
