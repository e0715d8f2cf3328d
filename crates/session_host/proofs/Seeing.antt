-- What a look and a submit are to a history that goes on from what is seen then.
use Rattle.std.proofs.Common.{◌≡◌, ℕ, ◌+◌, ◌-◌, ◌≤◌, List, [], ◌∷◌, ◌++◌, length, take, drop, Option, Some, unwrap_or, slice_get, refl, inr, ap, sym, subst, ◌∙◌, arith, append_assoc, length-append}
use Rattle.std.proofs.Math.Seq.{take-append_seam}
use Rattle.std.proofs.lemmas.List.{length-take, take-take, take-append-drop}
use Rattle.board.specs.Lists.{IsPrefix}
use Rattle.cim_words.specs.declared.statement.Statement.{Statement}
use Rattle.desk.specs.Ends.{number_of}
use Rattle.desk.specs.Receipts.{receipt_of}
use Rattle.room_console.specs.Submits.{LooksOnce, IsEntered, IsRefused, entry_of}
use Rattle.room_words.specs.declared.event.Entry.{Entry}
use Rattle.room_words.specs.declared.event.Event.{Event}
use Rattle.room_words.specs.declared.receipt.Receipt.{Receipt}
use Rattle.room_words.specs.declared.refused.Refused.{Refused}
use Rattle.session_host.specs.Looks.{Enters, MaySee, OnlySees, SeesFirst, entry_behind}
use Rattle.session_host.specs.Told.{KeepsSeat, Post}
use Rattle.session_host.specs.Views.{view_of}
use Rattle.versions.specs.History.{Judges}

-- a list that begins another is no longer, and begins what goes on from that
prefix_length : {A : Type 0} (xs ys : List A) → IsPrefix xs ys → length xs ≤ length ys
prefix_length xs ys begins = let same : length (take (length xs) ys) ≡ length xs = ap length begins in omega (arith, length-take (length xs) ys, same)

pub prefix_trans : {A : Type 0} (xs ys zs : List A) → IsPrefix xs ys → IsPrefix ys zs → IsPrefix xs zs
prefix_trans xs ys zs begins more = sym (take-take (length xs) (length ys) zs (prefix_length xs ys begins)) ∙ (ap (take (length xs)) more ∙ begins)

-- the entry of an event with a serial
abbrev entry_at : ℕ → ℕ → Event → Entry
entry_at console serial event = record { console = console; serial = serial; event = event }

-- the item behind the front of a list
get_behind : {A : Type 0} (xs : List A) (y : A) (ys : List A) → slice_get (xs ++ y ∷ ys) (length xs) ≡ Some y
get_behind [] y ys = refl
get_behind (x ∷ xs) y ys = get_behind xs y ys

-- what a look keeps
pub seat_kept : (before after : Post) → LooksOnce before after → KeepsSeat before after
seat_kept before after looks =
    let grown : length after.reader.founds ≡ length (before.reader.founds ++ looks.number ∷ []) = ap length looks.found in
    record {
      console = looks.console;
      board = looks.board;
      origin = looks.origin;
      begins = looks.begins;
      looks = omega (arith, grown, length-append before.reader.founds (looks.number ∷ []));
    }

module _ (before after : Post) (history : List Entry) (more : IsPrefix after.reader.seen history) where
  pub sees_first : LooksOnce before after → SeesFirst history (view_of before) (view_of after) (length after.reader.seen)
  sees_first looks =
      record {
        found = looks.number;
        looked = looks.found;
        no_less = looks.no_more;
        later = prefix_length before.reader.seen after.reader.seen looks.begins;
        within = prefix_length after.reader.seen history more;
        began = sym (prefix_trans before.reader.seen after.reader.seen history looks.begins more);
        seen = sym more;
      }

  pub may_see : LooksOnce before after → after.receipts ≡ before.receipts → MaySee history (view_of before) (view_of after)
  may_see looks made = inr (length after.reader.seen, (sees_first looks, made))

  -- what stands at the end of what is seen stands there in the history
  stands_at : (log : List Entry) (entry : Entry) → after.reader.seen ≡ log ++ entry ∷ [] → slice_get history (length log) ≡ Some entry
  stands_at log entry seen =
      let rest : List Entry = drop (length after.reader.seen) history in
      let whole : history ≡ log ++ entry ∷ rest =
      sym (take-append-drop (length after.reader.seen) history) ∙ (ap (λ (front : List Entry). front ++ rest) (more ∙ seen) ∙ append_assoc log (entry ∷ []) rest) in
      rw whole (get_behind log entry rest)

  pub enters : (event : Event) (receipt : Receipt) → LooksOnce before after
      → IsEntered Judges before after event receipt → Enters history (number_of before) event (view_of before) (view_of after) receipt.number
  enters event receipt looks entered =
      let log : List Entry = entered.log in
      let entry : Entry = entry_of before event receipt in
      let begins : IsPrefix log after.reader.seen = rw entered.seen (take-append_seam log (entry ∷ [])) in
      let front : take (length log) history ≡ log = prefix_trans log after.reader.seen history begins more in
      let number : receipt.number ≡ length log + 1 = ap (λ (r : Receipt). r.number) entered.named in
      let less : receipt.number - 1 ≡ length log = omega (arith, number) in
      let count : length after.reader.seen ≡ receipt.number =
      let grown : length after.reader.seen ≡ length (log ++ entry ∷ []) = ap length entered.seen in omega (arith, grown, length-append log (entry ∷ []), number) in
      let is : entry ≡ entry_behind log (number_of before) event =
      ap (λ (s : ℕ). entry_at (number_of before) s event) entered.next.serial in
      let within : length before.reader.seen ≤ length log = prefix_length before.reader.seen log entered.begins in
      record {
        sees = subst (SeesFirst history (view_of before) (view_of after)) count (sees_first looks);
        beyond = omega (arith, within, number);
        stands = rw less (rw front (stands_at log entry entered.seen ∙ ap Some is));
        made = rw less (rw front (entered.made ∙ ap (λ (r : Receipt). before.receipts ++ r ∷ []) (entered.named ∙ ap (receipt_of (length log)) is)));
      }

  pub refuses : (base : List Statement) (event : Event) (refused : Refused) → before.reader.origin ≡ Some base → LooksOnce before after
      → IsRefused Judges before after event refused
      → OnlySees history (view_of before) (view_of after) refused.at × Judges base (take refused.at history) event (Some refused.why)
  refuses base event refused began looks is =
      let same : base ≡ is.origin = ap (λ (o : Option (List Statement)). unwrap_or o base) (sym began ∙ is.began) in (
        (subst (SeesFirst history (view_of before) (view_of after)) (sym is.at) (sees_first looks), is.made),
        subst (λ (b : List Statement). Judges b (take refused.at history) event (Some refused.why)) (sym same)
            (subst (λ (l : List Entry). Judges is.origin l event (Some refused.why)) (sym (ap (λ (n : ℕ). take n history) is.at ∙ more)) is.judged),
      )
