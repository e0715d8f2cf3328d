-- What a submit leaves.
use Rattle.std.proofs.Common.{◌≡◌, ℕ, ◌+◌, ◌≤◌, List, [], ◌∷◌, ◌++◌, length, Ok, Err, IfOk, Result, Some, refl, ap, sym, subst, ◌∙◌, arith, length-append}
use Rattle.std.specs.Prelude.{Contains}
use Rattle.board.specs.Lists.{IsPrefix}
use Rattle.desk.specs.Ends.{PostState}
use Rattle.desk.specs.Legal.{Judgement, IsLegal, IsNext}
use Rattle.desk.specs.Receipts.{receipt_of}
use Rattle.room_console.proofs.Beginnings.{prefix_refl, prefix_length, prefix_trans, prefix_append}
use Rattle.room_console.proofs.Entries.{has_not_stood}
use Rattle.room_console.specs.Submits.{LooksOnce, IsEntered, IsRefused, entry_of}
use Rattle.room_words.specs.declared.event.Entry.{Entry}
use Rattle.room_words.specs.declared.event.Event.{Event}
use Rattle.room_words.specs.declared.receipt.Receipt.{Receipt}
use Rattle.room_words.specs.declared.refused.Refused.{Refused}
use Rattle.room_words.specs.declared.refused.Denied.{Denied}
use Rattle.room_words.specs.declared.refused.Denied.TheVariants as denied

module _ {V O : Type 0} (judges : O → Judgement) where
  -- an entry that was committed
  pub entered : (before after : PostState V O) (event : Event) (receipt : Receipt) (origin : O) (log : List Entry) (entry : Entry)
      → before.reader.origin ≡ Some origin → IsLegal (judges origin) log → IsPrefix before.reader.seen log → IsNext (judges origin) log entry
      → entry ≡ entry_of before event receipt → after.reader.seen ≡ log ++ entry ∷ [] → receipt ≡ receipt_of (length log) entry → after.receipts ≡ before.receipts ++ receipt ∷ []
      → IsEntered judges before after event receipt
  entered before after event receipt origin log entry began legal begins next is seen named made =
      record {
        origin = origin;
        began = began;
        log = log;
        legal = legal;
        begins = begins;
        next = subst (IsNext (judges origin) log) is next;
        once = subst (λ (one : Entry). Contains log one → ⊥) is (has_not_stood (judges origin) log entry legal next);
        seen = seen ∙ ap (λ (one : Entry). log ++ one ∷ []) is;
        named = named ∙ ap (λ (one : Entry). receipt_of (length log) one) is;
        made = made;
      }

  -- a refusal after which the console was told the log
  pub refused_there : (before after : PostState V O) (event : Event) (refused : Refused) (origin : O) (log : List Entry)
      → before.reader.origin ≡ Some origin → IsLegal (judges origin) log → IsPrefix before.reader.seen log → after.reader.seen ≡ log
      → refused.at ≡ length log → judges origin log event (Some refused.why) → after.receipts ≡ before.receipts → IsRefused judges before after event refused
  refused_there before after event refused origin log began legal begins seen at judged made =
      record {
        origin = origin;
        began = began;
        legal = subst (IsLegal (judges origin)) (sym seen) legal;
        begins = subst (IsPrefix before.reader.seen) (sym seen) begins;
        at = at ∙ ap length (sym seen);
        judged = subst (λ (list : List Entry). judges origin list event (Some refused.why)) (sym seen) judged;
        made = made;
      }

  -- both with a look before
  module _ (before between after : PostState V O) (event : Event) (look : LooksOnce before between) (kept : between.receipts ≡ before.receipts) where
    pub entered_after : (receipt : Receipt) → IsEntered judges between after event receipt → IsEntered judges before after event receipt
    entered_after receipt is =
        let same : entry_of between event receipt ≡ entry_of before event receipt = ap (λ (n : ℕ). record { console = n + 1; serial = receipt.serial; event = event }) look.console in
        entered before after event receipt is.origin is.log (entry_of between event receipt)
        (sym look.origin ∙ is.began) is.legal (prefix_trans before.reader.seen between.reader.seen is.log look.begins is.begins) is.next
        same is.seen is.named (is.made ∙ ap (λ (receipts : List Receipt). receipts ++ receipt ∷ []) kept)

    pub refused_after : (refused : Refused) → IsRefused judges between after event refused → IsRefused judges before after event refused
    refused_after refused is =
        refused_there before after event refused is.origin after.reader.seen
        (sym look.origin ∙ is.began) is.legal (prefix_trans before.reader.seen between.reader.seen after.reader.seen look.begins is.begins) refl
        is.at is.judged (is.made ∙ kept)

  -- what an answer says
  abbrev pub Entered : PostState V O → PostState V O → Event → Result Receipt Denied → Type 0
  Entered before after event answer = IfOk answer (λ receipt. IsEntered judges before after event receipt)

  abbrev pub Refuses : PostState V O → PostState V O → Event → Result Receipt Denied → Type 0
  Refuses before after event answer = (why : Refused) → answer ≡ Err (denied.Refused why) → IsRefused judges before after event why

  abbrev pub Leaves : PostState V O → PostState V O → Result Receipt Denied → Type 0
  Leaves before after answer = answer ≡ Err denied.NoMemory → after ≡ before

  -- what was seen before it begins what is seen after it
  pub answered : (before after : PostState V O) (event : Event) (answer : Result Receipt Denied) → Entered before after event answer → Refuses before after event answer → Leaves before after answer
      → IsPrefix before.reader.seen after.reader.seen
  answered before after event (Ok receipt) is refuses leaves =
      subst (IsPrefix before.reader.seen) (sym is.seen) (prefix_append before.reader.seen is.log (entry_of before event receipt ∷ []) is.begins)
  answered before after event (Err (denied.Refused why)) is refuses leaves = (refuses why refl).begins
  answered before after event (Err denied.NoMemory) is refuses leaves = subst (λ (post : PostState V O). IsPrefix before.reader.seen post.reader.seen) (sym (leaves refl)) (prefix_refl before.reader.seen)

  -- a console's numbers after an answer
  pub counted : (before after : PostState V O) (event : Event) (answer : Result Receipt Denied) → Entered before after event answer → Refuses before after event answer → Leaves before after answer
      → (old new : ℕ) → old ≡ length before.reader.seen → length before.receipts ≤ old
      → IfOk answer (λ receipt. new ≡ receipt.number) → ((why : Refused) → answer ≡ Err (denied.Refused why) → new ≡ why.at) → (answer ≡ Err denied.NoMemory → new ≡ old)
      → (new ≡ length after.reader.seen) × (length after.receipts ≤ new)
  counted before after event (Ok receipt) is refuses leaves old new sees few number at same =
      let seen : length after.reader.seen ≡ length (is.log ++ entry_of before event receipt ∷ []) = ap length is.seen in
      let grown = length-append is.log (entry_of before event receipt ∷ []) in
      let place : receipt.number ≡ length is.log + 1 = ap (λ (r : Receipt). r.number) is.named in
      let receipts : length after.receipts ≡ length (before.receipts ++ receipt ∷ []) = ap length is.made in
      let more = length-append before.receipts (receipt ∷ []) in
      let least = prefix_length before.reader.seen is.log is.begins in
      (omega (arith, seen, grown, place, number), omega (arith, receipts, more, least, place, number, sees, few))
  counted before after event (Err (denied.Refused why)) is refuses leaves old new sees few number at same =
      let r = refuses why refl in
      let now : new ≡ why.at = at why refl in
      let place : why.at ≡ length after.reader.seen = r.at in
      let least = prefix_length before.reader.seen after.reader.seen r.begins in
      let receipts : length after.receipts ≡ length before.receipts = ap length r.made in
      (now ∙ place, omega (arith, now, place, least, receipts, sees, few))
  counted before after event (Err denied.NoMemory) is refuses leaves old new sees few number at same =
      let now : new ≡ old = same refl in
      subst (λ (post : PostState V O). (new ≡ length post.reader.seen) × (length post.receipts ≤ new)) (sym (leaves refl)) (now ∙ sees, omega (arith, now, few))

pub if_ok_with : {X E : Type 0} {P Q : X → Type 0} (answer : Result X E) → ((x : X) → P x → Q x) → IfOk answer P → IfOk answer Q
if_ok_with (Ok x) both is = both x is
if_ok_with (Err e) both is = tt

module _ {V O : Type 0} where
  -- one look, after which more was seen
  pub looks_more : (before between after : PostState V O) → LooksOnce before between → after.reader.founds ≡ between.reader.founds → IsPrefix between.reader.seen after.reader.seen
      → after.reader.board ≡ between.reader.board → after.reader.console ≡ between.reader.console → after.reader.origin ≡ between.reader.origin → LooksOnce before after
  looks_more before between after look founds begins board console origin =
      let few = prefix_length between.reader.seen after.reader.seen begins in
      let least : look.number ≤ length between.reader.seen = look.no_more in
      record {
        number = look.number;
        found = founds ∙ look.found;
        no_less = look.no_less;
        no_more = omega (arith, few, least);
        begins = prefix_trans before.reader.seen between.reader.seen after.reader.seen look.begins begins;
        board = board ∙ look.board;
        console = console ∙ look.console;
        origin = origin ∙ look.origin;
      }

  -- one look, after which only the room for receipts changed
  pub looks_kept : (before between after : PostState V O) → LooksOnce before between → after.reader ≡ between.reader → LooksOnce before after
  looks_kept before between after look same =
      looks_more before between after look (ap (λ r. r.founds) same) (subst (λ r. IsPrefix between.reader.seen r.seen) (sym same) (prefix_refl between.reader.seen))
      (ap (λ r. r.board) same) (ap (λ r. r.console) same) (ap (λ r. r.origin) same)
