-- Receipts of a log that goes on.
use Rattle.std.proofs.Common.{◌≡◌, ℕ, ◌+◌, ◌≤◌, inl, inr, List, [], ◌∷◌, ◌++◌, length, drop, cond, refl, ap, sym, subst, ◌∙◌, arith, ◌==◌, Bool, not, suc}
use Rattle.std.specs.List.{filter}
use Rattle.std.proofs.lemmas.List.{take-append-drop}
use Rattle.std.proofs.lemmas.List.Elements.{filter-append}
use Rattle.std.proofs.lemmas.List.Filters.{length-filter_both}
use Rattle.board.specs.Lists.{IsPrefix}
use Rattle.desk.specs.Receipts.{receipt_of, receipts_after, receipts_in, AreSomeOf}
use Rattle.plain_laws.proofs.Numbers.{equal_itself}
use Rattle.room_words.specs.declared.event.Entry.{Entry}
use Rattle.room_words.specs.declared.receipt.Receipt.{Receipt}

module _ {X : Type 0} where
  -- none of the items, and what is some of a list is some of a longer one
  pub none_of : (ys : List X) → AreSomeOf [] ys
  none_of [] = refl
  none_of (y ∷ ys) = inl (none_of ys)

  pub some_more : (xs ys zs : List X) → AreSomeOf xs ys → AreSomeOf xs (ys ++ zs)
  some_more xs [] zs some = subst (λ (list : List X). AreSomeOf list zs) (sym some) (none_of zs)
  some_more xs (y ∷ ys) zs (inl some) = inl (some_more xs ys zs some)
  some_more xs (y ∷ ys) zs (inr (rest, is, some)) = inr (rest, is, some_more rest ys zs some)

  -- both with one item more
  pub some_last : (xs ys : List X) (x : X) → AreSomeOf xs ys → AreSomeOf (xs ++ x ∷ []) (ys ++ x ∷ [])
  some_last xs [] x some = inr ([], ap (λ (list : List X). list ++ x ∷ []) some, refl)
  some_last xs (y ∷ ys) x (inl some) = inl (some_last xs ys x some)
  some_last xs (y ∷ ys) x (inr (rest, is, some)) = inr (rest ++ x ∷ [], ap (λ (list : List X). list ++ x ∷ []) is, some_last rest ys x some)

  pub some_length : (xs ys : List X) → AreSomeOf xs ys → length xs ≤ length ys
  some_length xs [] some = let none : length xs ≡ 0 = ap length some in omega (arith, none)
  some_length xs (y ∷ ys) (inl some) = let rest = some_length xs ys some in omega (arith, rest)
  some_length xs (y ∷ ys) (inr (rest, is, some)) = let least = some_length rest ys some in let count : length xs ≡ length (y ∷ rest) = ap length is in omega (arith, least, count)

  -- as many as there are, are all
  pub some_all : (xs ys : List X) → AreSomeOf xs ys → length ys ≤ length xs → xs ≡ ys
  some_all xs [] some many = some
  some_all xs (y ∷ ys) (inl some) many = absurd (let few = some_length xs ys some in omega (arith, few, many))
  some_all xs (y ∷ ys) (inr (rest, is, some)) many =
      let count : length xs ≡ length (y ∷ rest) = ap length is in
      is ∙ ap (λ (list : List X). y ∷ list) (some_all rest ys some (omega (arith, many, count)))

pub receipts_after_both : (before : ℕ) (xs ys : List Entry) → receipts_after before (xs ++ ys) ≡ receipts_after before xs ++ receipts_after (before + length xs) ys
receipts_after_both before [] ys = ap (λ (n : ℕ). receipts_after n ys) (omega arith)
receipts_after_both before (x ∷ xs) ys =
    ap (λ (list : List Receipt). receipt_of before x ∷ list) (receipts_after_both (before + 1) xs ys
    ∙ ap (λ (n : ℕ). receipts_after (before + 1) xs ++ receipts_after n ys) (omega arith))

-- the receipts of a console's entries in two lists, one after the other
abbrev of_console : ℕ → List Receipt → List Receipt
of_console console = filter (λ (receipt : Receipt). receipt.console == console)

pub receipts_in_both : (console : ℕ) (xs ys : List Entry) → receipts_in console (xs ++ ys) ≡ receipts_in console xs ++ of_console console (receipts_after (length xs) ys)
receipts_in_both console xs ys =
    ap (of_console console) (receipts_after_both 0 xs ys ∙ ap (λ (n : ℕ). receipts_after 0 xs ++ receipts_after n ys) (omega arith))
    ∙ filter-append (λ (receipt : Receipt). receipt.console == console) (receipts_after 0 xs) (receipts_after (length xs) ys)

-- receipts name entries of every log that goes on from theirs
pub named_more : (console : ℕ) (receipts : List Receipt) (xs ys : List Entry) → AreSomeOf receipts (receipts_in console xs) → IsPrefix xs ys → AreSomeOf receipts (receipts_in console ys)
named_more console receipts xs ys named begins =
    let whole : xs ++ drop (length xs) ys ≡ ys = ap (λ (list : List Entry). list ++ drop (length xs) ys) (sym begins) ∙ take-append-drop (length xs) ys in
    subst (λ (log : List Entry). AreSomeOf receipts (receipts_in console log)) whole
    (subst (AreSomeOf receipts) (sym (receipts_in_both console xs (drop (length xs) ys)))
    (some_more receipts (receipts_in console xs) (of_console console (receipts_after (length xs) (drop (length xs) ys))) named))

-- and of one with one entry of their console more they name one more
one_kept : (console : ℕ) (receipt : Receipt) → receipt.console ≡ console → of_console console (receipt ∷ []) ≡ receipt ∷ []
one_kept console receipt is = ap (λ b. cond b (receipt ∷ []) []) (ap (λ (n : ℕ). n == console) is ∙ equal_itself console)

pub named_last : (console : ℕ) (receipts : List Receipt) (log : List Entry) (entry : Entry) → AreSomeOf receipts (receipts_in console log) → entry.console ≡ console
    → AreSomeOf (receipts ++ receipt_of (length log) entry ∷ []) (receipts_in console (log ++ entry ∷ []))
named_last console receipts log entry named is =
    subst (AreSomeOf (receipts ++ receipt_of (length log) entry ∷ []))
    (sym (receipts_in_both console log (entry ∷ []) ∙ ap (λ (list : List Receipt). receipts_in console log ++ list) (one_kept console (receipt_of (length log) entry) is)))
    (some_last receipts (receipts_in console log) (receipt_of (length log) entry) named)

-- receipts are no more than the entries of the log
after_length : (before : ℕ) (log : List Entry) → length (receipts_after before log) ≡ length log
after_length before [] = refl
after_length before (entry ∷ log) = ap suc (after_length (before + 1) log)

pub receipts_length : (log : List Entry) → length (receipts_after 0 log) ≡ length log
receipts_length log = after_length 0 log

pub named_few : (console : ℕ) (receipts : List Receipt) (log : List Entry) → AreSomeOf receipts (receipts_in console log) → length receipts ≤ length log
named_few console receipts log named =
    let some = some_length receipts (receipts_in console log) named in
    let test : Receipt → Bool = λ receipt. receipt.console == console in
    let passing = length-filter_both test (λ receipt. not (test receipt)) (λ _. refl) (receipts_after 0 log) in
    omega (arith, some, passing, receipts_length log)
