-- The serials of a console's receipts in a legal log.
use Rattle.std.proofs.Common.{◌≡◌, ℕ, zero, suc, ◌+◌, List, [], ◌∷◌, ◌++◌, length, Bool, true, false, cond, Some, slice_get, refl, ap, sym, subst, ◌∙◌, arith, rules, append_assoc, ◌==◌}
use Rattle.std.specs.List.{filter}
use Rattle.std.proofs.lemmas.List.{append-nil}
use Rattle.desk.proofs.Receipts.{receipts_in_both}
use Rattle.desk.specs.Consoles.{entries_of}
use Rattle.desk.specs.Legal.{Judgement, IsLegal, IsNext}
use Rattle.desk.specs.Receipts.{AreNumbered, receipt_of, receipts_after, receipts_in}
use Rattle.room_words.specs.declared.event.Entry.{Entry}
use Rattle.room_words.specs.declared.receipt.Receipt.{Receipt}

-- serials from a number on
abbrev AreFrom : ℕ → List Receipt → Type 0
AreFrom first receipts = (index : ℕ) (receipt : Receipt) → slice_get receipts index ≡ Some receipt → receipt.serial ≡ first + index

from_last : (first : ℕ) (receipts : List Receipt) (receipt : Receipt) → AreFrom first receipts → receipt.serial ≡ first + length receipts → AreFrom first (receipts ++ receipt ∷ [])
from_last first [] receipt each last zero other is = let same : receipt ≡ other = cc in subst (λ (r : Receipt). r.serial ≡ first + 0) same last
from_last first [] receipt each last (suc index) other is = absurd cc
from_last first (x ∷ xs) receipt each last zero other is = each 0 other is
from_last first (x ∷ xs) receipt each last (suc index) other is =
    let later : other.serial ≡ first + 1 + index = from_last (first + 1) xs receipt (λ i r there. let e = each (suc i) r there in omega (arith, e)) (omega (arith, last)) index other is in
    omega (arith, later)

numbered_last : (receipts : List Receipt) (receipt : Receipt) → AreNumbered receipts → receipt.serial ≡ length receipts + 1 → AreNumbered (receipts ++ receipt ∷ [])
numbered_last receipts receipt each last index other is =
    let from : other.serial ≡ 1 + index = from_last 1 receipts receipt (λ i r there. let e = each i r there in omega (arith, e)) (omega (arith, last)) index other is in
    omega (arith, from)

-- a console has as many receipts as entries
one_more : (console before : ℕ) (entry : Entry) (log : List Entry) (b : Bool) → (entry.console == console) ≡ b
    → length (filter (λ (receipt : Receipt). receipt.console == console) (receipts_after (before + 1) log)) ≡ length (entries_of console log)
    → length (filter (λ (receipt : Receipt). receipt.console == console) (receipts_after before (entry ∷ log))) ≡ length (entries_of console (entry ∷ log))
one_more console before entry log true is rest = rw is (ap suc rest)
one_more console before entry log false is rest = rw is rest

same_count : (console before : ℕ) (log : List Entry) → length (filter (λ (receipt : Receipt). receipt.console == console) (receipts_after before log)) ≡ length (entries_of console log)
same_count console before [] = refl
same_count console before (entry ∷ log) = one_more console before entry log (entry.console == console) refl (same_count console (before + 1) log)

-- with one entry more they stay numbered
numbered_grows : (judges : Judgement) (console : ℕ) (before : List Entry) (entry : Entry) (b : Bool) → (entry.console == console) ≡ b → IsNext judges before entry → AreNumbered (receipts_in console before)
    → AreNumbered (receipts_in console before ++ cond b (receipt_of (length before) entry ∷ []) [])
numbered_grows judges console before entry true is next each =
    let its : entry.console ≡ console = search rules in
    let serial : entry.serial ≡ length (entries_of console before) + 1 = next.serial ∙ ap (λ (n : ℕ). length (entries_of n before) + 1) its in
    let count = same_count console 0 before in
    numbered_last (receipts_in console before) (receipt_of (length before) entry) each (omega (arith, serial, count))
numbered_grows judges console before entry false is next each = subst AreNumbered (sym (append-nil (receipts_in console before))) each

one_kept : (console : ℕ) (receipt : Receipt) (b : Bool) → (receipt.console == console) ≡ b → filter (λ (r : Receipt). r.console == console) (receipt ∷ []) ≡ cond b (receipt ∷ []) []
one_kept console receipt b is = ap (λ (test : Bool). cond test (receipt ∷ []) []) is

goes_on : (judges : Judgement) (console : ℕ) (before rest : List Entry) → IsLegal judges (before ++ rest) → AreNumbered (receipts_in console before) → AreNumbered (receipts_in console (before ++ rest))
goes_on judges console before [] legal each = subst (λ (log : List Entry). AreNumbered (receipts_in console log)) (sym (append-nil before)) each
goes_on judges console before (entry ∷ rest) legal each =
    let test : Bool = entry.console == console in
    let again : (before ++ entry ∷ []) ++ rest ≡ before ++ entry ∷ rest = append_assoc before (entry ∷ []) rest in
    let grown = numbered_grows judges console before entry test refl (legal before entry rest refl) each in
    let split = receipts_in_both console before (entry ∷ []) ∙ ap (λ (list : List Receipt). receipts_in console before ++ list) (one_kept console (receipt_of (length before) entry) test refl) in
    subst (λ (log : List Entry). AreNumbered (receipts_in console log)) again
    (goes_on judges console (before ++ entry ∷ []) rest (subst (IsLegal judges) (sym again) legal) (subst AreNumbered (sym split) grown))

-- in a legal log the receipts of a console have the serials 1, 2 and so on
pub legal_numbered : (judges : Judgement) (console : ℕ) (log : List Entry) → IsLegal judges log → AreNumbered (receipts_in console log)
legal_numbered judges console log legal = goes_on judges console [] log legal (λ index receipt is. absurd cc)
