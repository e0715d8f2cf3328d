-- The counts of a log with one more entry.
use Rattle.std.proofs.Common.{◌≡◌, ℕ, ◌+◌, ◌≤◌, List, [], ◌∷◌, ◌++◌, length, eqb, Bool, cond, true, false, sym, ap, ◌∙◌, arith}
use Rattle.std.proofs.lemmas.Grind.{common_steps}
use Rattle.std.proofs.lemmas.List.Elements.{filter-append}
use Rattle.desk.specs.Consoles.{IsConsole, entries_of}
use Rattle.room_words.specs.declared.event.Entry.{Entry}
use Rattle.versions.specs.Serials.{AreCounts, count_of}

-- an entry more is one more of its own console
one_more : (console : ℕ) (log : List Entry) (entry : Entry) → length (entries_of console (log ++ entry ∷ [])) ≡ length (entries_of console log) + cond (eqb entry.console console) 1 0
one_more console log entry =
    ap length (filter-append (λ (e : Entry). eqb e.console console) log (entry ∷ [])) ∙ by (eqb entry.console console)
  where
    by : (b : Bool) → length (entries_of console log ++ cond b (entry ∷ []) []) ≡ length (entries_of console log) + cond b 1 0
    by true = grind (arith, common_steps)
    by false = grind (arith, common_steps)

-- a console has no more entries than the log
pub no_more_than_all : (console : ℕ) (log : List Entry) → length (entries_of console log) ≤ length log
no_more_than_all console [] = omega arith
no_more_than_all console (entry ∷ log) = by (eqb entry.console console) (no_more_than_all console log)
  where
    by : (b : Bool) → length (entries_of console log) ≤ length log → length (cond b (entry ∷ entries_of console log) (entries_of console log)) ≤ length (entry ∷ log)
    by true rest = omega arith
    by false rest = omega arith

-- counts in which that of the entry's console is one more are those of the log with the entry
pub counts_more : (counts more : List ℕ) (log : List Entry) (entry : Entry) → AreCounts counts log
    → ((console : ℕ) → IsConsole console → count_of console more ≡ count_of console counts + cond (eqb entry.console console) 1 0) → AreCounts more (log ++ entry ∷ [])
counts_more counts more log entry are raised console is =
    raised console is ∙ (ap (λ (n : ℕ). n + cond (eqb entry.console console) 1 0) (are console is) ∙ sym (one_more console log entry))
