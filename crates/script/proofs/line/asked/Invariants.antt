use Rattle.std.proofs.Common.{◌≡◌, ℕ, ◌≤◌, List}
use Rattle.desk.specs.Consoles.{IsConsole}
use Rattle.script.specs.Lines.{behind_console}
use Rattle.script.proofs.line.asked.Given as goal

-- the line names none of the consoles so far
abbrev pub invariant-loop-index : goal.invariant-loop-index
invariant-loop-index l = (console : ℕ) (request : List ℕ) → IsConsole console → console ≤ l.index → l.line ≡ behind_console console request → ⊥
