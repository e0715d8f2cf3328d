use Rattle.std.proofs.Common.{Bor, ◌≡◌, ◌≢◌, ℕ, List, [], ◌++◌, Option, Some, None, IfSome, IfNone, MatchOption, sym, ap, ◌∙◌}
use Rattle.std.proofs.lemmas.Bool.Decides.{Decides-eqb}
use Rattle.std.proofs.lemmas.Slice.Eq.{strip_prefix_is}
use Rattle.script.proofs.Consoles.{behind_mark}
use Rattle.script.specs.Lines.{behind_console}
use Rattle.script.proofs.line.behind.Goals as goal

found : (o : Option (Bor (List ℕ))) (line mark : List ℕ) (console : ℕ) → mark ≡ behind_console console []
    → MatchOption o ((rest : List ℕ) → line ≢ mark ++ rest) (λ x. line ≡ mark ++ x.now) → IfSome o (λ x. line ≡ behind_console console x.now)
found None line mark console same is = tt
found (Some x) line mark console same is = is ∙ ap (λ (m : List ℕ). m ++ x.now) same ∙ behind_mark console x.now

none : (o : Option (Bor (List ℕ))) (line mark : List ℕ) (console : ℕ) → mark ≡ behind_console console []
    → MatchOption o ((rest : List ℕ) → line ≢ mark ++ rest) (λ x. line ≡ mark ++ x.now) → IfNone o ((rest : List ℕ) → line ≡ behind_console console rest → ⊥)
none None line mark console same is = λ rest says. is rest (says ∙ sym (behind_mark console rest) ∙ ap (λ (m : List ℕ). m ++ rest) (sym same))
none (Some x) line mark console same is = tt

pub returns-clause-found : goal.returns-clause-found
returns-clause-found c = found c.strip_prefix.result c.args.line.now c.as_bytes.result.now c.args.console (c.as_bytes.ensures.value ∙ c.mark.ensures)
    (strip_prefix_is Decides-eqb c.args.line.now c.as_bytes.result.now c.strip_prefix.result c.strip_prefix.ensures.cases)

pub returns-clause-none : goal.returns-clause-none
returns-clause-none c = none c.strip_prefix.result c.args.line.now c.as_bytes.result.now c.args.console (c.as_bytes.ensures.value ∙ c.mark.ensures)
    (strip_prefix_is Decides-eqb c.args.line.now c.as_bytes.result.now c.strip_prefix.result c.strip_prefix.ensures.cases)
