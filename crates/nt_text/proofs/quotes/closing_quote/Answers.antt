use Rattle.std.proofs.Common.{ℕ, Bool, ◌+◌, ◌∙◌, ap, sym, drop, option_map}
use Rattle.nt_text.specs.Quotes.{closing_at}
use Rattle.nt_text.proofs.Cuts.{closing_passes}
use Rattle.nt_text.proofs.quotes.closing_quote.Goals as goal

pub loop-index-preserved : goal.loop-index-preserved
loop-index-preserved c =
    ap (λ (e : Bool). option_map (λ (n : ℕ). (c.loop-index.index + 1) + n) (closing_at e (drop (c.loop-index.index + 1) c.args.bytes.now))) c.escapes-escaped.ensures
    ∙ closing_passes c.args.bytes.now c.loop-index.index c.loop-index.escaped c.loop-index-test.true (sym c.if-closes.ensures)
    ∙ c.loop-index.invariant
