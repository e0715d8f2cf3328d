use Rattle.std.proofs.Common.{◌≡◌, ◌+◌, false, drop, option_map}
use Rattle.nt_text.specs.Quotes.{closing_at}
use Rattle.nt_text.proofs.quotes.closing_quote.Given as goal

-- the quote is not passed yet
abbrev pub invariant-loop-index : goal.invariant-loop-index
invariant-loop-index l = option_map (λ n. l.index + n) (closing_at l.escaped (drop l.index l.bytes)) ≡ closing_at false l.bytes
