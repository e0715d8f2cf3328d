use Rattle.std.proofs.Common.{sym}
use Rattle.nt_text.proofs.Cuts.{quote_cuts}
use Rattle.nt_text.proofs.quotes.cut_at_quote.Goals as goal

pub returns-clause-found : goal.returns-clause-found
returns-clause-found c = quote_cuts c.args.bytes.now c.in_ok-end.end c.in_ok-end.ensures.within (sym c.in_ok-end.ensures.place)
