use Rattle.std.proofs.Common.{◌≡◌, ◌<◌, ◌^◌, arith, sym, ◌∙◌}
use Rattle.wire.proofs.Numbers.{padded_none}
use Rattle.wire.proofs.fields.read_number.Goals as goal

pub returns-then-is_padded-clause-none : goal.returns-then-is_padded-clause-none
returns-then-is_padded-clause-none c number spells =
    padded_none c.args.word.now (sym c.is_padded.ensures ∙ c.if-is_padded.true) number (omega (arith, spells.1, c.ranges.most.fits)) spells.0

pub returns-else-number-most-clause-none : goal.returns-else-number-most-clause-none
returns-else-number-most-clause-none c number spells =
    let fits : number < 2 ^ 64 = omega (arith, spells.1, c.ranges.most.fits) in
    let same = c.in_ok-number.ensures.only number fits spells.0 in
    let one : c.in_ok-number.number ≡ number = cc in
    omega (arith, spells.1, c.if-number-most.false)
