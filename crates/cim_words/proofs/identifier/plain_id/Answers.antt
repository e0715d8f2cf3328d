use Rattle.std.proofs.Common.{true≢false, sym}
use Rattle.cim_words.proofs.IdTexts.{plain_number-other_length, plain_number-parsed, plain_number-unparsed}
use Rattle.cim_words.proofs.identifier.plain_id.Goals as goal

pub returns-then-text-ne-PLAIN_LENGTH : goal.returns-then-text-ne-PLAIN_LENGTH
returns-then-text-ne-PLAIN_LENGTH c = plain_number-other_length _ c.if-text-ne-PLAIN_LENGTH.true

pub returns-in-Ok : goal.returns-in-Ok
returns-in-Ok c =
    rw (c.of.ensures, c.as_u128.ensures) (plain_number-parsed _ _ c.if-text-ne-PLAIN_LENGTH.false c.in-Ok.ensures.bytes)

pub returns-in-Err : goal.returns-in-Err
returns-in-Err c =
    plain_number-unparsed _ c.if-text-ne-PLAIN_LENGTH.false
    (λ bytes read. true≢false (sym (c.in-Err.ensures.ok.1 (bytes, read))))
