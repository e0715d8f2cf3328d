use Rattle.std.proofs.Common.{sym}
use Rattle.cim_words.proofs.IdTexts.{iri_number-short, iri_number-headed, iri_number-not_headed}
use Rattle.cim_words.proofs.identifier.iri_id.Goals as goal

pub returns-then-text-lt-PLAIN_LENGTH : goal.returns-then-text-lt-PLAIN_LENGTH
returns-then-text-lt-PLAIN_LENGTH c = iri_number-short _ c.if-text-lt-PLAIN_LENGTH.true

pub returns-then-is_iri_head : goal.returns-then-is_iri_head
returns-then-is_iri_head c =
    rw (iri_number-headed c.args.text.now _ _ c.split_at.ensures.front c.split_at.ensures.back (sym c.if-is_iri_head.ensures)) c.plain_id.ensures

pub returns-else-is_iri_head : goal.returns-else-is_iri_head
returns-else-is_iri_head c =
    iri_number-not_headed c.args.text.now _ c.split_at.ensures.front (sym c.if-is_iri_head.ensures)
