use Rattle.std.proofs.Common.{Ok, true≢false, refl, sym, ap, ◌∙◌}
use Rattle.cim_words.proofs.PhaseTexts.{parts_only, parts_spell}
use Rattle.cim_words.proofs.phases.PhaseSet.read_text.Goals as goal

pub returns-then-is_whole-clause-read : goal.returns-then-is_whole-clause-read
returns-then-is_whole-clause-read c =
    sym c.as_bytes.ensures.value
    ∙ parts_spell _ _ _ _ _ _ _ _ _ _ _ _ _ _ c.strip_letter-a.ensures c.strip_letter-b.ensures c.strip_letter-c.ensures c.strip_secondaries-s1.ensures
    c.strip_letter-n.ensures c.strip_letter-dash.ensures (c.if-is_whole.ensures.0 refl)

pub returns-then-is_whole-clause-only : goal.returns-then-is_whole-clause-only
returns-then-is_whole-clause-only c set spelled =
    ap Ok (parts_only _ _ _ _ _ _ _ _ _ _ _ _ _ _ c.strip_letter-a.ensures c.strip_letter-b.ensures c.strip_letter-c.ensures c.strip_secondaries-s1.ensures
    c.strip_letter-n.ensures c.strip_letter-dash.ensures set (c.as_bytes.ensures.value ∙ spelled)).0

pub returns-else-is_whole-clause-only : goal.returns-else-is_whole-clause-only
returns-else-is_whole-clause-only c set spelled =
    let parts = parts_only _ _ _ _ _ _ _ _ _ _ _ _ _ _ c.strip_letter-a.ensures c.strip_letter-b.ensures c.strip_letter-c.ensures
    c.strip_secondaries-s1.ensures c.strip_letter-n.ensures c.strip_letter-dash.ensures set (c.as_bytes.ensures.value ∙ spelled) in
    absurd (true≢false (sym (c.if-is_whole.ensures.1 parts.1)))
