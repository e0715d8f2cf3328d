use Rattle.std.proofs.Common.{◌≡◌, length, sym, ◌∙◌, ap}
use Rattle.cim_words.specs.IdText.{id_text}
use Rattle.cim_words.proofs.IdTexts.{length-id_text, id_text-written}
use Rattle.cim_words.proofs.identifier.Id.text.Goals as goal

-- the bytes that were written
written : (c : goal.After-as_bytes) → c.as_bytes.result.now ≡ id_text c.args.self.now.number
written c =
    c.as_bytes.ensures.value ∙ c.encode_lower-written.ensures.text
    ∙ id_text-written c.args.self.now.number _ (c.hyphenated.ensures ∙ c.from_u128.ensures)

pub copy_from_slice-requires : goal.copy_from_slice-requires
copy_from_slice-requires c = sym (ap length (written c) ∙ length-id_text c.args.self.now.number)

pub returns : goal.returns
returns c =
    c.copy_from_slice.ensures.after ∙ c.as_bytes.ensures.value ∙ c.encode_lower-written.ensures.text
    ∙ id_text-written c.args.self.now.number _ (c.hyphenated.ensures ∙ c.from_u128.ensures)
