use Rattle.std.proofs.Common.{inl, inr, refl}
use Rattle.std.proofs.lemmas.Result.{on_ok_weaker}
use Rattle.room_words.specs.declared.reply.Reply.TheVariants as reply
use Rattle.wire.specs.Replies.{reply_text}
use Rattle.script.proofs.rehearsal.Rehearsal.reply.Goals as goal

pub returns-in-Ok : goal.returns-in-Ok
returns-in-Ok g c = on_ok_weaker c.answer.result (λ h. (h.0, h.1, inl (c.in-Ok.request, c.in-Ok.ensures.ok, h.2))) c.answer.ensures

pub returns-in-Err : goal.returns-in-Err
returns-in-Err g c = on_ok_weaker c.write_reply.result (λ h. (reply_text (reply.Fault c.in-Err.fault), h, inr (c.in-Err.fault, c.in-Err.ensures.fault, (refl, refl)))) c.write_reply.ensures.ok
