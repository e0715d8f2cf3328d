use Rattle.std.proofs.Common.{Ok}
use Rattle.wire.proofs.Numbers.{parsed_is, parsed_none, parsed_one}
use Rattle.wire.proofs.fields.parsed_text.Goals as goal

pub returns-in-Ok-clause-found : goal.returns-in-Ok-clause-found
returns-in-Ok-clause-found c = parsed_is c.args.text.now c.in-Ok.number c.requires c.in-Ok.ensures.value.0

pub returns-in-Ok-clause-only : goal.returns-in-Ok-clause-only
returns-in-Ok-clause-only c number fits is = let same = parsed_one c.args.text.now (Ok c.in-Ok.number) c.in-Ok.ensures.value.0 number fits is in cc

pub returns-in-Err-clause-only : goal.returns-in-Err-clause-only
returns-in-Err-clause-only c number fits is = absurd (parsed_none c.args.text.now c.in-Err.ensures.value.0 number fits is)
