use Rattle.std.proofs.Common.{[], inl, inr, refl, map, drop, string_bytes}
use Rattle.std.specs.Vec.Iter.{into_iter_items}
use Rattle.grid_out.proofs.FaultLaws.{counts_none}
use Rattle.grid_out.proofs.NoteLaws.{grows_nothing}
use Rattle.grid_out.proofs.SinkLaws.{gains_nothing}
use Rattle.room_base.specs.declared.status.Status.TheVariants as status
use Rattle.room.proofs.ArgLemmas.{as_words, some_words}
use Rattle.room.proofs.process.run_code.Goals as goal

pub returns-in-Ok : goal.returns-in-Ok
returns-in-Ok g c =
    let (names, are, asked) = c.run_plain.ensures.asks in
    let given = as_words c.args.args (λ all. drop 1 (into_iter_items all)) string_bytes c.in-Ok.words.items c.deref.result.now c.deref.ensures.value c.in-Ok.ensures in
    (map string_bytes c.deref.result.now, given, c.run_plain.result, c.code.ensures, c.run_plain.ensures.says, (names, inl are, asked), c.run_plain.ensures.read_fault)

pub returns-in-Err : goal.returns-in-Err
returns-in-Err g c =
    let (words, given) = some_words c.args.args (λ all. map string_bytes (drop 1 (into_iter_items all))) in
    (words, given, status.NoMemory, c.code-in-Err.ensures, ([], inl refl, (gains_nothing _, refl), inl (refl, grows_nothing _)), ([], inr (refl, refl), grows_nothing _), counts_none _)
