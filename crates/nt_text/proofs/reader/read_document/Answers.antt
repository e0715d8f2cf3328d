use Rattle.std.proofs.Common.{[]}
use Rattle.std.proofs.lemmas.Result.{err_from_is_err_and}
use Rattle.nt_text.proofs.ReaderStates.{has_failed}
use Rattle.nt_text.proofs.Faults.{is_fault_of}
use Rattle.nt_text.proofs.reader.read_document.Goals as goal

pub returns-in_err-feed-clause-err : goal.returns-in_err-feed-clause-err
returns-in_err-feed-clause-err c =
    let p = err_from_is_err_and c.from_residual.result c.from_residual.ensures.1 in
    let fed = c.in_err-feed.ensures.reads [] [] c.new-reader.ensures.at in
    rw (p.1, p.2)
    (_, is_fault_of c.in_err-feed.field-0.0 c.args.bytes.now _ (has_failed c.feed.new.self c.args.bytes.now _ c.in_err-feed.field-0.0 c.in_err-feed.ensures.tells fed.2))
