use Rattle.std.proofs.Common.{◌≡◌, [], ◌∷◌, ◌++◌}
use Rattle.std.proofs.lemmas.Result.{on_ok_weaker}
use Rattle.nt_text.proofs.Documents.{reads_one}
use Rattle.nt_text.proofs.reader.read_into.Goals as goal

pub returns-in-Ok-Some-clause-ok : goal.returns-in-Ok-Some-clause-ok
returns-in-Ok-Some-clause-ok c =
    let reading = rw c.in-Ok-Some.field-0-is at c.in-Ok-Some.ensures.reads in
    on_ok_weaker c.add.result
    (λ (behind : c.add.new.into ≡ c.args.into.now ++ c.in-Ok-Some.statement ∷ []).
    (c.in-Ok-Some.statement ∷ [], behind, reads_one c.args.line.now c.in-Ok-Some.statement reading))
    c.add.ensures.ok
