use Rattle.std.proofs.Common.{◌≡◌, [], ◌++◌, rules, take, refl, sym, ap, ◌∙◌, subst, append-nil, drop_of_length-le}
use Rattle.std.specs.Io.KnownBytes.{Appends}
use Rattle.tcp_doors.proofs.StreamLemmas.{front_after, front_moves, front_so_far, more_written, none_written, still_written}
use Rattle.tcp_doors.proofs.stream.write_whole.Goals as goal

pub loop-init : goal.loop-init
loop-init g c = ([], refl, none_written _)

pub loop-preserved : goal.loop-preserved
loop-preserved g c =
    let (done, split, written) = c.loop.invariant in
    let rest = c.loop.rest.now in
    (done ++ take c.in-Ok.count rest, front_moves _ done rest c.in-Ok.count split, more_written _ _ _ _ _ written c.in-Ok.ensures.bytes)

pub loop-preserved-in-Err : goal.loop-preserved-in-Err
loop-preserved-in-Err g c =
    let (done, split, written) = c.loop.invariant in
    (done, split, still_written _ _ _ _ written c.in-Err.ensures.bytes)

pub returns-then-is_empty-clause-whole : goal.returns-then-is_empty-clause-whole
returns-then-is_empty-clause-whole g c =
    let (done, split, written) = c.loop.invariant in
    let rest = c.loop.rest.now in
    let empty : rest ≡ [] = drop_of_length-le rest {i = 0} (search rules) in
    subst (Appends _ _) (sym (split ∙ ap (λ l. done ++ l) empty ∙ append-nil done)) written

pub returns-in-Ok-eq0-clause-front : goal.returns-in-Ok-eq0-clause-front
returns-in-Ok-eq0-clause-front g c =
    let (done, split, written) = c.loop.invariant in
    front_after _ _ _ c.write.result done c.loop.rest.now _ split written c.write.ensures.bytes

pub returns-in-Err-2-clause-front : goal.returns-in-Err-2-clause-front
returns-in-Err-2-clause-front g c =
    let (done, split, written) = c.loop.invariant in
    front_after _ _ _ c.write.result done c.loop.rest.now _ split written c.write.ensures.bytes

pub returns-clause-front : goal.returns-clause-front
returns-clause-front g c =
    let (done, split, written) = c.loop.invariant in
    front_so_far _ _ done c.loop.rest.now _ split written
