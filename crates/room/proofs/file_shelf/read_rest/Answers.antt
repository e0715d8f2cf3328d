use Rattle.std.proofs.Common.{rules, sym, subst}
use Rattle.std.specs.Io.KnownBytes.{Consumes}
use Rattle.room.proofs.StreamLemmas.{at_end, had_more, more_read, none_read, still_read}
use Rattle.room.proofs.file_shelf.read_rest.Goals as goal

pub loop-init : goal.loop-init
loop-init g c = (search rules, subst (Consumes _ _) (sym c.requires) (none_read _))

pub loop-preserved : goal.loop-preserved
loop-preserved g c =
    (search rules, subst (Consumes _ _) (sym c.in_ok-extend_from_slice.ensures.items) (more_read _ _ _ _ _ c.loop.invariant.1 c.in-Ok.ensures.bytes.0))

pub loop-preserved-in-Err : goal.loop-preserved-in-Err
loop-preserved-in-Err g c = (c.loop.invariant.0, still_read _ _ _ _ c.loop.invariant.1 c.in-Err.ensures.bytes)

pub returns-in-Ok-eq0-clause-whole : goal.returns-in-Ok-eq0-clause-whole
returns-in-Ok-eq0-clause-whole g c =
    at_end _ _ _ c.read.result c.in-Ok-eq0.field-0 c.read.new.buf c.loop.into.items c.loop.invariant.1 c.read.ensures.bytes c.in-Ok-eq0.is c.in-Ok-eq0.field-0-test (search rules)

pub returns-in_default-clause-longer : goal.returns-in_default-clause-longer
returns-in_default-clause-longer g c is =
    had_more _ _ c.loop.into.items c.read.new.buf c.in-Ok.count c.loop.left c.args.cap (more_read _ _ _ _ _ c.loop.invariant.1 c.in-Ok.ensures.bytes.0) (search rules)
    c.loop.invariant.0 (search rules)
