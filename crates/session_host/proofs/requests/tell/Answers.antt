use Rattle.std.proofs.Common.{◌≡◌, false, true, subst}
use Rattle.std.specs.Prelude.{IsOk}
use Rattle.session_host.proofs.requests.tell.Goals as goal

pub returns-in_err-write_reply : goal.returns-in_err-write_reply
returns-in_err-write_reply c =
    absurd (let no : false ≡ true = subst IsOk c.in_err-write_reply.was (c.write_reply.ensures.fits c.requires.brief c.requires.space) in cc)
