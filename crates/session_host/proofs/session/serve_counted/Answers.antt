use Rattle.std.proofs.Common.{◌≡◌, sym, subst}
use Rattle.desk.specs.Ends.{number_of}
use Rattle.session_host.specs.Sessions.{IsHeard, StaysSeated}
use Rattle.session_host.specs.Told.{Post}
use Rattle.session_host.specs.Views.{view_of}
use Rattle.session_host.proofs.session.serve_counted.Goals as goal

-- the console that was lent is what the session left behind it, since the session kept its name

pub returns-clause-heard : goal.returns-clause-heard
returns-clause-heard g c base began =
    let back : c.console-1.given.0 ≡ c.serve_all.new.session.console.now = c.console-1.given.1 (sym c.serve_all.ensures.same) in
    subst (λ (after : Post). IsHeard base (number_of c.args.console.now) (view_of c.args.console.now) c.serve_all.result (view_of after)
    (record { left = g.L.Link.left c.args.link.now; written = g.L.Link.written c.args.link.now })
    (record { left = g.L.Link.left c.serve_all.new.link; written = g.L.Link.written c.serve_all.new.link }))
    (sym back) (c.serve_all.ensures.heard base began)

pub returns-clause-seated : goal.returns-clause-seated
returns-clause-seated g c =
    let back : c.console-1.given.0 ≡ c.serve_all.new.session.console.now = c.console-1.given.1 (sym c.serve_all.ensures.same) in
    subst (StaysSeated c.args.console.now) (sym back) c.serve_all.ensures.seated
