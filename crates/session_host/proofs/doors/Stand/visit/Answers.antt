use Rattle.std.proofs.Common.{ap}
use Rattle.session_host.specs.Doors.{DoorWords, all_shown, link_shown}
use Rattle.session_host.proofs.Visiting.{serves_as, shown_back}
use Rattle.session_host.proofs.doors.Stand.visit.Goals as goal

pub returns : goal.returns
returns g c =
    let words : DoorWords g.row.D.Denot g.row.D-L.Denot = record {
      number = g.D.Door.number;
      faults = g.D.Door.faults;
      coming = g.D.Door.coming;
      back = g.D.Door.back;
      lent = g.D.Door.lent;
      left = g.D.L.Link.left;
      written = g.D.L.Link.written;
      read_faults = g.D.L.Link.read_faults;
      write_faults = g.D.L.Link.write_faults;
    } in
    let session = c.serve_session-ended in
    record {
      visited = serves_as _ _ _ _ c.self.view_is (record {
        ended = session.result;
        went = link_shown words session.new.link;
        seat = session.ensures.seated;
        heard = λ base began history more. record {
          session = session.ensures.heard base began history more;
          nothing_left = session.ensures.nothing_left;
          read_cause = session.ensures.read_cause;
          write_cause = session.ensures.write_cause;
        };
        number = c.done.ensures.number;
        faults = c.done.ensures.faults;
        coming = ap (all_shown words) c.done.ensures.coming;
        back = shown_back words _ _ _ c.done.ensures.back;
        counts = c.with-self-inside.ensures.counts;
        failed = c.with-self-inside.ensures.failed;
      });
    }
