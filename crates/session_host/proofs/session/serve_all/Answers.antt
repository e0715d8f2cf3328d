use Rattle.std.proofs.Common.{false, None, sym, subst, arith, length-append}
use Rattle.line_serve.specs.AnsweredLines.{bytes_of}
use Rattle.session_host.proofs.Talked.{Answering, Begun, Laws, begins_through, kept_through, looks_through, make_up}
use Rattle.session_host.specs.Exchanges.{AreAnswered}
use Rattle.session_host.specs.Told.{TalkState, state_of}
use Rattle.session_host.specs.declared.session.Session.{Session}
use Rattle.session_host.proofs.session.serve_all.Goals as goal
use Rattle.desk.specs.Ends.{number_of}

pub returns-clause-same : goal.returns-clause-same
returns-clause-same g c =
    let served = c.serve_lines.ensures.served in
    let laws : Laws = record {
      first = c.kept_documents_are_read.ensures.first;
      more = c.kept_documents_are_read.ensures.more;
      says = c.kept_documents_are_read.ensures.says;
      fault = c.kept_documents_are_read.ensures.fault;
      stage = c.a_stage_is_one_word.ensures.stage false;
    } in
    kept_through laws {A = Session g.row.N.Denot g.row.G.Denot g.row.S.Denot} (λ s. s.talk.now) (λ s. s.console.now) (Answering (λ s. s.talk.now) (λ s. s.console.now) (λ s. s.console.ghost_name)) (λ b l a f is. (is.0, is.1))
    (λ s. s.console.ghost_name) (λ b l a f is. is.2) served.lines c.args.session.now c.serve_lines.new.answerer served.answered

pub returns-clause-heard : goal.returns-clause-heard
returns-clause-heard g c base began history more =
    let served = c.serve_lines.ensures.served in
    let laws : Laws = record {
      first = c.kept_documents_are_read.ensures.first;
      more = c.kept_documents_are_read.ensures.more;
      says = c.kept_documents_are_read.ensures.says;
      fault = c.kept_documents_are_read.ensures.fault;
      stage = c.a_stage_is_one_word.ensures.stage false;
    } in
    let made = make_up laws {A = Session g.row.N.Denot g.row.G.Denot g.row.S.Denot} (λ s. s.talk.now) (λ s. s.console.now) (Answering (λ s. s.talk.now) (λ s. s.console.now) (λ s. s.console.ghost_name)) (λ b l a f is. (is.0, is.1)) base history
    served.lines None c.args.session.now c.serve_lines.new.answerer (subst (λ (t : TalkState). Begun t.draft None) (sym c.requires.begins) tt) served.answered began more in
    record {
      lines = served.lines;
      rest = served.rest;
      exchanges = made.0;
      staged = c.serve_lines.new.answerer.talk.now.staged;
      within = served.within;
      taken = served.taken;
      ends = served.ends;
      writes = served.writes;
      make_up = made.1;
      answered = subst (λ (t : TalkState). AreAnswered base history (number_of c.args.session.now.console.now) (state_of t c.args.session.now.console.now) made.0
          (state_of c.serve_lines.new.answerer.talk.now c.serve_lines.new.answerer.console.now)) c.requires.begins made.2;
    }

pub returns-clause-seated : goal.returns-clause-seated
returns-clause-seated g c =
    let served = c.serve_lines.ensures.served in
    let laws : Laws = record {
      first = c.kept_documents_are_read.ensures.first;
      more = c.kept_documents_are_read.ensures.more;
      says = c.kept_documents_are_read.ensures.says;
      fault = c.kept_documents_are_read.ensures.fault;
      stage = c.a_stage_is_one_word.ensures.stage false;
    } in
    let looked = looks_through laws {A = Session g.row.N.Denot g.row.G.Denot g.row.S.Denot} (λ s. s.talk.now) (λ s. s.console.now) (Answering (λ s. s.talk.now) (λ s. s.console.now) (λ s. s.console.ghost_name)) (λ b l a f is. (is.0, is.1))
    served.lines c.args.session.now c.serve_lines.new.answerer served.answered in
    let within = served.within in
    record {
      console = kept_through laws {A = Session g.row.N.Denot g.row.G.Denot g.row.S.Denot} (λ s. s.talk.now) (λ s. s.console.now) (Answering (λ s. s.talk.now) (λ s. s.console.now) (λ s. s.console.ghost_name)) (λ b l a f is. (is.0, is.1))
          (λ s. s.console.now.reader.console) (λ b l a f is. is.1.console) served.lines c.args.session.now c.serve_lines.new.answerer served.answered;
      board = kept_through laws {A = Session g.row.N.Denot g.row.G.Denot g.row.S.Denot} (λ s. s.talk.now) (λ s. s.console.now) (Answering (λ s. s.talk.now) (λ s. s.console.now) (λ s. s.console.ghost_name)) (λ b l a f is. (is.0, is.1))
          (λ s. s.console.now.reader.board) (λ b l a f is. is.1.board) served.lines c.args.session.now c.serve_lines.new.answerer served.answered;
      origin = kept_through laws {A = Session g.row.N.Denot g.row.G.Denot g.row.S.Denot} (λ s. s.talk.now) (λ s. s.console.now) (Answering (λ s. s.talk.now) (λ s. s.console.now) (λ s. s.console.ghost_name)) (λ b l a f is. (is.0, is.1))
          (λ s. s.console.now.reader.origin) (λ b l a f is. is.1.origin) served.lines c.args.session.now c.serve_lines.new.answerer served.answered;
      begins = begins_through laws {A = Session g.row.N.Denot g.row.G.Denot g.row.S.Denot} (λ s. s.talk.now) (λ s. s.console.now) (Answering (λ s. s.talk.now) (λ s. s.console.now) (λ s. s.console.ghost_name)) (λ b l a f is. (is.0, is.1))
          served.lines c.args.session.now c.serve_lines.new.answerer served.answered;
      looks = omega (arith, looked, within, length-append (bytes_of served.lines) served.rest);
    }
