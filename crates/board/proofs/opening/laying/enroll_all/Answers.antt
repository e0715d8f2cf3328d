use Rattle.std.proofs.Common.{rules, arith, ◌≡◌, ℕ, ◌+◌, [], ◌∷◌, ◌++◌, refl, sym, ap, ◌∙◌}
use Rattle.std.specs.Arc.{arc_value}
use Rattle.board.specs.Ends.{newly_seated, ReaderState}
use Rattle.board.specs.Opened.{opening_seat}
use Rattle.board.proofs.Listing.{one_more}
use Rattle.board.proofs.opening.laying.enroll_all.Goals as goal

pub loop-console-init : goal.loop-console-init
loop-console-init g c = (refl, c.requires.seat, search rules, λ k l. absurd (omega arith))

pub returns-in_err-share-clause-table : goal.returns-in_err-share-clause-table
returns-in_err-share-clause-table g c = c.loop-console.invariant.0

pub returns-in_err-try_clone-clause-table : goal.returns-in_err-try_clone-clause-table
returns-in_err-try_clone-clause-table g c = c.loop-console.invariant.0

pub enroll-reader-requires-clause-table : goal.enroll-reader-requires-clause-table
enroll-reader-requires-clause-table g c κs within =
    let board : arc_value c.in_ok-try_clone.field-0 ≡ arc_value c.args.board.now = c.in_ok-try_clone.ensures in
    let mine = c.loop-console.invariant.0 in
    (mine ∙ (c.requires.table.0 ∙ ap (λ t. t.shared.table_id) (sym board)), c.requires.table.1 ∙ ap (λ t. t.words) (sym mine), c.loop-console-test.true, c.requires.table.2)

pub enroll-reader-requires-clause-seat : goal.enroll-reader-requires-clause-seat
enroll-reader-requires-clause-seat g c κs within =
    let same : c.in_ok-share.share ≡ c.args.first.now = c.in_ok-share.ensures in
    c.loop-console.invariant.1 ∙ ap (λ v. opening_seat c.args.consoles c.args.consoles c.loop-console.console (g.V.Dated.log v) (g.V.Dated.origin v)) (sym same)

pub returns-in_err-push-clause-table : goal.returns-in_err-push-clause-table
returns-in_err-push-clause-table g c = c.enroll-reader.ensures.table ∙ c.loop-console.invariant.0

pub loop-console-preserved : goal.loop-console-preserved
loop-console-preserved g c =
    let State : Type 0 = ReaderState g.row.V.Denot g.row.V-Item.Denot g.row.V-Origin.Denot in
    let same : c.in_ok-share.share ≡ c.args.first.now = c.in_ok-share.ensures in
    let i = c.loop-console.invariant in
    let seat : ℕ → State = λ k. newly_seated c.args.from.now.table_id k (g.V.Dated.log c.args.first.now) (g.V.Dated.origin c.args.first.now) c.args.first.now in
    let reader_is : c.enroll-reader.result ≡ seat c.loop-console.console =
    c.enroll-reader.ensures.reader ∙ (λ j. newly_seated (i.0 j) c.loop-console.console (g.V.Dated.log (same j)) (g.V.Dated.origin (same j)) (same j)) in
    let pushed : c.push.new.self.items ≡ c.loop-console.readers.items ++ c.enroll-reader.result ∷ [] = c.in_ok-push.ensures.items in
    let more = one_more seat c.loop-console.readers.items c.push.new.self.items c.enroll-reader.result c.loop-console.console pushed i.2 i.3 reader_is in
    (c.enroll-reader.ensures.table ∙ i.0, c.enroll-reader.ensures.seat ∙ ap (λ v. opening_seat c.args.consoles c.args.consoles (c.loop-console.console + 1) (g.V.Dated.log v) (g.V.Dated.origin v)) same, more.0, more.1)

pub returns : goal.returns
returns g c =
    let over = c.loop-console-test.false in
    let within = c.loop-console.auto.console-end in
    let all : c.loop-console.console ≡ c.args.consoles = omega arith in record {
      table = c.loop-console.invariant.0;
      seat = c.loop-console.invariant.1 ∙ ap (λ k. opening_seat c.args.consoles c.args.consoles k (g.V.Dated.log c.args.first.now) (g.V.Dated.origin c.args.first.now)) all;
      readers = (c.loop-console.invariant.2 ∙ all, λ k l. c.loop-console.invariant.3 k (omega arith));
    }
