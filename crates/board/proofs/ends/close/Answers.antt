use Rattle.std.proofs.Common.{rules, ◌≡◌, List, [], ◌∷◌, ◌++◌, All, refl, sym, ap, ◌∙◌, subst}
use Rattle.std.proofs.lemmas.List.{append-nil}
use Rattle.std.proofs.lemmas.List.Elements.{All-cons, All-nil, All-weaker}
use Rattle.board.specs.Lists.{IsPrefix}
use Rattle.board.specs.Ends.{ReaderState}
use Rattle.board.proofs.Listing.{one_of, moved, moved_twice}
use Rattle.board.proofs.ends.close.Goals as goal

pub loop-reader-init : goal.loop-reader-init
loop-reader-init g c =
    let State : Type 0 = ReaderState g.row.V.Denot g.row.V-Item.Denot g.row.V-Origin.Denot in
    let P : State → Type 0 = λ r. IsPrefix r.seen (g.V.Dated.log c.args.writer.last) × (r.origin ≡ c.args.writer.origin) in
    ([], sym (append-nil c.args.readers.items), refl, All-nil P)

pub absorb-requires-clause-table : goal.absorb-requires-clause-table
absorb-requires-clause-table g c κs within =
    let State : Type 0 = ReaderState g.row.V.Denot g.row.V-Item.Denot g.row.V-Origin.Denot in
    let i = c.loop-reader.invariant in
    let P : State → Type 0 = λ r. r.board ≡ c.args.writer.board in
    let last : c.loop-reader.readers.items ≡ c.pop.new.self.items ++ c.in-Some.reader ∷ [] = c.in-Some.ensures.items in
    let board : c.in-Some.reader.board ≡ c.loop-reader.writer.board =
    one_of P c.args.readers.items c.pop.new.self.items i.0 c.in-Some.reader (moved_twice c.args.readers.items c.loop-reader.readers.items c.pop.new.self.items i.0 c.in-Some.reader i.1 last) c.requires.board
    ∙ ap (λ w. w.board) (sym i.2) in
    (c.leave.ensures.seat.0 ∙ board, c.leave.ensures.seat.1)

pub loop-reader-preserved : goal.loop-reader-preserved
loop-reader-preserved g c =
    let State : Type 0 = ReaderState g.row.V.Denot g.row.V-Item.Denot g.row.V-Origin.Denot in
    let i = c.loop-reader.invariant in
    let P : State → Type 0 = λ r. IsPrefix r.seen (g.V.Dated.log c.args.writer.last) × (r.origin ≡ c.args.writer.origin) in
    let last : c.loop-reader.readers.items ≡ c.pop.new.self.items ++ c.in-Some.reader ∷ [] = c.in-Some.ensures.items in
    let seen : IsPrefix c.in-Some.reader.seen (g.V.Dated.log c.args.writer.last) = subst (λ w. IsPrefix c.in-Some.reader.seen (g.V.Dated.log w.last)) i.2 (subst (λ l. IsPrefix l (g.V.Dated.log c.loop-reader.writer.last)) c.leave.ensures.seen.0 c.absorb.ensures.seen) in
    let same : c.in-Some.reader.origin ≡ c.args.writer.origin = (sym c.leave.ensures.seen.1 ∙ c.absorb.ensures.origin) ∙ ap (λ w. w.origin) i.2 in
    (c.in-Some.reader ∷ i.0, moved c.args.readers.items c.loop-reader.readers.items c.pop.new.self.items i.0 c.in-Some.reader i.1 last, c.absorb.ensures.same ∙ i.2, All-cons P c.in-Some.reader i.0 (seen, same) i.3)

pub returns : goal.returns
returns g c =
    let State : Type 0 = ReaderState g.row.V.Denot g.row.V-Item.Denot g.row.V-Origin.Denot in
    let i = c.loop-reader.invariant in
    let P : State → Type 0 = λ r. IsPrefix r.seen (g.V.Dated.log c.args.writer.last) × (r.origin ≡ c.args.writer.origin) in
    let none : c.loop-reader.readers.items ≡ [] = search rules in
    let all : c.args.readers.items ≡ i.0 = i.1 ∙ ap (λ (xs : List State). xs ++ i.0) none in
    let last_is : c.into_last.result ≡ c.args.writer.last = c.into_last.ensures.last ∙ ap (λ w. w.last) i.2 in record {
      last = last_is;
      began = search rules;
      seen = subst (λ xs. All (λ (r : State). IsPrefix r.seen (g.V.Dated.log c.into_last.result)) xs) (sym all) (subst (λ v. All (λ (r : State). IsPrefix r.seen (g.V.Dated.log v)) i.0) (sym last_is)
          (All-weaker P (λ (r : State). IsPrefix r.seen (g.V.Dated.log c.args.writer.last)) (λ r t. t.0) i.0 i.3));
      origin = subst (λ xs. All (λ (r : State). r.origin ≡ c.args.writer.origin) xs) (sym all) (All-weaker P (λ (r : State). r.origin ≡ c.args.writer.origin) (λ r t. t.1) i.0 i.3);
    }
