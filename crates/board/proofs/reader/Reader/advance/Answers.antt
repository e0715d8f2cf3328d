use Rattle.std.proofs.Common.{rules, ◌≡◌, ℕ, ◌≤◌, true, false, [], ◌∷◌, ◌++◌, length, sym, ap, ◌∙◌, subst}
use Rattle.board.specs.Word.{is_fresh, number_in}
use Rattle.board.specs.Lists.{IsPrefix}
use Rattle.board.specs.Views.{founds_of}
use Rattle.board.proofs.Prefixes.{prefix_refl}
use Rattle.board.proofs.Looks.{can_look, stale, fresh, holds, founds_stay, last_found, one_longer}
use Rattle.board.proofs.reader.Reader.advance.Goals as goal

pub load-word-requires : goal.load-word-requires
load-word-requires g c = (search rules, search rules, can_look g.V.Dated.log g.V.Dated.origin _ _ c.self.inside.seat.me c.self.inside.console c.self.inside.front c.self.invariant.4)

pub invariant_of-self : goal.invariant_of-self
invariant_of-self g c = let old : is_fresh c.load-word.result ≡ false = sym c.is_fresh.ensures ∙ c.if-not-is_fresh.true in
    let s = stale g.V.Dated.log g.V.Dated.origin 0 c.self.inside.seat.me c.load-word.new.seat.me c.self.inside.console c.load-word.result c.self.inside.front c.self.invariant.4 c.load-word.ensures.2 old in
    (search rules, search rules, search rules, one_longer g.V.Dated.log g.V.Dated.origin (founds_of c.load-word.new.seat.me.0.role) (founds_of c.self.inside.seat.me.0.role) s.number c.self.inside.looks s.founds c.self.invariant.3, s.reader)

pub returns-then-not-is_fresh : goal.returns-then-not-is_fresh
returns-then-not-is_fresh g c = let old : is_fresh c.load-word.result ≡ false = sym c.is_fresh.ensures ∙ c.if-not-is_fresh.true in
    let s = stale g.V.Dated.log g.V.Dated.origin 0 c.self.inside.seat.me c.load-word.new.seat.me c.self.inside.console c.load-word.result c.self.inside.front c.self.invariant.4 c.load-word.ensures.2 old in
    let same = s.list ∙ ap (λ r. r.seen) c.self.view_is in record {
      found = (s.number, s.founds ∙ ap (λ r. r.founds ++ s.number ∷ []) c.self.view_is, subst (λ r. length r.seen ≤ s.number) c.self.view_is s.seen, s.most);
      seen = subst (λ l. IsPrefix c.args.self.now.seen l) (sym same) (prefix_refl c.args.self.now.seen);
      shown = s.whole;
      same = (c.load-word.ensures.0 ∙ ap (λ r. r.board) c.self.view_is, ap (λ r. r.console) c.self.view_is, s.began ∙ ap (λ r. r.origin) c.self.view_is);
    }

pub collect-requires-clause-pending : goal.collect-requires-clause-pending
collect-requires-clause-pending g c κs within = let new : is_fresh c.load-word.result ≡ true = sym c.is_fresh.ensures ∙ c.if-not-is_fresh.false in
    let s = fresh g.V.Dated.log g.V.Dated.origin 0 c.self.inside.seat.me c.load-word.new.seat.me c.self.inside.console c.load-word.result c.self.inside.front c.in-Some.front c.self.invariant.4 (sym c.in-Some.ensures.value) c.load-word.ensures.2 new in
    s.pending

pub invariant_of-self-2 : goal.invariant_of-self-2
invariant_of-self-2 g c = let new : is_fresh c.load-word.result ≡ true = sym c.is_fresh.ensures ∙ c.if-not-is_fresh.false in
    let s = fresh g.V.Dated.log g.V.Dated.origin 0 c.self.inside.seat.me c.load-word.new.seat.me c.self.inside.console c.load-word.result c.self.inside.front c.in-Some.front c.self.invariant.4 (sym c.in-Some.ensures.value) c.load-word.ensures.2 new in
    let w = c.collect.ensures.collected in
    let founds = founds_stay g.V.Dated.log g.V.Dated.origin c.load-word.new.seat.me c.collect.new.seat.me c.self.inside.console c.collect.result w ∙ s.founds in (
      search rules,
      search rules,
      search rules,
      one_longer g.V.Dated.log g.V.Dated.origin (founds_of c.collect.new.seat.me.0.role) (founds_of c.self.inside.seat.me.0.role) (number_in c.load-word.result) c.self.inside.looks founds c.self.invariant.3,
      holds g.V.Dated.log g.V.Dated.origin c.load-word.new.seat.me c.collect.new.seat.me c.self.inside.console c.collect.result w,
    )

pub returns : goal.returns
returns g c = let new : is_fresh c.load-word.result ≡ true = sym c.is_fresh.ensures ∙ c.if-not-is_fresh.false in
    let s = fresh g.V.Dated.log g.V.Dated.origin 0 c.self.inside.seat.me c.load-word.new.seat.me c.self.inside.console c.load-word.result c.self.inside.front c.in-Some.front c.self.invariant.4 (sym c.in-Some.ensures.value) c.load-word.ensures.2 new in
    let w = c.collect.ensures.collected in
    let founds = founds_stay g.V.Dated.log g.V.Dated.origin c.load-word.new.seat.me c.collect.new.seat.me c.self.inside.console c.collect.result w ∙ s.founds in
    let n : ℕ = number_in c.load-word.result in
    let same = s.list ∙ ap (λ r. r.seen) c.self.view_is in record {
      found = (
        n,
        founds ∙ ap (λ r. r.founds ++ n ∷ []) c.self.view_is,
        subst (λ r. length r.seen ≤ n) c.self.view_is s.seen,
        last_found g.V.Dated.log g.V.Dated.origin (founds_of c.load-word.new.seat.me.0.role) (founds_of c.self.inside.seat.me.0.role) n (length c.collect.new.seat.me.0.list) s.founds c.collect.ensures.found,
      );
      seen = subst (λ l. IsPrefix l c.collect.new.seat.me.0.list) same c.collect.ensures.seen.0;
      shown = search rules;
      same = (c.collect.ensures.table ∙ (c.load-word.ensures.0 ∙ ap (λ r. r.board) c.self.view_is), ap (λ r. r.console) c.self.view_is, c.collect.ensures.origin ∙ (s.began ∙ ap (λ r. r.origin) c.self.view_is));
    }
