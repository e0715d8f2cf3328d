use Rattle.std.proofs.Common.{sym, ◌∙◌, subst, Contains, List}
use Rattle.plain_laws.proofs.Sorted.{sorted_alike}
use Rattle.room_words.specs.Terms.{term_order}
use Rattle.room_words.specs.declared.term.Term.{Term}
use Rattle.link_rules.proofs.members.members_of.Goals as goal

pub returns : goal.returns
returns c =
    let just = λ (t : Term). c.terminals_stand_where_listed.ensures c.args.index.now c.args.overlay.now c.args.place t c.has_no_fault.ensures c.requires in
    let kept = λ (t : Term). c.sort_once.ensures.same (λ x y tied. c.terms_are_ordered.ensures.apart x y (sym (c.terms_are_ordered.ensures.derived x y) ∙ tied)) t in (
      sym c.is_place.ensures ∙ c.if-not-is_place.false,
      record {
        ascending = rw c.of.ensures (sorted_alike _ term_order c.sort_once.new.items.items c.terms_are_ordered.ensures.derived c.sort_once.ensures.ordered);
        terminals = λ t. (
          (λ there. (just t).0 (subst (λ (terms : List Term). Contains terms t) c.in_ok-terms.ensures ((kept t).0 (subst (λ (terms : List Term). Contains terms t) c.of.ensures there)))),
          (λ at. rw c.of.ensures ((kept t).1 (rw c.in_ok-terms.ensures ((just t).1 at)))),
        );
      },
    )
