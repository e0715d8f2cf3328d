use Rattle.std.proofs.Common.{ℕ, subst}
use Rattle.plain_laws.proofs.Members.{Among, among_contained, contains_among}
use Rattle.cim_model.specs.Live.{terms_of}
use Rattle.cim_model.proofs.LiveMarks.{line_live, mark_stands, on_line}
use Rattle.cim_model.proofs.LiveTerms.{listed_owner, listed_term, owner_live, term_listed, stands_at_place}
use Rattle.cim_model.proofs.live_laws.what_is_live.Goals as goal

pub returns-clause-owners : goal.returns-clause-owners
returns-clause-owners c m o t faultless stands is =
    owner_live m o t (record { faultless = faultless; stands = stands; terms = c.terms_are_compared.ensures.equal; places = c.places_are_compared.ensures.equal }) is

pub returns-clause-places : goal.returns-clause-places
returns-clause-places c m o place t faultless stands at =
    stands_at_place m o place t (record { faultless = faultless; stands = stands; terms = c.terms_are_compared.ensures.equal; places = c.places_are_compared.ensures.equal }) at

pub returns-clause-terminals : goal.returns-clause-terminals
returns-clause-terminals c m o x t =
    let apart = c.terms_are_compared.ensures.equal in (
      (λ there. let listed = among_contained (terms_of m o x) t there in (listed_term m o x t apart listed, listed_owner m o x t listed)),
      (λ (is, owner). contains_among (terms_of m o x) t (subst (λ (x : ℕ). Among (terms_of m o x) t) owner (term_listed m o t apart is))),
    )

pub returns-clause-segments : goal.returns-clause-segments
returns-clause-segments c m o x y faultless stands on =
    on_line m o x y (record { faultless = faultless; stands = stands; terms = c.terms_are_compared.ensures.equal; places = c.places_are_compared.ensures.equal }) on

pub returns-clause-lines : goal.returns-clause-lines
returns-clause-lines c m o x faultless stands along =
    line_live m o x (record { faultless = faultless; stands = stands; terms = c.terms_are_compared.ensures.equal; places = c.places_are_compared.ensures.equal }) along

pub returns-clause-marks : goal.returns-clause-marks
returns-clause-marks c m o x id divides faultless stands has =
    mark_stands m o x id divides (record { faultless = faultless; stands = stands; terms = c.terms_are_compared.ensures.equal; places = c.places_are_compared.ensures.equal }) has
