use Rattle.plain_laws.proofs.Members.{among_contained, contains_among}
use Rattle.plain_laws.proofs.Sorted.{one_sorted}
use Rattle.room_words.proofs.Compared.{terms_one_way}
use Rattle.link_rules.proofs.laws.one_list_of_members.Goals as goal
use Rattle.room_words.specs.Terms.{term_order}

pub returns : goal.returns
returns c m o place a b is also =
    one_sorted term_order a b terms_one_way is.ascending also.ascending
    (λ t there. among_contained b t ((also.terminals t).1 ((is.terminals t).0 (contains_among a t there))))
    (λ t there. among_contained a t ((is.terminals t).1 ((also.terminals t).0 (contains_among b t there))))
