use Rattle.cim_model.specs.Effects.{effect}
use Rattle.cim_model.specs.Model.{subjects}
use Rattle.increment.specs.Touched.{touched_places, touched_stars}
use Rattle.plain_laws.proofs.Members.{contains_among}
use Rattle.increment.proofs.Acts.{Lists, not_taken, other_places_stay, other_stars_stay}
use Rattle.increment.proofs.Few.{few_entries}
use Rattle.increment.proofs.Places.{members_stay}
use Rattle.increment.proofs.Stars.{star_stays}
use Rattle.increment.proofs.laws.acts_touch_few_entries.Goals as goal

pub returns-clause-stars : goal.returns-clause-stars
returns-clause-stars c m o a stands accepted x absent =
    star_stays m o (effect o a) x (other_stars_stay m o a x lists stands (not_taken m o a accepted) (λ there. absent (contains_among (touched_stars o a) x there)))
  where
    lists : Lists m
    lists = record {
      own = λ o x t there. ((c.what_is_live.ensures.terminals m o x t).0 there).1;
      subjects = λ x there. (c.subjects_are_listed_once.ensures.listed m x).0 (contains_among (subjects m) x there);
    }

pub returns-clause-places : goal.returns-clause-places
returns-clause-places c m o a faultless stands accepted place absent =
    members_stay m o (effect o a) place (λ place t. c.terminals_stand_where_listed.ensures m o place t faultless stands)
    (λ place t. c.terminals_stand_where_listed.ensures m (effect o a) place t faultless (c.accepted_acts_stand.ensures m o a faultless stands accepted))
    (other_places_stay m o a place c.places_are_compared.ensures.equal stands (not_taken m o a accepted) (λ there. absent (contains_among (touched_places o a) place there)))

pub returns-clause-few : goal.returns-clause-few
returns-clause-few c o a = few_entries o a
