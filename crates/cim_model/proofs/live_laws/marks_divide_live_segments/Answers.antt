use Rattle.cim_model.proofs.LiveMarks.{live_marks}
use Rattle.cim_model.proofs.live_laws.marks_divide_live_segments.Goals as goal

pub returns : goal.returns
returns c m o x faultless stands = live_marks m o x (record {
  faultless = faultless;
  stands = stands;
  terms = c.terms_are_compared.ensures.equal;
  places = c.places_are_compared.ensures.equal;
})
