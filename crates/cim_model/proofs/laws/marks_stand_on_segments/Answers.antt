use Rattle.cim_model.proofs.Marks.{on_segment, segment_on_none, mark_stands}
use Rattle.cim_model.proofs.laws.marks_stand_on_segments.Goals as goal

pub returns-clause-marks : goal.returns-clause-marks
returns-clause-marks c m y faultless = mark_stands m y faultless

pub returns-clause-segments : goal.returns-clause-segments
returns-clause-segments c m x y faultless on = (on_segment m x y faultless on).0

pub returns-clause-alone : goal.returns-clause-alone
returns-clause-alone c m x faultless segment = segment_on_none m x faultless segment
