use Rattle.cim_profile.proofs.rule.Rule.is_broken.Goals as goal

pub returns-in-Once : goal.returns-in-Once
returns-in-Once c = rw c.in-Once.is (c.breaks_once.ensures _ c.requires.subject)

pub returns-in-Owner : goal.returns-in-Owner
returns-in-Owner c = rw c.in-Owner.is (c.breaks_owner.ensures _ c.requires.subject)

pub returns-in-Numbers : goal.returns-in-Numbers
returns-in-Numbers c = rw c.in-Numbers.is c.breaks_numbers.ensures

pub returns-in-Form : goal.returns-in-Form
returns-in-Form c = rw c.in-Form.is (c.breaks_form.ensures _ c.requires.subject)

pub returns-in-Place : goal.returns-in-Place
returns-in-Place c = rw c.in-Place.is c.breaks_place.ensures

pub returns-in-Crowd : goal.returns-in-Crowd
returns-in-Crowd c = rw c.in-Crowd.is c.breaks_crowd.ensures

pub returns-in-Sides : goal.returns-in-Sides
returns-in-Sides c = rw c.in-Sides.is (c.breaks_sides.ensures _ c.requires.subject)
