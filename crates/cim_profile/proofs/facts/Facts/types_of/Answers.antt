use Rattle.cim_profile.proofs.facts.Facts.types_of.Goals as goal

pub returns : goal.returns
returns c = rw c.at.ensures (c.args.self.now.of_types c.args.subject.number)
