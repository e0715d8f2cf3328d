use Rattle.std.proofs.Common.{rules, refl}
use Rattle.std.specs.Cmp.{unsigned_ties}
use Rattle.std.specs.Cmp.Lexicographic.{texts_ties}
use Rattle.cim_words.specs.declared.object.Object.TheVariants as object
use Rattle.cim_profile.proofs.rules.ties_are_equal.Goals as goal

pub returns : goal.returns
returns c (object.Id i) (object.Id j) = search (rules, unsigned_ties)
returns c (object.Id i) (object.Name u) = refl
returns c (object.Id i) (object.Text u) = refl
returns c (object.Name t) (object.Id j) = refl
returns c (object.Name t) (object.Name u) = search (rules, texts_ties)
returns c (object.Name t) (object.Text u) = refl
returns c (object.Text t) (object.Id j) = refl
returns c (object.Text t) (object.Name u) = refl
returns c (object.Text t) (object.Text u) = search (rules, texts_ties)
