-- The words by which refusals of lines are told, of this project.
use Rattle.std.specs.Prelude.{ℕ, List, codes}
use Rattle.nt_text.specs.declared.refusal.LineRefusal.{LineRefusal}
use Rattle.nt_text.specs.declared.refusal.LineRefusal.TheVariants as why

abbrev pub refusal_word : LineRefusal → List ℕ
refusal_word why.LineTooLong = codes "LineTooLong"
refusal_word why.Utf8 = codes "Utf8"
refusal_word why.Blank = codes "Blank"
refusal_word why.Syntax = codes "Syntax"
refusal_word why.Subject = codes "Subject"
refusal_word why.Wide = codes "Wide"
