-- How the lines of a session go together: of one line, of several pieces, and of the whole.
use Rattle.std.proofs.Common.{◌≡◌, ℕ, ◌≤◌, true, not, IsTrue, List, [], ◌∷◌, ◌++◌, length, take, Option, Some, None, Result, Ok, Err, IfErr, refl, sym, ap, ◌∙◌, arith, append_assoc, append-nil, subst}
use Rattle.std.proofs.lemmas.Grind.{common_steps, flat_map-append}
use Rattle.std.proofs.lemmas.List.Folds.{list_all-append}
use Rattle.std.specs.Result.{IsErrAnd}
use Rattle.cim_words.specs.Written.{line_feed}
use Rattle.grid_out.specs.Link.{TakesOff}
use Rattle.grid_out.specs.Sink.{Gains}
use Rattle.grid_out.specs.declared.failure.Failed.{Failed}
use Rattle.grid_out.proofs.SinkLaws.{gains_both, gains_nothing}
use Rattle.line_serve.specs.AnsweredLines.{Answer, AnsweredLine, AreAnswered, all_go_on, all_told, bytes_of, is_bye, most_input, told, without_return}
use Rattle.line_serve.specs.Parts.{GoesOn, IsAnswered, IsBegun, IsTooLong, Stops, is_inside}
use Rattle.line_serve.specs.Served.{EndsBy, EndsWith, IsServed, WritesBy}
use Rattle.line_serve.specs.declared.answerer.Next.{Next}
use Rattle.line_serve.specs.declared.answerer.Next.TheVariants as next
use Rattle.line_serve.specs.declared.serving.LinesEnd.{LinesEnd}
use Rattle.line_serve.specs.declared.serving.LinesEnd.TheVariants as end
use Rattle.line_serve.proofs.LineLaws.{both}

-- lines that are answered, and then more of them
pub answered_more : {A : Type 0} (answers : A → List ℕ → Answer → A → Type 0) (a b c : A) (first second : List AnsweredLine)
    → AreAnswered answers a first b → AreAnswered answers b second c → AreAnswered answers a (first ++ second) c
answered_more answers a b c [] second one two = subst (λ x. AreAnswered answers x second c) (sym one) two
answered_more answers a b c (line ∷ first) second one two =
    (one.0, one.1, (one.2.0, one.2.1, answered_more answers one.2.0 b c first second one.2.2 two))

pub go_on_more : (first second : List AnsweredLine) → IsTrue (all_go_on first) → IsTrue (all_go_on second) → IsTrue (all_go_on (first ++ second))
go_on_more first second one two = list_all-append _ first second ∙ both (all_go_on first) (all_go_on second) one two

bytes_more : (first second : List AnsweredLine) (rest : List ℕ) → bytes_of first ++ (bytes_of second ++ rest) ≡ bytes_of (first ++ second) ++ rest
bytes_more first second rest =
    sym (append_assoc (bytes_of first) (bytes_of second) rest) ∙ ap (λ l. l ++ rest) (sym (flat_map-append _ first second))

told_more : (first second : List AnsweredLine) → all_told first ++ all_told second ≡ all_told (first ++ second)
told_more first second = sym (flat_map-append _ first second)

-- a session goes on over no lines
pub goes_nowhere : {A : Type 0} (answers : A → List ℕ → Answer → A → Type 0) (a : A) (bytes : List ℕ) (written : Option (List ℕ))
    → GoesOn answers a a bytes bytes written written
goes_nowhere answers a bytes written =
    record { lines = []; answered = refl; go_on = refl; parts = refl; writes = gains_nothing written }

-- a session that goes on, and then goes on
pub goes_both : {A : Type 0} (answers : A → List ℕ → Answer → A → Type 0) (a b c : A) (bytes between left : List ℕ) (w w' w'' : Option (List ℕ))
    → GoesOn answers a b bytes between w w' → GoesOn answers b c between left w' w'' → GoesOn answers a c bytes left w w''
goes_both answers a b c bytes between left w w' w'' one two = record {
  lines = one.lines ++ two.lines;
  answered = answered_more answers a b c one.lines two.lines one.answered two.answered;
  go_on = go_on_more one.lines two.lines one.go_on two.go_on;
  parts = one.parts ∙ ap (λ l. bytes_of one.lines ++ l) two.parts ∙ bytes_more one.lines two.lines left;
  writes = subst (Gains w w'') (told_more one.lines two.lines) (gains_both w w' w'' (all_told one.lines) (all_told two.lines) one.writes two.writes);
}

-- more bytes come behind those that are left
pub goes_behind : {A : Type 0} (answers : A → List ℕ → Answer → A → Type 0) (a b : A) (bytes left more : List ℕ) (w w' : Option (List ℕ))
    → GoesOn answers a b bytes left w w' → GoesOn answers a b (bytes ++ more) (left ++ more) w w'
goes_behind answers a b bytes left more w w' one = record {
  lines = one.lines;
  answered = one.answered;
  go_on = one.go_on;
  parts = ap (λ l. l ++ more) one.parts ∙ append_assoc (bytes_of one.lines) left more;
  writes = one.writes;
}

-- one line, as it came and with its answer
the_line : (came : List ℕ) → Answer → AnsweredLine
the_line came answer = record { came = came; answer = answer }

one_answered : {A : Type 0} (answers : A → List ℕ → Answer → A → Type 0) (a b : A) (came : List ℕ) (answer : Answer)
    → IsBegun came → answers a (without_return came) answer b → AreAnswered answers a (the_line came answer ∷ []) b
unfolding the_line
one_answered answers a b came answer line is = (line.one_line, line.short, (b, is, refl))

one_line_parts : (bytes came behind : List ℕ) (answer : Answer) → bytes ≡ came ++ line_feed ∷ behind
    → bytes ≡ bytes_of (the_line came answer ∷ []) ++ behind
unfolding the_line
one_line_parts bytes came behind answer is = is ∙ grind (arith, common_steps)

-- the same answer, told of the line as it came, and by the result in full
pub settled : {A : Type 0} (answers : A → List ℕ → Answer → A → Type 0) (a b : A) (line came : List ℕ) (result full : Result Next Failed) (w w' : Option (List ℕ))
    → line ≡ without_return came → result ≡ full → IsAnswered answers a line result b w w' → IsAnswered answers a (without_return came) full b w w'
settled answers a b line came result full w w' is so one =
    subst (λ (r : Result Next Failed). IsAnswered answers a (without_return came) r b w w') so
    (subst (λ (l : List ℕ). IsAnswered answers a l result b w w') is one)

-- an answer that lets the session go on
pub goes_by_line : {A : Type 0} (answers : A → List ℕ → Answer → A → Type 0) (a b : A) (bytes came behind : List ℕ) (w w' : Option (List ℕ))
    → IsBegun came → bytes ≡ came ++ line_feed ∷ behind → IsAnswered answers a (without_return came) (Ok next.Go) b w w'
    → GoesOn answers a b bytes behind w w'
unfolding the_line
goes_by_line answers a b bytes came behind w w' line is one = record {
  lines = the_line came one.answer ∷ [];
  answered = one_answered answers a b came one.answer line one.answered;
  go_on = both (not (is_bye one.answer)) true one.writes.0 refl;
  parts = one_line_parts bytes came behind one.answer is;
  writes = subst (Gains w w') (sym (append-nil (told one.answer))) one.writes.1;
}

-- an answer that ends the session
pub stops_by_bye : {A : Type 0} (answers : A → List ℕ → Answer → A → Type 0) (a b : A) (bytes came behind : List ℕ) (w w' : Option (List ℕ))
    → IsBegun came → bytes ≡ came ++ line_feed ∷ behind → IsAnswered answers a (without_return came) (Ok next.Bye) b w w'
    → Stops answers a end.Bye b bytes w w'
unfolding the_line
stops_by_bye answers a b bytes came behind w w' line is one = record {
  lines = the_line came one.answer ∷ [];
  rest = behind;
  answered = one_answered answers a b came one.answer line one.answered;
  parts = one_line_parts bytes came behind one.answer is;
  inside = refl;
  ends = ([], the_line came one.answer, refl, refl, one.writes.0);
  writes = subst (Gains w w') (sym (append-nil (told one.answer))) one.writes.1;
}

-- an answer that the link does not take
pub stops_by_fault : {A : Type 0} (answers : A → List ℕ → Answer → A → Type 0) (a b : A) (bytes came behind : List ℕ) (w w' : Option (List ℕ)) (failed : Failed)
    → IsBegun came → bytes ≡ came ++ line_feed ∷ behind → IsAnswered answers a (without_return came) (Err failed) b w w'
    → Stops answers a end.WriteFault b bytes w w'
unfolding the_line
stops_by_fault answers a b bytes came behind w w' failed line is one = record {
  lines = the_line came one.answer ∷ [];
  rest = behind;
  answered = one_answered answers a b came one.answer line one.answered;
  parts = one_line_parts bytes came behind one.answer is;
  inside = refl;
  ends = ([], the_line came one.answer, refl, refl, one.writes.0);
  writes = ([], the_line came one.answer, refl, one.writes.1);
}

-- a line that is too long
pub stops_by_length : {A : Type 0} (answers : A → List ℕ → Answer → A → Type 0) (a : A) (bytes : List ℕ) (w : Option (List ℕ))
    → IsTooLong bytes → Stops answers a end.LongLine a bytes w w
stops_by_length answers a bytes w is = record {
  lines = [];
  rest = bytes;
  answered = refl;
  parts = refl;
  inside = refl;
  ends = (refl, is.long, is.one_line);
  writes = gains_nothing w;
}

ends_with_more : (first second : List AnsweredLine) (Last : AnsweredLine → Type 0) → IsTrue (all_go_on first) → EndsWith second Last → EndsWith (first ++ second) Last
ends_with_more first second Last on (before, last, is, goes, fits) =
    (first ++ before, last, ap (λ l. first ++ l) is ∙ sym (append_assoc first before (last ∷ [])), go_on_more first before on goes, fits)

-- an end behind lines after which the session went on
ends_more : (ended : LinesEnd) (first second : List AnsweredLine) (rest : List ℕ) → IsTrue (all_go_on first) → IsTrue (is_inside ended)
    → EndsBy ended second rest → EndsBy ended (first ++ second) rest
ends_more end.Bye first second rest on inside is = ends_with_more first second _ on is
ends_more end.WriteFault first second rest on inside is = ends_with_more first second _ on is
ends_more end.LongLine first second rest on inside is = (go_on_more first second on is.0, is.1, is.2)
ends_more end.Ended first second rest on inside is = absurd cc
ends_more end.ReadFault first second rest on inside is = absurd cc
ends_more end.Spent first second rest on inside is = absurd cc

writes_all : (first second : List AnsweredLine) (w w' w'' : Option (List ℕ)) → Gains w w' (all_told first) → Gains w' w'' (all_told second)
    → Gains w w'' (all_told (first ++ second))
writes_all first second w w' w'' one two =
    subst (Gains w w'') (told_more first second) (gains_both w w' w'' (all_told first) (all_told second) one two)

writes_more : (ended : LinesEnd) (first second : List AnsweredLine) (w w' w'' : Option (List ℕ)) → Gains w w' (all_told first)
    → WritesBy ended second w' w'' → WritesBy ended (first ++ second) w w''
writes_more end.Bye first second w w' w'' one two = writes_all first second w w' w'' one two
writes_more end.LongLine first second w w' w'' one two = writes_all first second w w' w'' one two
writes_more end.Ended first second w w' w'' one two = writes_all first second w w' w'' one two
writes_more end.ReadFault first second w w' w'' one two = writes_all first second w w' w'' one two
writes_more end.Spent first second w w' w'' one two = writes_all first second w w' w'' one two
writes_more end.WriteFault first second w w' w'' one (before, last, is, (n, two)) = (
  first ++ before,
  last,
  ap (λ l. first ++ l) is ∙ sym (append_assoc first before (last ∷ [])),
  (
    n,
    subst (Gains w w'') (sym (append_assoc (all_told first) (all_told before) (take n (told last.answer))) ∙ ap (λ l. l ++ take n (told last.answer)) (told_more first before))
        (gains_both w w' w'' (all_told first) (all_told before ++ take n (told last.answer)) one two),
  ),
)

-- a session that goes on, and then ends
pub goes_and_stops : {A : Type 0} (answers : A → List ℕ → Answer → A → Type 0) (a b c : A) (ended : LinesEnd) (bytes between : List ℕ) (w w' w'' : Option (List ℕ))
    → GoesOn answers a b bytes between w w' → Stops answers b ended c between w' w'' → Stops answers a ended c bytes w w''
goes_and_stops answers a b c ended bytes between w w' w'' one two = record {
  lines = one.lines ++ two.lines;
  rest = two.rest;
  answered = answered_more answers a b c one.lines two.lines one.answered two.answered;
  parts = one.parts ∙ ap (λ l. bytes_of one.lines ++ l) two.parts ∙ bytes_more one.lines two.lines two.rest;
  inside = two.inside;
  ends = ends_more ended one.lines two.lines two.rest one.go_on two.inside two.ends;
  writes = writes_more ended one.lines two.lines w w' w'' one.writes two.writes;
}

-- how a session ended is handed on as it is
pub hands_on : {A X : Type 0} (answers : A → List ℕ → Answer → A → Type 0) (a c : A) (result : Result X LinesEnd) (how : LinesEnd) (bytes : List ℕ) (w w'' : Option (List ℕ))
    → IsErrAnd result (λ e. e ≡ how) → Stops answers a how c bytes w w'' → IfErr result (λ e. Stops answers a e c bytes w w'')
hands_on answers a c (Ok x) how bytes w w'' is stops = tt
hands_on answers a c (Err e) how bytes w w'' is stops = subst (λ (e : LinesEnd). Stops answers a e c bytes w w'') (sym is) stops

-- where nothing is read, nothing is taken
pub takes_none : (left : Option (List ℕ)) → TakesOff left left []
takes_none None = tt
takes_none (Some bytes) = (bytes, refl, refl)

-- what two reads take, they take one behind the other
pub takes_both : (old between new : Option (List ℕ)) (first second : List ℕ) → TakesOff old between first → TakesOff between new second
    → TakesOff old new (first ++ second)
takes_both None between new first second one two = tt
takes_both (Some before) between new first second (after, is, parts) two =
    let (rest, left, behind) = subst (λ (o : Option (List ℕ)). TakesOff o new second) is two in
    (rest, left, parts ∙ ap (λ l. first ++ l) behind ∙ sym (append_assoc first second rest))

-- a session that ended while it went over bytes that were taken
pub serves_by_stop : {A : Type 0} (answers : A → List ℕ → Answer → A → Type 0) (a c : A) (how : LinesEnd) (bytes : List ℕ) (l l' w w' : Option (List ℕ))
    → Stops answers a how c bytes w w' → TakesOff l l' bytes → length bytes ≤ most_input → IsServed answers a how c l l' w w'
serves_by_stop answers a c how bytes l l' w w' stops took within = record {
  lines = stops.lines;
  rest = stops.rest;
  answered = stops.answered;
  within = subst (λ (b : List ℕ). length b ≤ most_input) stops.parts within;
  taken = subst (TakesOff l l') stops.parts took;
  ends = stops.ends;
  writes = stops.writes;
}
