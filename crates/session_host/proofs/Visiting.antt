-- A console that serves one session after another at its door.
use Rattle.std.proofs.Common.{◌≡◌, ℕ, ◌+◌, ◌*◌, ◌<◌, ◌≤◌, ◌^◌, ◌⊎◌, inl, inr, List, [], ◌∷◌, ◌++◌, length, map, Option, Some, None, Bool, IsTrue, true, false, refl, ap, sym, subst, ◌∙◌, arith, length-append, append_assoc}
use Rattle.std.proofs.Math.Seq.{take-length}
use Rattle.std.proofs.lemmas.List.{map-append, length-map, append-nil}
use Rattle.board.specs.Lists.{IsPrefix}
use Rattle.cim_words.specs.declared.statement.Statement.{Statement}
use Rattle.desk.specs.Ends.{number_of}
use Rattle.grid_out.specs.Door.{TakesBack}
use Rattle.grid_out.specs.Faults.{CountsFaults}
use Rattle.line_serve.specs.AnsweredLines.{most_input}
use Rattle.line_serve.specs.declared.serving.LinesEnd.{LinesEnd}
use Rattle.room_words.specs.declared.event.Entry.{Entry}
use Rattle.session_host.proofs.Seeing.{prefix_trans}
use Rattle.session_host.specs.Doors.{AreVisits, AtDoor, ComesNext, ComesNoMore, CountsEnds, DoorWords, GivesFirstOnes, HasServed, IsFresh, IsVisit, LinkShown, ServedItsDoor, Serves, TakesAllBack, Visit, all_shown, link_shown}
use Rattle.session_host.specs.Told.{Post}
use Rattle.session_host.specs.declared.door_end.DoorEnd.{DoorEnd}
use Rattle.session_host.specs.Views.{View, view_of}

visits_behind : (base : List Statement) (history : List Entry) (console : ℕ) (before between after : View) (visits : List Visit) (visit : Visit) →
    AreVisits base history console before visits between → IsVisit base history console between visit after →
    AreVisits base history console before (visits ++ visit ∷ []) after
visits_behind base history console before between after [] visit is one =
    (after, subst (λ (v : View). IsVisit base history console v visit after) is one, refl)
visits_behind base history console before between after (first ∷ visits) visit is one =
    (is.0, is.1, visits_behind base history console is.0 between after visits visit is.2 one)

-- where a door tells the links that it gives, one more was taken off behind the others
gives_on : (start now next : Option (List LinkShown)) (links : List LinkShown) (link : LinkShown) →
    GivesFirstOnes start now links → GivesFirstOnes now next (link ∷ []) → GivesFirstOnes start next (links ++ link ∷ [])
gives_on None now next links link before one = tt
gives_on (Some coming) now next links link before one =
    let this = subst (λ (n : Option (List LinkShown)). GivesFirstOnes n next (link ∷ [])) before.1 one in
    (this.0, this.1, before.2 ∙ (ap (λ (l : List LinkShown). links ++ l) this.2 ∙ sym (append_assoc links (link ∷ []) this.0)))

takes_on : (start now next : Option (List LinkShown)) (links : List LinkShown) (link : LinkShown) →
    TakesAllBack start now links → TakesAllBack now next (link ∷ []) → TakesAllBack start next (links ++ link ∷ [])
takes_on None now next links link before one = tt
takes_on (Some back) now next links link before one =
    subst (λ (n : Option (List LinkShown)). TakesAllBack n next (link ∷ [])) before one ∙ ap Some (append_assoc back links (link ∷ []))

gives_none : (coming : Option (List LinkShown)) → GivesFirstOnes coming coming []
gives_none None = tt
gives_none (Some links) = (links, refl, refl)

takes_none : (back : Option (List LinkShown)) → TakesAllBack back back []
takes_none None = tt
takes_none (Some links) = ap Some (sym (append-nil links))

-- faults are as many as before where none is noted
faults_kept : (before now : ℕ) (failed : Bool) → CountsFaults before now failed → failed ≡ false → now ≡ before
faults_kept before now true counts is = absurd cc
faults_kept before now false counts is = counts.kept refl

no_fault : (faults : ℕ) (failed : Bool) → failed ≡ false → CountsFaults faults faults failed
no_fault faults true is = absurd cc
no_fault faults false is = record { later = omega arith; rose = λ (it : IsTrue false). absurd cc; kept = λ it. refl }

no_fault_since : (start now after : ℕ) (failed still : Bool) → CountsFaults start now failed → failed ≡ false → after ≡ now → still ≡ false → CountsFaults start after still
no_fault_since start now after failed still counts is same not =
    subst (λ (n : ℕ). CountsFaults start n still) (sym (same ∙ faults_kept start now failed counts is)) (no_fault start still not)

-- counts with another word on whether the door failed
counts_kept : (before after : DoorEnd) (ends : List LinesEnd) → after ≡ record before { failed = after.failed } → CountsEnds before ends → CountsEnds after ends
counts_kept before after ends same counts = record {
  sessions = ap (λ (d : DoorEnd). d.sessions) same ∙ counts.sessions;
  bye = ap (λ (d : DoorEnd). d.bye) same ∙ counts.bye;
  ended = ap (λ (d : DoorEnd). d.ended) same ∙ counts.ended;
  read_fault = ap (λ (d : DoorEnd). d.read_fault) same ∙ counts.read_fault;
  write_fault = ap (λ (d : DoorEnd). d.write_fault) same ∙ counts.write_fault;
  long_line = ap (λ (d : DoorEnd). d.long_line) same ∙ counts.long_line;
  spent = ap (λ (d : DoorEnd). d.spent) same ∙ counts.spent;
}

-- What holds while a door is served: as many looks were made as the sessions allow, and the door has not failed.
pub record Serving (start now : AtDoor) : Type 0 where
  pub served : HasServed start now
  pub looks : length now.post.reader.founds ≤ 2 ^ 62 + length served.visits * most_input
  pub bounded : (length served.visits ≡ 0) ⊎ (start.door.number < 2 ^ 32)
  pub failed : now.counted.failed ≡ false

pub serving_begins : (start : AtDoor) → length start.post.reader.founds ≤ 2 ^ 62 → IsFresh start.counted → Serving start start
serving_begins start looks fresh = record {
  served = record {
    visits = [];
    console = refl;
    board = refl;
    origin = refl;
    begins = take-length start.post.reader.seen;
    heard = λ base began history more. refl;
    gave = record {
      number = omega arith;
      coming = gives_none start.door.coming;
      back = takes_none start.door.back;
      counts = fresh.counts;
      cause = no_fault start.door.faults start.counted.failed fresh.failed;
    };
  };
  looks = looks;
  bounded = inl refl;
  failed = fresh.failed;
}

-- one more session may look once for each byte of its input
more_looks : (now mid after visits lengthened : ℕ) → now ≤ 2 ^ 62 + visits * most_input → mid ≡ now → after ≤ mid + most_input → lengthened ≡ visits + 1 →
    after ≤ 2 ^ 62 + lengthened * most_input
more_looks now mid after visits lengthened few same once longer = omega (arith, few, same, once, longer)

-- a door had fewer than 2 ^ 32 links at the start, where it had links at all
first_bounded : (visits left number : ℕ) → number ≡ visits + left → (visits ≡ 0) ⊎ (number < 2 ^ 32) → left < 2 ^ 32 → number < 2 ^ 32
first_bounded visits left number parts (inl none) short = omega (arith, parts, none, short)
first_bounded visits left number parts (inr was) short = was

module _ (start now mid : AtDoor) (link : LinkShown) (serving : Serving start now) (comes : ComesNext now.door mid.door link)
    (posted : mid.post ≡ now.post) (counted : mid.counted ≡ now.counted) (bounded : now.door.number < 2 ^ 32) where
  abbrev visits : List Visit
  visits = serving.served.visits

  start_bounded : start.door.number < 2 ^ 32
  start_bounded = first_bounded (length visits) now.door.number start.door.number serving.served.gave.number serving.bounded bounded

  sessions_left : length visits + 1 < 2 ^ 32 + 1
  sessions_left = let number = serving.served.gave.number in let came = comes.number in let few = start_bounded in omega (arith, number, came, few)

  -- so there are looks enough for one more session
  pub looks_left : length mid.post.reader.founds + most_input ≤ 2 ^ 63
  looks_left =
      let looks = serving.looks in
      let few = sessions_left in
      let same : length mid.post.reader.founds ≡ length now.post.reader.founds = ap (λ (p : Post). length p.reader.founds) posted in
      omega (arith, looks, few, same)

  pub not_failed : mid.counted.failed ≡ false
  not_failed = ap (λ (d : DoorEnd). d.failed) counted ∙ serving.failed

  module _ (after : AtDoor) (serves : Serves mid after link) where
    abbrev visit : Visit
    visit = record { came = link; ended = serves.ended; went = serves.went }

    lengthened : length (visits ++ visit ∷ []) ≡ length visits + 1
    lengthened = length-append visits (visit ∷ [])

    heard_on : (base : List Statement) → start.post.reader.origin ≡ Some base → (history : List Entry) → IsPrefix after.post.reader.seen history →
        AreVisits base history (number_of start.post) (view_of start.post) (visits ++ visit ∷ []) (view_of after.post)
    heard_on base began history more =
        let origin : mid.post.reader.origin ≡ Some base = ap (λ (p : Post). p.reader.origin) posted ∙ (serving.served.origin ∙ began) in
        let later : IsPrefix now.post.reader.seen history =
        subst (λ (p : Post). IsPrefix p.reader.seen history) posted (prefix_trans _ _ _ serves.seat.begins more) in
        let console : number_of mid.post ≡ number_of start.post =
        ap (λ (p : Post). number_of p) posted ∙ ap (λ (n : ℕ). n + 1) serving.served.console in
        let one : IsVisit base history (number_of start.post) (view_of now.post) visit (view_of after.post) =
        subst (λ (n : ℕ). IsVisit base history n (view_of now.post) visit (view_of after.post)) console
        (subst (λ (p : Post). IsVisit base history (number_of mid.post) (view_of p) visit (view_of after.post)) posted (serves.heard base origin history more)) in
        visits_behind base history (number_of start.post) (view_of start.post) (view_of now.post) (view_of after.post) visits visit
        (serving.served.heard base began history later) one

    served_on : HasServed start after
    served_on = record {
      visits = visits ++ visit ∷ [];
      console = serves.seat.console ∙ (ap (λ (p : Post). p.reader.console) posted ∙ serving.served.console);
      board = serves.seat.board ∙ (ap (λ (p : Post). p.reader.board) posted ∙ serving.served.board);
      origin = serves.seat.origin ∙ (ap (λ (p : Post). p.reader.origin) posted ∙ serving.served.origin);
      begins = prefix_trans _ _ _ serving.served.begins (subst (λ (p : Post). IsPrefix p.reader.seen after.post.reader.seen) posted serves.seat.begins);
      heard = heard_on;
      gave = record {
        number = let was = serving.served.gave.number in let came = comes.number in let kept = serves.number in omega (arith, was, came, kept, lengthened);
        coming = subst (GivesFirstOnes start.door.coming after.door.coming) (sym (map-append (λ (v : Visit). v.came) visits (visit ∷ [])))
            (gives_on start.door.coming now.door.coming after.door.coming (map (λ (v : Visit). v.came) visits) link serving.served.gave.coming
            (subst (λ (c : Option (List LinkShown)). GivesFirstOnes now.door.coming c (link ∷ [])) (sym serves.coming) comes.coming));
        back = subst (TakesAllBack start.door.back after.door.back) (sym (map-append (λ (v : Visit). v.went) visits (visit ∷ [])))
            (takes_on start.door.back now.door.back after.door.back (map (λ (v : Visit). v.went) visits) serves.went serving.served.gave.back
            (subst (λ (b : Option (List LinkShown)). TakesAllBack b after.door.back (serves.went ∷ [])) comes.back serves.back));
        counts = subst (CountsEnds after.counted) (sym (map-append (λ (v : Visit). v.ended) visits (visit ∷ [])))
            (serves.counts (map (λ (v : Visit). v.ended) visits) (subst (λ (d : DoorEnd). CountsEnds d (map (λ (v : Visit). v.ended) visits)) (sym counted) serving.served.gave.counts)
            (let few = sessions_left in let same : length (map (λ (v : Visit). v.ended) visits) ≡ length visits = length-map visits (λ (v : Visit). v.ended) in
            let came = comes.number in let number = serving.served.gave.number in let bound = start_bounded in omega (arith, same, came, number, bound)));
        cause = no_fault_since start.door.faults now.door.faults after.door.faults now.counted.failed after.counted.failed serving.served.gave.cause serving.failed
            (serves.faults ∙ comes.faults) (serves.failed ∙ not_failed);
      };
    }

    pub serving_on : Serving start after
    unfolding served_on
    serving_on = record {
      served = served_on;
      looks = more_looks (length now.post.reader.founds) (length mid.post.reader.founds) (length after.post.reader.founds) (length visits) (length (visits ++ visit ∷ []))
          serving.looks (ap (λ (p : Post). length p.reader.founds) posted) serves.seat.looks lengthened;
      bounded = inr start_bounded;
      failed = serves.failed ∙ not_failed;
    }

-- the door gave no more
pub served_to_the_end : (start now after : AtDoor) → Serving start now → ComesNoMore now after → after.post ≡ now.post → ServedItsDoor start after
served_to_the_end start now after serving ends posted = record {
  served = record {
    visits = serving.served.visits;
    console = ap (λ (p : Post). p.reader.console) posted ∙ serving.served.console;
    board = ap (λ (p : Post). p.reader.board) posted ∙ serving.served.board;
    origin = ap (λ (p : Post). p.reader.origin) posted ∙ serving.served.origin;
    begins = subst (λ (p : Post). IsPrefix start.post.reader.seen p.reader.seen) (sym posted) serving.served.begins;
    heard = subst (λ (p : Post). (base : List Statement) → start.post.reader.origin ≡ Some base → (history : List Entry) → IsPrefix p.reader.seen history →
        AreVisits base history (number_of start.post) (view_of start.post) serving.served.visits (view_of p)) (sym posted) serving.served.heard;
    gave = record {
      number = let was = serving.served.gave.number in let kept = ends.number in omega (arith, was, kept);
      coming = subst (λ (c : Option (List LinkShown)). GivesFirstOnes start.door.coming c (map (λ (v : Visit). v.came) serving.served.visits)) (sym ends.coming) serving.served.gave.coming;
      back = subst (λ (b : Option (List LinkShown)). TakesAllBack start.door.back b (map (λ (v : Visit). v.went) serving.served.visits)) (sym ends.back) serving.served.gave.back;
      counts = counts_kept now.counted after.counted (map (λ (v : Visit). v.ended) serving.served.visits) ends.counted serving.served.gave.counts;
      cause = subst (λ (n : ℕ). CountsFaults n after.door.faults after.counted.failed)
          (faults_kept start.door.faults now.door.faults now.counted.failed serving.served.gave.cause serving.failed) ends.cause;
    };
  };
  asked = ends.asked;
}

-- where a door tells the links that were given back, one more came to their end
pub shown_back : {D L : Type 0} (words : DoorWords D L) (old new : Option (List L)) (link : L) → TakesBack old new link →
    TakesAllBack (all_shown words old) (all_shown words new) (link_shown words link ∷ [])
shown_back words None new link took = tt
shown_back words (Some links) new link took = ap (all_shown words) took ∙ ap Some (map-append (link_shown words) links (link ∷ []))

pub serves_as : (before now after : AtDoor) (link : LinkShown) → before ≡ now → Serves before after link → Serves now after link
serves_as before now after link is serves = subst (λ (b : AtDoor). Serves b after link) is serves
