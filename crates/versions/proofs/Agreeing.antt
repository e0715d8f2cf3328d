-- What a version holds agrees still with one more entry.
use Rattle.std.proofs.Common.{◌≡◌, ℕ, ◌+◌, ◌-◌, ◌^◌, ◌<◌, ◌≤◌, inl, inr, List, [], ◌∷◌, ◌++◌, length, leb, eqb, cond, Bool, Some, true, false, sym, ap, subst, refl, arith, ◌∙◌}
use Rattle.std.proofs.lemmas.Bool.Decides.{nat_tests}
use Rattle.std.proofs.lemmas.List.Sums.{sum_by-append}
use Rattle.std.proofs.lemmas.Grind.{common_steps}
use Rattle.cim_model.specs.Profile.{IsFaultless}
use Rattle.cim_model.specs.Stands.{Stands}
use Rattle.cim_words.specs.declared.statement.Statement.{Statement}
use Rattle.desk.specs.Consoles.{IsConsole, entries_of}
use Rattle.desk.specs.Legal.{IsNext}
use Rattle.desk.proofs.Legal.{legal_empty, legal_grows}
use Rattle.graph_pages.specs.Graph.{GraphView}
use Rattle.link_rules.specs.Map.{IsMap}
use Rattle.room_words.specs.Overlay.{no_overlay}
use Rattle.room_words.specs.declared.event.Entry.{Entry}
use Rattle.room_words.specs.declared.event.Event.{Event}
use Rattle.room_words.specs.declared.event.Event.TheVariants as event
use Rattle.room_words.specs.declared.refused.Why.{Why}
use Rattle.room_words.specs.declared.refused.Why.TheVariants as why
use Rattle.versions.specs.Held.{Agrees, now_in, past_of}
use Rattle.versions.specs.History.{IsFull, IsNow, Judges, Network, Refuses, Replays, Takes, entry_bytes, event_bytes, log_bytes, most_entries, most_log_bytes}
use Rattle.versions.specs.Moved.{IsMoved}
use Rattle.versions.specs.Past.{Past}
use Rattle.versions.specs.Serials.{AreCounts, count_of}
use Rattle.versions.specs.declared.held.Held.{Held}
use Rattle.versions.specs.declared.moved.Moved.{Moved}
use Rattle.versions.specs.declared.serials.Counts.{Counts}
use Rattle.versions.proofs.Counting.{counts_more, no_more_than_all}

-- entries take effect one after the other, and one more after them
pub replays_more : (before now after : Network) (entries : List Entry) (entry : Entry) → Replays before entries now → Takes now entry.event after → Replays before (entries ++ entry ∷ []) after
replays_more before now after [] entry replays takes = (after, subst (λ (from : Network). Takes from entry.event after) replays takes, refl)
replays_more before now after (e ∷ entries) entry replays takes = (replays.0, replays.1, replays_more replays.0 now after entries entry replays.2 takes)

-- the bytes of a log with one more entry
pub bytes_more : (log : List Entry) (entry : Entry) → log_bytes (log ++ entry ∷ []) ≡ log_bytes log + entry_bytes entry
bytes_more log entry = sum_by-append entry_bytes log (entry ∷ []) ∙ grind (arith, common_steps)

-- what is not at most is above
above : (m n : ℕ) → (m ≤ n → ⊥) → n < m
above m n none = by (leb m n) refl
  where
    by : (b : Bool) → leb m n ≡ b → n < m
    by true is = absurd (none (grind (arith, nat_tests)))
    by false is = grind (arith, nat_tests)

not_above : (m n : ℕ) → (m < n → ⊥) → n ≤ m
not_above m n none = by (leb n m) refl
  where
    by : (b : Bool) → leb n m ≡ b → n ≤ m
    by true is = grind (arith, nat_tests)
    by false is = absurd (none (grind (arith, nat_tests)))

-- a log that was not full has room for an entry
few_more : (log : List Entry) (entry : Entry) → (most_entries ≤ length log → ⊥) → length (log ++ entry ∷ []) ≤ most_entries
few_more log entry room = let below : length log < most_entries = above most_entries (length log) room in let long : length (log ++ entry ∷ []) ≡ length log + 1 = grind (arith, common_steps) in omega (arith, below, long)

pub agrees_with : (held : Held) (entry : Entry) (moved : Moved) (counts : Counts) → Agrees held → IsNext (Judges held.base) held.log entry → IsMoved held entry.event moved
    → ((console : ℕ) → IsConsole console → count_of console counts.of ≡ count_of console held.counts.of + cond (eqb entry.console console) 1 0)
    → Agrees (record {
      base = held.base;
      log = held.log ++ entry ∷ [];
      counts = counts;
      bytes = held.bytes + event_bytes entry.event;
      index = moved.index;
      overlay = moved.overlay;
      graph = moved.graph;
    })
agrees_with held entry moved counts agrees next is raised =
    record {
      base_faultless = agrees.base_faultless;
      legal = legal_grows (Judges held.base) held.log entry agrees.legal next;
      now = replays_more (record { model = held.base; overlay = no_overlay }) (now_in held) (record { model = moved.index; overlay = moved.overlay }) held.log entry agrees.now is.takes;
      faultless = is.faultless;
      stands = is.stands;
      map = is.map;
      counts = counts_more held.counts.of counts.of held.log entry agrees.counts raised;
      bytes = ap (λ (n : ℕ). n + event_bytes entry.event) agrees.bytes ∙ sym (bytes_more held.log entry);
      few = few_more held.log entry (λ full. next.accepted.0 (inl full));
      short = not_above most_log_bytes (held.bytes + event_bytes entry.event) (λ full. next.accepted.0 (inr (subst (λ (n : ℕ). most_log_bytes < n + event_bytes entry.event) agrees.bytes full)));
    }

-- a version of an untouched base agrees
pub agrees_first : (base : List Statement) (counts : Counts) (graph : GraphView) → IsFaultless base → Stands base no_overlay → IsMap base no_overlay graph → AreCounts counts.of []
    → Agrees (record { base = base; log = []; counts = counts; bytes = 0; index = base; overlay = no_overlay; graph = graph })
agrees_first base counts graph faultless stands map none =
    record {
      base_faultless = faultless;
      legal = legal_empty (Judges base);
      now = refl;
      faultless = faultless;
      stands = stands;
      map = map;
      counts = none;
      bytes = refl;
      few = omega arith;
      short = omega arith;
    }

-- a console has no more entries than a log has room for
pub room_to_count : (held : Held) (console : ℕ) → Agrees held → IsConsole console → count_of console held.counts.of < 2 ^ 32 - 1
room_to_count held console agrees is =
    let count : count_of console held.counts.of ≡ length (entries_of console held.log) = agrees.counts console is in
    let most = no_more_than_all console held.log in
    let few = agrees.few in
    omega (arith, count, most, few)

-- the network of what a version holds is the one that its log makes of its base
pub now_of : (held inside : Held) (past : Past) → held ≡ inside → past_of inside ≡ past → Agrees inside → IsNow past.base past.log (now_in held)
now_of held inside past same is agrees =
    subst (λ (p : Past). IsNow p.base p.log (now_in held)) is (subst (λ (h : Held). IsNow inside.base inside.log (now_in h)) (sym same) agrees.now)

-- a refusal on the network that a log with room makes is the judgement after that log
pub judged_now : (base : List Statement) (log : List Entry) (one : Event) (now : Network) (reason : Why) → (IsFull log one → ⊥) → IsNow base log now → Refuses now one reason → Judges base log one (Some reason)
judged_now base log one now (why.Act refusal) room is_now refuses = (room, (now, is_now, refuses))
judged_now base log one now (why.Diff refusal) room is_now refuses = (room, (now, is_now, refuses))
judged_now base log (event.Act act) now (why.Log full) room is_now refuses = absurd refuses
judged_now base log (event.Cutover d) now (why.Log full) room is_now refuses = absurd refuses
