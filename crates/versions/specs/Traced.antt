-- The trace of a version, of this project.
use Rattle.std.specs.Prelude.{ℕ, ◌≡◌, List, length, IsTrue, false}
use Rattle.cim_model.specs.Links.{network}
use Rattle.cim_model.specs.Live.{is_live}
use Rattle.cim_model.specs.Reach.{IsReached}
use Rattle.cim_model.specs.Trace.{IsTrace, Row}
use Rattle.cim_words.specs.declared.phases.PhaseSet.{PhaseSet}
use Rattle.room_words.specs.TraceText.{trace_text}
use Rattle.versions.specs.History.{IsNow, Network}
use Rattle.versions.specs.Past.{Past}

-- The text of a trace from a source: what is reached in the network that the log makes of the base, under the number of entries.
pub record IsTraceOf (past : Past) (source : ℕ) (phases : PhaseSet) (text : List ℕ) : Type 0 where
  pub now : Network
  pub replays : IsNow past.base past.log now
  pub live : IsTrue (is_live now.model now.overlay source)
  pub rows : List Row
  pub trace : IsTrace (IsReached (network now.model now.overlay) source phases) rows
  pub is_text : text ≡ trace_text (length past.log) rows

-- there is no such source: no equipment of the model and no item on it
pub record HasNoSource (past : Past) (source : ℕ) : Type 0 where
  pub now : Network
  pub replays : IsNow past.base past.log now
  pub missing : is_live now.model now.overlay source ≡ false
