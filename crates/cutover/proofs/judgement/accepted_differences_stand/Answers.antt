use Rattle.cutover.proofs.judgement.accepted_differences_stand.Goals as goal

-- what every item and position needs of the model holds on the new one, and the rest does not speak of a model
pub returns : goal.returns
returns c m o d result stands accepted = record {
  items = accepted.3.0;
  positions = accepted.3.1;
  identifiers = stands.identifiers;
  switches = stands.switches;
  jumpers = stands.jumpers;
  phased = stands.phased;
  few = stands.few;
}
