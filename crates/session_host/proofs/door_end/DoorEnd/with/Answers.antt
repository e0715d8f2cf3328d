use Rattle.std.proofs.Common.{refl}
use Rattle.line_serve.specs.declared.serving.LinesEnd.TheVariants as end
use Rattle.session_host.proofs.Counting.{all_more, kept, more}
use Rattle.session_host.proofs.door_end.DoorEnd.with.Goals as goal

pub returns-in-Bye-clause-counts : goal.returns-in-Bye-clause-counts
returns-in-Bye-clause-counts c ends counts short = record {
  sessions = all_more ends c.args.ended _ _ short c.saturating_add-sessions.ensures counts.sessions;
  bye = more ends end.Bye c.args.ended _ _ c.in-Bye.is short c.saturating_add.ensures counts.bye;
  ended = kept ends end.Ended end.Bye c.args.ended _ refl c.in-Bye.is counts.ended;
  read_fault = kept ends end.ReadFault end.Bye c.args.ended _ refl c.in-Bye.is counts.read_fault;
  write_fault = kept ends end.WriteFault end.Bye c.args.ended _ refl c.in-Bye.is counts.write_fault;
  long_line = kept ends end.LongLine end.Bye c.args.ended _ refl c.in-Bye.is counts.long_line;
  spent = kept ends end.Spent end.Bye c.args.ended _ refl c.in-Bye.is counts.spent;
}

pub returns-in-Ended-clause-counts : goal.returns-in-Ended-clause-counts
returns-in-Ended-clause-counts c ends counts short = record {
  sessions = all_more ends c.args.ended _ _ short c.saturating_add-sessions.ensures counts.sessions;
  bye = kept ends end.Bye end.Ended c.args.ended _ refl c.in-Ended.is counts.bye;
  ended = more ends end.Ended c.args.ended _ _ c.in-Ended.is short c.saturating_add-in-Ended.ensures counts.ended;
  read_fault = kept ends end.ReadFault end.Ended c.args.ended _ refl c.in-Ended.is counts.read_fault;
  write_fault = kept ends end.WriteFault end.Ended c.args.ended _ refl c.in-Ended.is counts.write_fault;
  long_line = kept ends end.LongLine end.Ended c.args.ended _ refl c.in-Ended.is counts.long_line;
  spent = kept ends end.Spent end.Ended c.args.ended _ refl c.in-Ended.is counts.spent;
}

pub returns-in-ReadFault-clause-counts : goal.returns-in-ReadFault-clause-counts
returns-in-ReadFault-clause-counts c ends counts short = record {
  sessions = all_more ends c.args.ended _ _ short c.saturating_add-sessions.ensures counts.sessions;
  bye = kept ends end.Bye end.ReadFault c.args.ended _ refl c.in-ReadFault.is counts.bye;
  ended = kept ends end.Ended end.ReadFault c.args.ended _ refl c.in-ReadFault.is counts.ended;
  read_fault = more ends end.ReadFault c.args.ended _ _ c.in-ReadFault.is short c.saturating_add-in-ReadFault.ensures counts.read_fault;
  write_fault = kept ends end.WriteFault end.ReadFault c.args.ended _ refl c.in-ReadFault.is counts.write_fault;
  long_line = kept ends end.LongLine end.ReadFault c.args.ended _ refl c.in-ReadFault.is counts.long_line;
  spent = kept ends end.Spent end.ReadFault c.args.ended _ refl c.in-ReadFault.is counts.spent;
}

pub returns-in-WriteFault-clause-counts : goal.returns-in-WriteFault-clause-counts
returns-in-WriteFault-clause-counts c ends counts short = record {
  sessions = all_more ends c.args.ended _ _ short c.saturating_add-sessions.ensures counts.sessions;
  bye = kept ends end.Bye end.WriteFault c.args.ended _ refl c.in-WriteFault.is counts.bye;
  ended = kept ends end.Ended end.WriteFault c.args.ended _ refl c.in-WriteFault.is counts.ended;
  read_fault = kept ends end.ReadFault end.WriteFault c.args.ended _ refl c.in-WriteFault.is counts.read_fault;
  write_fault = more ends end.WriteFault c.args.ended _ _ c.in-WriteFault.is short c.saturating_add-in-WriteFault.ensures counts.write_fault;
  long_line = kept ends end.LongLine end.WriteFault c.args.ended _ refl c.in-WriteFault.is counts.long_line;
  spent = kept ends end.Spent end.WriteFault c.args.ended _ refl c.in-WriteFault.is counts.spent;
}

pub returns-in-LongLine-clause-counts : goal.returns-in-LongLine-clause-counts
returns-in-LongLine-clause-counts c ends counts short = record {
  sessions = all_more ends c.args.ended _ _ short c.saturating_add-sessions.ensures counts.sessions;
  bye = kept ends end.Bye end.LongLine c.args.ended _ refl c.in-LongLine.is counts.bye;
  ended = kept ends end.Ended end.LongLine c.args.ended _ refl c.in-LongLine.is counts.ended;
  read_fault = kept ends end.ReadFault end.LongLine c.args.ended _ refl c.in-LongLine.is counts.read_fault;
  write_fault = kept ends end.WriteFault end.LongLine c.args.ended _ refl c.in-LongLine.is counts.write_fault;
  long_line = more ends end.LongLine c.args.ended _ _ c.in-LongLine.is short c.saturating_add-in-LongLine.ensures counts.long_line;
  spent = kept ends end.Spent end.LongLine c.args.ended _ refl c.in-LongLine.is counts.spent;
}

pub returns-in-Spent-clause-counts : goal.returns-in-Spent-clause-counts
returns-in-Spent-clause-counts c ends counts short = record {
  sessions = all_more ends c.args.ended _ _ short c.saturating_add-sessions.ensures counts.sessions;
  bye = kept ends end.Bye end.Spent c.args.ended _ refl c.in-Spent.is counts.bye;
  ended = kept ends end.Ended end.Spent c.args.ended _ refl c.in-Spent.is counts.ended;
  read_fault = kept ends end.ReadFault end.Spent c.args.ended _ refl c.in-Spent.is counts.read_fault;
  write_fault = kept ends end.WriteFault end.Spent c.args.ended _ refl c.in-Spent.is counts.write_fault;
  long_line = kept ends end.LongLine end.Spent c.args.ended _ refl c.in-Spent.is counts.long_line;
  spent = more ends end.Spent c.args.ended _ _ c.in-Spent.is short c.saturating_add-in-Spent.ensures counts.spent;
}
