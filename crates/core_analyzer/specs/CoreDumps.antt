-- What a dump of a core tells.
use Rattle.rtio_core.specs.Core.{CoreState}
use Rattle.rtio_core.specs.Reply.{outputs_at}
use Rattle.rtio_core.specs.Told.{log_lines_at}
use Rattle.core_analyzer.specs.Dumps.{Dumped}

-- the counter, the events put out and the lines of the log in their order
abbrev pub dump_of : CoreState → Dumped
dump_of core = record {
  counter = core.counter;
  events = outputs_at core.config core.history core.counter;
  lines = log_lines_at core.config core.history core.counter;
}
