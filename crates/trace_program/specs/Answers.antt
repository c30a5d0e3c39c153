-- What the program owes a kernel's text.
use Rattle.std.specs.Prelude.{true, codes}
use Rattle.limits.specs.Limits.{most_text}
use Rattle.sim_program.specs.Answers.{of_kernel}
use Rattle.sim_words.specs.declared.asked.Options.{Options}
use Rattle.top_calls.specs.Commands.{Duty, Program, Reads}
use Rattle.trace_program.specs.Traces.{TellsTrace}

-- the trace of a run of the kernel under the options, with its status; other texts are refused as `sim` does
abbrev pub trace_of : Options → Duty
trace_of options = of_kernel (TellsTrace options)

abbrev pub tracer : Program Options
tracer = record {
  usage = codes "usage: artiq_trace with --cost --lanes --depth --horizon --budget --schedule --edges --hold --recordings\n";
  takes_memory = true;
  command_of = λ options. record { origin = Reads most_text; duty = trace_of options };
}
