-- The laws of the traces.
use Rattle.std.specs.Prelude.{◌≡◌, ◌⊎◌, ℕ, List, map}
use Rattle.rtio_types.specs.declared.outcome.Outcome.TheVariants.{Returned}
use Rattle.rtio_types.specs.declared.request.Reply.TheVariants as answer
use Rattle.kernel_lines.specs.KernelLines.{program_lines}
use Rattle.sim_words.specs.declared.asked.Options.{Options}
use Rattle.trace_fates.specs.Asked.{AskedOutput, IsAsked, outputs_of}
use Rattle.trace_fates.specs.Laws.{IsToldOnce}
use Rattle.trace_fates.specs.Reasons.{IsPutOut, WasOverridden}
use Rattle.trace_report.specs.Laws.{LeavesNoneOut}
use Rattle.trace_program.specs.Places.{text_place}
use Rattle.trace_program.specs.Traces.{TellsTrace}

-- each output that was answered is told with its place, and each lost one has its line in what is written
abbrev pub TracesLeaveNoneOut : Type 0
TracesLeaveNoneOut =
    (options : Options) (text written : List ℕ) (status : ℕ)
    → (trace : TellsTrace options text written status)
    → LeavesNoneOut (map (text_place (program_lines trace.run.program)) trace.asked) trace.core

-- each is put out, or is one of the lost ones
abbrev pub TracesTellOnce : Type 0
TracesTellOnce =
    (options : Options) (text written : List ℕ) (status : ℕ)
    → (trace : TellsTrace options text written status)
    → IsToldOnce trace.core

-- where the status is 0 the kernel returned, and no output is missing: each that was answered is put out, or a later one
-- overrode it, which is meant, or it came too late, which the kernel learned
abbrev pub WholeTracesMissNone : Type 0
WholeTracesMissNone =
    (options : Options) (text written : List ℕ)
    → (trace : TellsTrace options text written 0)
    → (trace.how ≡ Returned)
    × ((a : AskedOutput)
    → IsAsked a (outputs_of trace.core.history)
    → IsPutOut trace.core a.own ⊎ (WasOverridden trace.core a.own ⊎ (a.reply ≡ answer.Underflow)))
