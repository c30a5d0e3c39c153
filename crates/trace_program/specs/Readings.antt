-- What the program's parts make of its bytes.
use Rattle.std.specs.Prelude.{◌≡◌, ℕ, List}
use Rattle.kern_syntax.specs.Tree.{Bytes}
use Rattle.kernel_places.specs.declared.runs.RunPlaces.{RunPlaces}
use Rattle.sim_program.specs.declared.run.Run.{Run}
use Rattle.sim_words.specs.declared.asked.Options.{Options}
use Rattle.top_calls.specs.declared.answer.Answer.{Answer}
use Rattle.top_calls.specs.declared.answer.Answer.TheVariants as answer
use Rattle.top_calls.specs.Sayings.{IsAnswerTo}
use Rattle.trace_program.specs.Answers.{trace_of}
use Rattle.trace_program.specs.Traces.{text_of_run, trace_finish}

-- an answer has the trace of a run with these places, and its finish
abbrev pub IsTraceOf : (horizon budget : ℕ) → Run → (lines : List ℕ) → RunPlaces → Answer → Type 0
IsTraceOf horizon budget run lines places (answer.Due bytes finish) =
    (bytes.items ≡ text_of_run horizon budget run.core run.outcome lines places.asked.items places.end)
    × (finish ≡ trace_finish run.outcome run.core)
IsTraceOf horizon budget run lines places (answer.Refused told) = ⊥
IsTraceOf horizon budget run lines places (answer.Bad told) = ⊥

-- an answer tells of a run of the kernel that the text is, or refuses the text
abbrev pub IsTraceAnswer : Options → Bytes → Answer → Type 0
IsTraceAnswer options text answer = IsAnswerTo (trace_of options) text answer
