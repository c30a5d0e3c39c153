-- That each answered request of a traced run has a place.
use Rattle.std.proofs.Common.{◌≡◌, ℕ, List, [], ◌∷◌, ◌++◌, length, map, filter, cond, refl, sym, ap, ◌∙◌, arith}
use Rattle.std.proofs.lemmas.List.{length-map}
use Rattle.rtio_core.specs.declared.data.Act.{Act}
use Rattle.rtio_core.specs.declared.data.Act.TheVariants.{Start, Asked, End}
use Rattle.rtio_core.specs.declared.data.Entry.{Entry}
use Rattle.rtio_core.specs.Core.{CoreState, new_core}
use Rattle.core_isa.specs.declared.code.Code.{Code}
use Rattle.core_cpu.specs.Standing.{Start as Beginning}
use Rattle.core_session.specs.Sessions.{Answered}
use Rattle.kernel_lines.specs.KernelLines.{program_lines}
use Rattle.kernel_places.specs.declared.place.Place.{Place}
use Rattle.kernel_places.specs.Laws.{SessionsAnswer}
use Rattle.kernel_places.specs.Places.{AreAskedAt, answered_in, with_answer}
use Rattle.sim_program.specs.Runs.{start_of}
use Rattle.sim_words.specs.declared.asked.Options.{Options}
use Rattle.trace_report.specs.Laws.{HaveAllPlaces}
use Rattle.trace_report.specs.Outputs.{is_answer}
use Rattle.trace_program.specs.Places.{text_place}
use Rattle.trace_program.specs.Traces.{TellsTrace}

-- there is a place for each request that was asked at one
as-many-places : (code : Code) (start : Beginning) (before asked : List Answered) (places : List Place)
    → AreAskedAt code start before asked places → length places ≡ length asked
as-many-places code start before [] [] at = refl
as-many-places code start before [] (place ∷ places) at = absurd at
as-many-places code start before (a ∷ asked) [] at = absurd at
as-many-places code start before (a ∷ asked) (place ∷ places) at =
    let rest : length places ≡ length asked = as-many-places code start (before ++ a ∷ []) asked places at.1 in
    omega (arith, rest)

abbrev answers_of : List Entry → List Act
answers_of entries = filter is_answer (map (λ (entry : Entry). entry.act) entries)

-- as many are answered as there are answers
as-many-answers : (entries : List Entry) → length (answered_in entries) ≡ length (answers_of entries)
as-many-answers [] = refl
as-many-answers (entry ∷ rest) = by entry.act (as-many-answers rest)
  where
    by : (act : Act) → length (answered_in rest) ≡ length (answers_of rest)
        → length (with_answer act (answered_in rest)) ≡ length (cond (is_answer act) (act ∷ answers_of rest) (answers_of rest))
    by (Start of cursor at) same = same
    by (End outcome cursor at) same = same
    by (Asked request reply at) same =
        let longer : length (record { request = request; reply = reply; at = at } ∷ answered_in rest) ≡ length (Asked request reply at ∷ answers_of rest) =
        omega (arith, same)
        in
        longer

pub have-places : SessionsAnswer → (options : Options) (text written : List ℕ) (status : ℕ) (trace : TellsTrace options text written status)
    → HaveAllPlaces (map (text_place (program_lines trace.run.program)) trace.asked) trace.core.history
have-places sessions options text written status trace =
    let counted = trace.run.counted in
    let left : CoreState = trace.run.left in
    let own : answered_in left.history ≡ counted.runs.asked =
    sessions (start_of trace.run.main) (new_core options.config) left counted.runs.asked trace.how counted.runs.cursor counted.runs.adds
    in
    length-map trace.asked (text_place (program_lines trace.run.program))
    ∙ as-many-places counted.code _ [] counted.runs.asked trace.asked trace.places.requests
    ∙ sym (ap length own)
    ∙ as-many-answers left.history
    ∙ ap (λ (c : CoreState). length (answers_of c.history)) (sym trace.run.reported.drained)
