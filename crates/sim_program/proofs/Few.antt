-- A run's core tells few events and few lines.
use Rattle.std.proofs.Common.{◌≡◌, ℕ, List, [], ◌∷◌, ◌++◌, refl, ap, ◌∙◌, arith, length-append}
use Rattle.std.specs.Prelude.{◌+◌, ◌*◌, ◌^◌, ◌≤◌, ℤ, true, suc, length, nat_lt, IsTrue}
use Rattle.std.proofs.lemmas.Bool.{lt-ltb}
use Rattle.std.proofs.lemmas.List.{length-map}
use Rattle.limits.specs.Limits.{most_budget}
use Rattle.rtio_types.specs.declared.outcome.Outcome.{Outcome}
use Rattle.rtio_types.specs.declared.outcome.Outcome.TheVariants as outcome
use Rattle.rtio_log.specs.declared.LogLine.{LogLine}
use Rattle.rtio_core.specs.declared.data.Act.TheVariants.{End}
use Rattle.rtio_core.specs.declared.data.Config.{Config}
use Rattle.rtio_core.specs.declared.data.Entry.{Entry}
use Rattle.rtio_core.specs.declared.data.StartOf.{StartOf}
use Rattle.rtio_core.specs.Core.{CoreState, new_core}
use Rattle.rtio_core.specs.Entries.{last_cursor}
use Rattle.rtio_core.specs.Reply.{outputs_at}
use Rattle.rtio_core.specs.Told.{log_lines_at}
use Rattle.core_analyzer.specs.CoreDumps.{dump_of}
use Rattle.core_analyzer.specs.Dumps.{has_few_entries}
use Rattle.core_isa.specs.declared.code.Code.{Code}
use Rattle.core_isa.proofs.UnitsTaken.{requests_take_units}
use Rattle.core_session.specs.Sessions.{Account, Answered, EndsAs, RunsSession, account_of, asked_entry, entry_of, open_entries, replies_of, requests_of}
use Rattle.core_session.specs.Timed.{drained}

-- a session answers no more requests than its run asked
few-answered : (config : Config) (before : List Entry) (asked : List Answered) (a : Account) (how : Outcome) (cursor : ℤ) → EndsAs config before asked a how cursor → length asked ≤ length a.requests
few-answered config before asked a outcome.Returned cursor h =
    let same : length a.requests ≡ length asked = ap length h.2 ∙ length-map asked (λ (x : Answered). x.request) in omega (arith, same)
few-answered config before asked a (outcome.Raised x) cursor h =
    let same : length a.requests ≡ length asked = ap length h.2 ∙ length-map asked (λ (x : Answered). x.request) in omega (arith, same)
few-answered config before asked a outcome.Budget cursor h =
    let same : length a.requests ≡ length asked = ap length h.2 ∙ length-map asked (λ (x : Answered). x.request) in omega (arith, same)
few-answered config before asked a outcome.Horizon cursor h =
    let more : length a.requests ≡ length (requests_of asked) + 1 = ap length h.2.1 ∙ length-append (requests_of asked) (h.2.0 ∷ []) in
    let same : length (requests_of asked) ≡ length asked = length-map asked (λ (x : Answered). x.request) in
    omega (arith, more, same)

-- a session on a new core leaves its start, its requests, of which each took a unit, and its end
pub run-few : (code : Code) (units : ℕ) (of : StartOf) (config : Config) (first left core : CoreState) (how : Outcome) (count : ℕ) → first ≡ new_core config → RunsSession code units of first left how count → core ≡ drained left → length core.history ≤ units + 2
run-few code units of config first left core how count first_is s is =
    let opened : List Entry = open_entries 0 of (last_cursor first.history) first.counter s.asked in
    let none : length first.history ≡ 0 = ap (λ (c : CoreState). length c.history) first_is in
    let kept : length core.history ≡ length left.history = ap (λ (c : CoreState). length c.history) is in
    let grown : length left.history ≡ length (first.history ++ opened) + 1 = ends (first.history ++ opened) left.history (entry_of 0 (End how s.cursor left.counter)) s.adds.history in
    let parts : length (first.history ++ opened) ≡ length first.history + length opened = length-append first.history opened in
    let answers : length opened ≡ suc (length s.asked) = ap suc (length-map s.asked (asked_entry 0)) in
    let few = few-answered first.config (first.history ++ opened) s.asked (account_of s.ran) how s.cursor s.ends in
    let taken = requests_take_units code of.function of.args (last_cursor first.history) units (replies_of s.asked) s.ran s.runs in
    omega (arith, none, kept, grown, parts, answers, few, taken)
  where
    ends : (front all : List Entry) (entry : Entry) → all ≡ front ++ entry ∷ [] → length all ≡ length front + 1
    ends front all entry same = ap length same ∙ length-append front (entry ∷ [])

-- so its core tells few events and few lines
pub tells-few : (core : CoreState) (lines : List LogLine) → length core.history ≤ most_budget + 2 → length (outputs_at core.config core.history core.counter) ≤ length core.history → lines ≡ log_lines_at core.config core.history core.counter → length lines ≤ 4 * length core.history → IsTrue (has_few_entries (dump_of core))
tells-few core lines short trace is log =
    let events : nat_lt (length (outputs_at core.config core.history core.counter)) (2 ^ 32) ≡ true = lt-ltb (length (outputs_at core.config core.history core.counter)) (2 ^ 32) (omega (arith, short, trace)) in
    let same : length lines ≡ length (log_lines_at core.config core.history core.counter) = ap length is in
    let told : nat_lt (length (log_lines_at core.config core.history core.counter)) (2 ^ 32) ≡ true = lt-ltb (length (log_lines_at core.config core.history core.counter)) (2 ^ 32) (omega (arith, short, same, log)) in
    rw (events, told) refl
