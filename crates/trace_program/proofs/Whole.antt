-- A trace with status 0 misses no output.
use Rattle.std.proofs.Common.{◌≡◌, ℕ, Bool, true, false, List, [], ◌∷◌, ◌⊎◌, inl, inr, refl, sym, ap, ◌∙◌, map}
use Rattle.std.specs.Prelude.{◌||◌}
use Rattle.std.proofs.lemmas.Bool.{true≢false}
use Rattle.rtio_types.specs.declared.event.Event.{Event}
use Rattle.rtio_types.specs.declared.outcome.Outcome.{Outcome}
use Rattle.rtio_types.specs.declared.outcome.Outcome.TheVariants as outcome
use Rattle.rtio_types.specs.declared.request.Reply.{Reply}
use Rattle.rtio_types.specs.declared.request.Reply.TheVariants as answer
use Rattle.rtio_core.specs.Core.{CoreState}
use Rattle.rtio_core.specs.Lawful.{IsLawful}
use Rattle.sim_program.specs.Reports.{finish_of}
use Rattle.sim_report.specs.Pending.{pends}
use Rattle.top_calls.specs.Statuses.{status_of}
use Rattle.trace_fates.specs.declared.data.Fate.{Fate}
use Rattle.trace_fates.specs.declared.data.Fate.TheVariants as fate
use Rattle.trace_fates.specs.Asked.{AskedOutput, IsAsked, outputs_of}
use Rattle.trace_fates.specs.Fates.{fate_of, traced, traced_output}
use Rattle.trace_fates.specs.Reasons.{HasReason, IsPutOut, TellsWhy, WasOverridden}
use Rattle.trace_report.specs.Outputs.{is_missing, misses}
use Rattle.trace_program.specs.Laws.{WholeTracesMissNone}

-- status 0 is that of a kernel that returned and misses nothing
whole : (how : Outcome) (missing : Bool) → status_of (finish_of how missing) ≡ 0 → (how ≡ outcome.Returned) × (missing ≡ false)
whole outcome.Returned true is = let no : 7 ≡ 0 = is in absurd (cc)
whole outcome.Returned false is = (refl, refl)
whole (outcome.Raised x) missing is = let no : 6 ≡ 0 = is in absurd (cc)
whole outcome.Budget missing is = let no : 7 ≡ 0 = is in absurd (cc)
whole outcome.Horizon missing is = let no : 7 ≡ 0 = is in absurd (cc)

neither : (a b : Bool) → (a || b) ≡ false → b ≡ false
neither true b is = absurd (true≢false is)
neither false b is = is

none_missing : (core : CoreState) (xs : List AskedOutput) → misses (map (traced_output core) xs) ≡ false
    → (a : AskedOutput) → IsAsked a xs → is_missing (fate_of core a.own a.reply) ≡ false
none_missing core [] none a here = absurd here
none_missing core (b ∷ xs) none a here =
    by (is_missing (fate_of core b.own b.reply)) refl none here (λ none' there. none_missing core xs none' a there)
  where
    by : (m : Bool) → is_missing (fate_of core b.own b.reply) ≡ m → (m || misses (map (traced_output core) xs)) ≡ false
        → (a ≡ b) ⊎ IsAsked a xs
        → (misses (map (traced_output core) xs) ≡ false → IsAsked a xs → is_missing (fate_of core a.own a.reply) ≡ false)
        → is_missing (fate_of core a.own a.reply) ≡ false
    by true is none' at on = absurd (true≢false none')
    by false is none' (inl same) on = ap (λ (c : AskedOutput). is_missing (fate_of core c.own c.reply)) same ∙ is
    by false is none' (inr there) on = on none' there

-- what isn't missing is put out, or was overridden, or came too late
settled : (core : CoreState) (p : ℕ × Event) (reply : Reply) (f : Fate) → is_missing f ≡ false → HasReason core p reply f
    → IsPutOut core p ⊎ (WasOverridden core p ⊎ (reply ≡ answer.Underflow))
settled core p reply fate.Late kept why = inr (inr why)
settled core p reply fate.Sequence kept why = absurd (true≢false kept)
settled core p reply fate.Cleared kept why = absurd (true≢false kept)
settled core p reply fate.Collided kept why = absurd (true≢false kept)
settled core p reply fate.Busy kept why = absurd (true≢false kept)
settled core p reply (fate.Overridden by) kept why = inr (inl why.1.over)
settled core p reply fate.Pending kept why = absurd (true≢false kept)
settled core p reply fate.CameOut kept why = inl why

pub misses-none : ((core : CoreState) → IsLawful core.config core.history → TellsWhy core) → WholeTracesMissNone
misses-none tells options text written trace =
    let whole' = whole trace.how (pends trace.core || misses (traced trace.core)) (sym trace.status_is) in
    let none = neither (pends trace.core) (misses (traced trace.core)) whole'.1 in (
      whole'.0,
      λ a here.
          settled trace.core a.own a.reply (fate_of trace.core a.own a.reply)
          (none_missing trace.core (outputs_of trace.core.history) none a here)
          (tells trace.core trace.run.reported.lawful.lawful a here),
    )
