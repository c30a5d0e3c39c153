-- What a request that waits means to a core.
use Rattle.std.proofs.Common.{◌≡◌, ◌≢◌, ◌<◌, ℕ, refl, ap, sym, subst, ◌∙◌, arith}
use Rattle.std.specs.Prelude.{Option, Some, None, IsSome, Result, Ok, Err, OnErr}
use Rattle.rtio_types.specs.declared.event.Event.{Event}
use Rattle.rtio_types.specs.declared.request.Request.TheVariants as ask
use Rattle.rtio_types.specs.declared.request.Reply.{Reply}
use Rattle.rtio_types.specs.declared.request.Waiting.TheVariants as waiting
use Rattle.sed_lanes.specs.Calls.{wait_of}
use Rattle.sed_lanes.specs.Judged.{judged, lanes_after}
use Rattle.sed_lanes.specs.Waits.{WaitsUntil}
use Rattle.sed_lanes.proofs.Freeing.{waits-until}
use Rattle.rtio_core.specs.declared.data.Ask.TheVariants as asked
use Rattle.rtio_core.specs.declared.one_core.Core.TheInside.{Inside}
use Rattle.rtio_core.specs.Entries.{lane_steps}
use Rattle.rtio_core.specs.Reply.{lanes_at, reply_to_event}
use Rattle.rtio_core.specs.Core.{CoreState}
use Rattle.rtio_core.specs.Calls.{AnswersAsk, NoOtherWaits}
use Rattle.rtio_core.specs.Fields.{IsCoreInside, core_state}
use Rattle.rtio_core.proofs.Asked.{verdict-seen}
use Rattle.sed_lanes.specs.Lanes.{LanesState}
use Rattle.sed_lanes.specs.Verdict.{Verdict, Underflow, Lane, Sequence, Undecided, until, verdict}

-- it has to wait only where it is undecided
pub has-to-wait : (s : LanesState) (e : Event) (v : Verdict) (n : ℕ) → wait_of s e v ≡ Some n → (v ≡ Undecided) × (n ≡ until s e)
has-to-wait s e Underflow n h = absurd (cc)
has-to-wait s e (Lane k) n h = absurd (cc)
has-to-wait s e Sequence n h = absurd (cc)
has-to-wait s e Undecided n h = (refl, cc)

-- and not where it isn't
pub no-wait : (s : LanesState) (e : Event) (v : Verdict) → wait_of s e v ≡ None → v ≢ Undecided
no-wait s e Underflow h = λ is. absurd (cc)
no-wait s e (Lane k) h = λ is. absurd (cc)
no-wait s e Sequence h = λ is. absurd (cc)
no-wait s e Undecided h = absurd (cc)

-- an output that has to wait
pub output-waits : (a : Inside) (s : CoreState) (who : ℕ) (e : Event) (n : ℕ) → core_state a ≡ s → IsCoreInside a → NoOtherWaits s.waiting (ask.Out e) → wait_of a.outputs.lanes e (verdict a.outputs.lanes e a.count) ≡ Some n → AnswersAsk s who (ask.Out e) (asked.NotYet n (waiting.Out e)) (core_state (record a { pending = Some (waiting.Out e) }))
output-waits a s who e n see h no_other wait =
    let lanes_then : ℕ → LanesState = lanes_after a.config.lanes a.config.depth (judged a.config.lanes a.config.depth (lane_steps a.entries.items)) in
    let told = has-to-wait a.outputs.lanes e (verdict a.outputs.lanes e a.count) n wait in
    let same : verdict (lanes_then a.count) e a.count ≡ Undecided = ap (λ (x : LanesState). verdict x e a.count) (sym h.played.standing) ∙ told.0 in
    let known : WaitsUntil lanes_then e a.count (until (lanes_then a.count) e) = waits-until a.config.lanes a.config.depth (lane_steps a.entries.items) a.count e h.played.lanes_least h.played.depth_least h.played.in_time same in
    let is : n ≡ until (lanes_then a.count) e = told.1 ∙ ap (λ (x : LanesState). until x e) h.played.standing in
    let later : a.count < n = omega (arith, known.later, is) in (
      no_other,
      ap reply_to_event (sym (verdict-seen a s e see h) ∙ told.0),
      refl,
      is ∙ ap (λ (x : CoreState). until (lanes_at x.config x.history x.counter) e) see,
      subst (λ (x : CoreState). x.counter < n) see later,
      ap (λ (x : CoreState). record x { waiting = Some (waiting.Out e) }) see,
    )

-- one that doesn't gets its reply
pub some-reply : (o : Option Reply) (r : Reply) → o ≡ Some r → IsSome o
some-reply o r is = subst (λ (x : Option Reply). IsSome x) (sym is) refl

pub on-err : {X E : Type 0} (r : Result X E) (P : Type 0) → P → OnErr r P
on-err (Ok x) P h = tt
on-err (Err e) P h = h
