-- What an answered request on recordings does to a core.
use Rattle.std.proofs.Common.{◌≡◌, ℕ, ◌+◌, ◌-◌, ◌^◌, List, [], ◌∷◌, ◌++◌, refl, ap, sym, ◌∙◌, subst}
use Rattle.std.specs.Prelude.{IsTrue, Some, None, Vec, max, min}
use Rattle.std.specs.declared.alloc.Global.{Global}
use Rattle.std.proofs.lemmas.List.Sums.{fold-append}
use Rattle.rtio_types.specs.declared.request.Request.{Request}
use Rattle.rtio_types.specs.declared.request.Request.TheVariants as ask
use Rattle.rtio_types.specs.declared.request.Reply.{Reply}
use Rattle.rtio_types.specs.Requests.{fits_request, is_well_formed}
use Rattle.rtio_types.specs.Time.{reading}
use Rattle.dma_store.specs.Kept.{KeptState}
use Rattle.rtio_core.specs.declared.data.Act.TheVariants.{Asked}
use Rattle.rtio_core.specs.declared.data.Config.{Config}
use Rattle.rtio_core.specs.declared.data.Entry.{Entry}
use Rattle.rtio_core.specs.declared.one_core.Core.TheInside.{Inside}
use Rattle.rtio_core.specs.Entries.{input_step, kept_after, kept_by, lane_step}
use Rattle.rtio_core.specs.Reply.{reply_to}
use Rattle.rtio_core.specs.Lawful.{IsOpenFor}
use Rattle.rtio_core.specs.Core.{CoreState}
use Rattle.rtio_core.specs.Calls.{NoOtherWaits}
use Rattle.rtio_core.specs.Fields.{IsCoreInside, core_state}
use Rattle.rtio_core.specs.Recordings.{IsServed, is_on_recordings, recordings_reply}
use Rattle.rtio_core.proofs.Asked.{asked_entry, quiet_keeps}

-- a save and an erase that are done change what is kept
kept_after-asked : (config : Config) (history : List Entry) (who at : ℕ) (request : Request) (reply : Reply) → kept_after config (history ++ asked_entry who request reply at ∷ []) ≡ kept_by (kept_after config history) request reply
kept_after-asked config history who at request reply = fold-append _ _ history (asked_entry who request reply at ∷ [])

-- they are answered by what is kept
reply_to-recordings : (config : Config) (history : List Entry) (request : Request) (counter : ℕ) → IsTrue (is_on_recordings request) → reply_to config history request counter ≡ Some (recordings_reply (kept_after config history) request)
reply_to-recordings config history (ask.Save name recording) counter is = refl
reply_to-recordings config history (ask.Fetch name) counter is = refl
reply_to-recordings config history (ask.FetchHandle handle) counter is = refl
reply_to-recordings config history (ask.Handle name) counter is = refl
reply_to-recordings config history (ask.Erase name) counter is = refl
reply_to-recordings config history other counter is = absurd (cc)

-- and are no steps of lanes and inputs
no-output : (request : Request) (reply : Reply) (at : ℕ) → IsTrue (is_on_recordings request) → lane_step (Asked request reply at) ≡ None
no-output (ask.Save name recording) reply at is = refl
no-output (ask.Fetch name) reply at is = refl
no-output (ask.FetchHandle handle) reply at is = refl
no-output (ask.Handle name) reply at is = refl
no-output (ask.Erase name) reply at is = refl
no-output other reply at is = absurd (cc)

no-input : (request : Request) (reply : Reply) (at : ℕ) → IsTrue (is_on_recordings request) → input_step (Asked request reply at) ≡ None
no-input (ask.Save name recording) reply at is = refl
no-input (ask.Fetch name) reply at is = refl
no-input (ask.FetchHandle handle) reply at is = refl
no-input (ask.Handle name) reply at is = refl
no-input (ask.Erase name) reply at is = refl
no-input other reply at is = absurd (cc)

-- the reply that the store gives is right
pub right-served : (a : Inside) (s : CoreState) (request : Request) (replies : Reply × Reply) (store : KeptState) → core_state a ≡ s → IsCoreInside a → IsTrue (is_on_recordings request) → IsServed a.store request replies store → reply_to s.config s.history request s.counter ≡ Some replies.0
right-served a s request replies store see h kind served =
    sym (ap (λ (x : CoreState). reply_to x.config x.history request x.counter) see)
    ∙ reply_to-recordings a.config a.entries.items request a.count kind
    ∙ ap (λ (kept : KeptState). Some (recordings_reply kept request)) (sym h.store)
    ∙ ap (λ (r : Reply). Some r) (sym served.right)

-- an answer, and the change of the store
pub served_keeps : (a : Inside) (s : CoreState) (entries : Vec Entry Global) (store : KeptState) (who : ℕ) (request : Request) (replies : Reply × Reply) (left : ℕ) → core_state a ≡ s → IsCoreInside a → IsOpenFor who s.history → NoOtherWaits s.waiting request → IsTrue (is_well_formed request) → IsTrue (is_on_recordings request) → IsServed a.store request replies store → entries.items ≡ a.entries.items ++ asked_entry who request replies.1 a.count ∷ [] → left ≡ min (max a.limit (reading a.count) + a.config.cost) (2 ^ 64 - 1) → IsCoreInside (record a { entries = entries; pending = None; store = store; limit = left })
served_keeps a s entries store who request replies left see h running no_other formed kind served is raised =
    let same : replies.0 ≡ replies.1 = sym served.same in
    let left_by : kept_by a.store request replies.0 ≡ kept_after a.config (a.entries.items ++ asked_entry who request replies.1 a.count ∷ []) =
    ap (λ (kept : KeptState). kept_by kept request replies.0) h.store ∙ ap (kept_by (kept_after a.config a.entries.items) request) same
    ∙ sym (kept_after-asked a.config a.entries.items who a.count request replies.1) in
    quiet_keeps a s entries store who request replies.1 left see h
    (record {
      running = running;
      no_other = no_other;
      formed = formed;
      right = right-served a s request replies store see h kind served ∙ ap (λ (r : Reply). Some r) same;
    })
    (subst (λ (r : Reply). IsTrue (fits_request request r)) same served.fits)
    (no-output request replies.1 a.count kind) (no-input request replies.1 a.count kind) (served.left ∙ left_by) is raised
