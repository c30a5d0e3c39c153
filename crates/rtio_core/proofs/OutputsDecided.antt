-- An output that is decided stays decided.
use Rattle.std.proofs.Common.{◌≡◌, ℕ, ◌≤◌, true, List, refl, ap, sym, ◌∙◌}
use Rattle.std.specs.Prelude.{is_some}
use Rattle.rtio_types.specs.declared.event.Event.{Event}
use Rattle.rtio_types.specs.declared.request.Request.TheVariants as ask
use Rattle.sed_lanes.specs.Verdict.{Verdict, Underflow, Lane, Sequence, Undecided}
use Rattle.sed_lanes.proofs.Histories.{undecided-earlier}
use Rattle.rtio_core.specs.declared.data.Config.{Config}
use Rattle.rtio_core.specs.declared.data.Entry.{Entry}
use Rattle.rtio_core.specs.Entries.{judged_history}
use Rattle.rtio_core.specs.Reply.{is_decided, reply_to_event, verdict_at}

output-stays : (now before : Verdict) → (now ≡ Undecided → before ≡ Undecided) → is_some (reply_to_event before) ≡ true → is_some (reply_to_event now) ≡ true
output-stays Underflow before waits h = refl
output-stays (Lane k) before waits h = refl
output-stays Sequence before waits h = refl
output-stays Undecided before waits h = let same : before ≡ Undecided = waits refl in sym (ap (λ (v : Verdict). is_some (reply_to_event v)) same) ∙ h

pub output-decided-stays : (config : Config) (history : List Entry) (e : Event) (from to : ℕ) → from ≤ to → is_decided config history (ask.Out e) from ≡ true → is_decided config history (ask.Out e) to ≡ true
output-decided-stays config history e from to le h =
    output-stays (verdict_at config history e to) (verdict_at config history e from) (undecided-earlier config.lanes config.depth (judged_history config history) e from to le) h
