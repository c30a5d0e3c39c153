-- The definitions computed on small histories.
use Rattle.std.proofs.Common.{◌≡◌, ℕ, List, [], ◌∷◌, ◌++◌, refl}
use Rattle.std.specs.Prelude.{pos, negsuc, Some, None}
use Rattle.rtio_types.specs.declared.event.Event.{Event}
use Rattle.rtio_types.specs.declared.request.Request.{Request}
use Rattle.rtio_types.specs.declared.request.Request.TheVariants as ask
use Rattle.rtio_types.specs.declared.request.Reply.{Reply}
use Rattle.rtio_types.specs.declared.request.Reply.TheVariants as answer
use Rattle.rtio_types.specs.declared.outcome.Outcome.TheVariants as outcome
use Rattle.rtio_core.specs.declared.data.Config.{Config}
use Rattle.rtio_core.specs.declared.data.StartOf.{StartOf}
use Rattle.rtio_core.specs.declared.data.Act.{Act}
use Rattle.rtio_core.specs.declared.data.Act.TheVariants.{Start, Asked, End}
use Rattle.rtio_core.specs.declared.data.Entry.{Entry}
use Rattle.rtio_core.specs.Entries.{limit}
use Rattle.rtio_core.specs.Reply.{reply_to, outputs_at}
use Rattle.rtio_core.specs.Top.{first_decided, top}
use Rattle.rtio_core.specs.Told.{log_at, peaks_at}

abbrev made : ℕ → Act → Entry
made chair act = record { chair = chair; act = act }

abbrev main_of : StartOf
main_of = record { source = 0; function = 0; args = []; rid = 0; pos = 0 }

abbrev begin : ℕ → Entry
begin at = made 0 (Start main_of (pos 0) at)

abbrev out : ℕ → ℕ → ℕ → Event
out channel value stamp = record { channel = channel; address = 0; value = value; stamp = pos stamp }

abbrev asked : Request → Reply → ℕ → Entry
asked request reply at = made 0 (Asked request reply at)

abbrev settings : ℕ → ℕ → ℕ → Config
settings lanes depth cost = record { lanes = lanes; depth = depth; cost = cost; horizon = 134217728; edges = []; holds = []; kept = [] }

-- a cost of 800: the third output is asked when the counter stands at its own cycle
abbrev costly : Config
costly = settings 8 128 800

abbrev costly_history : List Entry
costly_history = begin 0 ∷ asked (ask.Out (out 0 1 1000)) answer.Done 0 ∷ asked (ask.Out (out 0 0 1500)) answer.Done 100 ∷ []

first_top : top costly (begin 0 ∷ []) (Some (ask.Out (out 0 1 1000))) ≡ 0
first_top = refl

second_top : top costly (begin 0 ∷ asked (ask.Out (out 0 1 1000)) answer.Done 0 ∷ []) (Some (ask.Out (out 0 0 1500))) ≡ 100
second_top = refl

third_limit : limit 800 costly_history ≡ 1600
third_limit = refl

third_top : top costly costly_history (Some (ask.Out (out 0 1 1600))) ≡ 200
third_top = refl

third_reply : reply_to costly costly_history (ask.Out (out 0 1 1600)) 200 ≡ Some answer.Underflow
third_reply = refl

end_top : top costly (costly_history ++ asked (ask.Out (out 0 1 1600)) answer.Underflow 200 ∷ []) None ≡ 300
end_top = refl

-- two lanes of depth 1: the third output waits for counter 125, however far the limit is
abbrev shallow : Config
shallow = settings 2 1 0

abbrev shallow_history : List Entry
shallow_history = begin 0 ∷ asked (ask.Out (out 0 1 1000)) answer.Done 0 ∷ asked (ask.Out (out 0 1 2000)) answer.Done 0 ∷ []

shallow_undecided : reply_to shallow shallow_history (ask.Out (out 0 1 3000)) 124 ≡ None
shallow_undecided = refl

shallow_first : first_decided shallow shallow_history (ask.Out (out 0 1 3000)) ≡ 125
shallow_first = refl

shallow_top : top shallow shallow_history (Some (ask.Out (out 0 1 3000))) ≡ 125
shallow_top = refl

shallow_limit : limit 0 shallow_history ≡ 0
shallow_limit = refl

-- after the end the counter goes on to the last output
abbrev shallow_ended : List Entry
shallow_ended = shallow_history ++ asked (ask.Out (out 0 1 3000)) answer.Done 125 ∷ made 0 (End outcome.Returned (pos 3000) 125) ∷ []

drained_top : top shallow shallow_ended None ≡ 375
drained_top = refl

shallow_peaks : peaks_at shallow shallow_ended ≡ 1 ∷ 1 ∷ []
shallow_peaks = refl

-- with a horizon of 3 a session that waits longer goes to the horizon
abbrev near : Config
near = record { lanes = 8; depth = 128; cost = 0; horizon = 3; edges = []; holds = []; kept = [] }

near_top : top near (begin 0 ∷ []) (Some (ask.Wait (pos 1000))) ≡ 3
near_top = refl

-- a reset clears an event that wasn't put out
abbrev reset_history : List Entry
reset_history =
    begin 0 ∷ asked (ask.Out (out 0 1 1000)) answer.Done 0 ∷ asked ask.Reset (answer.Time (pos 0)) 0
    ∷ asked (ask.Out (out 0 0 125000)) answer.Done 0 ∷ made 0 (End outcome.Returned (pos 125000) 0) ∷ []

reset_top : top (settings 8 128 0) reset_history None ≡ 15625
reset_top = refl

reset_outputs : outputs_at (settings 8 128 0) reset_history 15625 ≡ out 0 0 125000 ∷ []
reset_outputs = refl

reset_log : log_at (settings 8 128 0) reset_history 15625 ≡ record { sequence = []; collided = []; busy = []; cleared = (0, out 0 1 1000) ∷ [] }
reset_log = refl

reset_peaks : peaks_at (settings 8 128 0) reset_history ≡ 1 ∷ 0 ∷ 0 ∷ 0 ∷ 0 ∷ 0 ∷ 0 ∷ 0 ∷ []
reset_peaks = refl

-- at one stamp eight lanes take one event each, and a ninth is out of sequence
abbrev done : Event → Entry
done e = asked (ask.Out e) answer.Done 0

abbrev nine_history : List Entry
nine_history =
    begin 0 ∷ done (out 0 1 1000) ∷ done (out 1 1 1000) ∷ done (out 2 1 1000) ∷ done (out 3 1 1000) ∷ done (out 4 1 1000)
    ∷ done (out 5 1 1000) ∷ done (out 6 1 1000) ∷ done (out 7 1 1000) ∷ done (out 8 1 1000) ∷ made 0 (End outcome.Returned (pos 1000) 0) ∷ []

nine_outputs : outputs_at (settings 8 128 0) nine_history 125
    ≡ out 0 1 1000 ∷ out 1 1 1000 ∷ out 2 1 1000 ∷ out 3 1 1000 ∷ out 4 1 1000 ∷ out 5 1 1000 ∷ out 6 1 1000 ∷ out 7 1 1000 ∷ []
nine_outputs = refl

nine_log : log_at (settings 8 128 0) nine_history 125 ≡ record { sequence = (8, out 8 1 1000) ∷ []; collided = []; busy = []; cleared = [] }
nine_log = refl

nine_peaks : peaks_at (settings 8 128 0) nine_history ≡ 1 ∷ 1 ∷ 1 ∷ 1 ∷ 1 ∷ 1 ∷ 1 ∷ 1 ∷ []
nine_peaks = refl

-- the later of two outputs of one stamp replaces the earlier, and nothing is logged
abbrev replaced_history : List Entry
replaced_history = begin 0 ∷ done (out 0 0 1000) ∷ done (out 0 1 1000) ∷ []

replaced_outputs : outputs_at (settings 8 128 0) replaced_history 125 ≡ out 0 1 1000 ∷ []
replaced_outputs = refl

replaced_log : log_at (settings 8 128 0) replaced_history 125 ≡ record { sequence = []; collided = []; busy = []; cleared = [] }
replaced_log = refl

-- two outputs of one cycle and different stamps collide, and the later is logged from its cycle on
abbrev colliding_history : List Entry
colliding_history = begin 0 ∷ done (out 0 1 1000) ∷ done (out 0 0 1001) ∷ []

colliding_outputs : outputs_at (settings 8 128 0) colliding_history 125 ≡ out 0 1 1000 ∷ []
colliding_outputs = refl

colliding_log : log_at (settings 8 128 0) colliding_history 125 ≡ record { sequence = []; collided = (1, out 0 0 1001) ∷ []; busy = []; cleared = [] }
colliding_log = refl

colliding_log_before : log_at (settings 8 128 0) colliding_history 124 ≡ record { sequence = []; collided = []; busy = []; cleared = [] }
colliding_log_before = refl

-- so do two of one stamp on a channel that doesn't replace
abbrev raw_history : List Entry
raw_history = begin 0 ∷ done (out 16 1 1000) ∷ done (out 16 1 1000) ∷ []

raw_outputs : outputs_at (settings 8 128 0) raw_history 125 ≡ out 16 1 1000 ∷ []
raw_outputs = refl

raw_log : log_at (settings 8 128 0) raw_history 125 ≡ record { sequence = []; collided = (1, out 16 1 1000) ∷ []; busy = []; cleared = [] }
raw_log = refl

-- an output before cycle 0 comes too late at the beginning
early_reply : reply_to (settings 8 128 0) (begin 0 ∷ []) (ask.Out (record { channel = 0; address = 0; value = 1; stamp = negsuc 7 })) 0 ≡ Some answer.Underflow
early_reply = refl
