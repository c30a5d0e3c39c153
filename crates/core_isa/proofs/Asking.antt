-- Requests, playbacks and outputs keep a state sound.
use Rattle.std.proofs.Common.{ℕ, ◌+◌, List, [], ◌∷◌, ◌++◌, length, Option, Some, None, refl, arith}
use Rattle.std.specs.Prelude.{ℤ}
use Rattle.rtio_types.specs.declared.event.Event.{Event}
use Rattle.rtio_types.specs.declared.request.Request.{Request}
use Rattle.rtio_types.specs.declared.request.Request.TheVariants as Q
use Rattle.rtio_types.specs.declared.request.Reply.{Reply}
use Rattle.rtio_types.specs.declared.request.Reply.TheVariants as R
use Rattle.rtio_types.specs.Replies.{number_in}
use Rattle.rtio_types.specs.Time.{later, shifted}
use Rattle.core_isa.specs.declared.code.Code.{Code}
use Rattle.core_isa.specs.Machine.{OpenRecording, Machine, next, push, unit_then}
use Rattle.core_isa.specs.Sound.{StandsAt, StaysSound}
use Rattle.core_isa.specs.Steps.{submit_or_collect, event_at, output, ask_number, ask_only, play_events, play_reply, play}
use Rattle.core_isa.proofs.Ready.{Ready, IsReady, next_sound, push_sound, unit_sound}
use Rattle.core_isa.proofs.Reopened.{callers_fit_again}
use Rattle.core_isa.proofs.Passing.{request_sound}

-- a request whose number is pushed
pub number_sound : (code : Code) (index rec : ℕ) (request : Request) (m : Machine)
    → IsReady code index rec m
    → StandsAt code index (m.top.place + 1) (length m.top.operands + 1) (length m.top.handlers) rec
    → StaysSound code (ask_number request m)
number_sound code index rec request m ready stands =
    request_sound
    code
    index
    rec
    request
    (λ reply. push (number_in reply))
    m
    ready
    (λ reply left replies.
    push_sound
    code
    index
    rec
    (number_in reply)
    (record m { units = left; asked = m.asked ++ request ∷ []; replies = replies })
    ready
    stands)

-- a request without a number
pub only_sound : (code : Code) (index rec : ℕ) (request : Request) (m : Machine)
    → IsReady code index rec m
    → StandsAt code index (m.top.place + 1) (length m.top.operands) (length m.top.handlers) rec
    → StaysSound code (ask_only request m)
only_sound code index rec request m ready stands =
    request_sound
    code
    index
    rec
    request
    (λ reply. next)
    m
    ready
    (λ reply left replies.
    next_sound
    code
    index
    rec
    (record m { units = left; asked = m.asked ++ request ∷ []; replies = replies })
    ready
    stands)

-- the events of a recording, one after another
events_sound : (code : Code) (index rec : ℕ) (events : List Event) (length' : ℤ) (m : Machine)
    → IsReady code index rec m
    → StandsAt code index (m.top.place + 1) (length m.top.operands) (length m.top.handlers) rec
    → StaysSound code (play_events events length' m)
events_sound code index rec [] length' m ready stands =
    next_sound code index rec (record m { cursor = later m.cursor length' }) ready stands
events_sound code index rec (event ∷ rest) length' m ready stands =
    request_sound
    code
    index
    rec
    (Q.Out (shifted event m.cursor))
    (λ reply. play_events rest length')
    m
    ready
    (λ reply left replies.
    events_sound
    code
    index
    rec
    rest
    length'
    (record m { units = left; asked = m.asked ++ Q.Out (shifted event m.cursor) ∷ []; replies = replies })
    ready
    stands)

-- a playback
pub play_sound : (code : Code) (index rec : ℕ) (request : Request) (m : Machine)
    → IsReady code index rec m
    → StandsAt code index (m.top.place + 1) (length m.top.operands) (length m.top.handlers) rec
    → StaysSound code (play request m)
play_sound code index rec request m ready stands =
    request_sound code index rec request play_reply m ready (λ reply left replies. by_reply reply left replies)
  where
    by_reply : (reply : Reply) (left : ℕ) (replies : List Reply) → StaysSound code (play_reply reply (record m { units = left; asked = m.asked ++ request ∷ []; replies = replies }))
    by_reply (R.Trace recording) left replies =
        events_sound
        code
        index
        rec
        recording.events
        recording.length
        (record m { units = left; asked = m.asked ++ request ∷ []; replies = replies })
        ready
        stands
    by_reply reply left replies =
        next_sound
        code
        index
        rec
        (record m { units = left; asked = m.asked ++ request ∷ []; replies = replies })
        ready
        stands

-- an output, submitted or collected
pub output_sound : (code : Code) (index rec channel address : ℕ) (v : ℤ) (m : Machine)
    → IsReady code index rec m
    → StandsAt code index (m.top.place + 1) (length m.top.operands) (length m.top.handlers) rec
    → StaysSound code (output channel address v m)
output_sound code index rec channel address v m ready stands = by_recording m.recording ready
  where
    event : Event
    event = event_at m.cursor channel address v

    by_recording : (recording : Option OpenRecording)
        → Ready code index rec recording m.callers m.top.function (length m.top.slots) m.top.handlers
        → StaysSound code (unit_then (submit_or_collect recording event) (record m { recording = recording }))
    by_recording None ready =
        only_sound code index rec (Q.Out event) (record m { recording = None }) ready stands
    by_recording (Some open_one) ready =
        unit_sound
        code
        (submit_or_collect (Some open_one) event)
        (record m { recording = Some open_one })
        (λ left.
        next_sound
        code
        index
        rec
        (record m { units = left; recording = Some (record open_one { events = open_one.events ++ event ∷ [] }) })
        (record {
          keeps = ready.keeps;
          waiting =
              callers_fit_again
              code
              (length m.callers)
              (Some open_one)
              (Some (record open_one { events = open_one.events ++ event ∷ [] }))
              (record { own = λ j lt. refl; below = λ j lt. refl })
              m.top.function
              m.callers
              (omega arith)
              ready.waiting;
          within = ready.within;
        })
        stands)
