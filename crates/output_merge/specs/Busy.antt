-- Channels that are busy executing an event: which keepers are put out for all that, and which are discarded.
use Rattle.std.specs.Prelude.{ℕ, Bool, ◌-◌, ◌&&◌, ◌==◌, List, [], ◌∷◌, ◌++◌, get_or, if◌then◌else◌, nat_lt}
use Rattle.std.specs.List.{list_any}
use Rattle.rtio_types.specs.declared.event.Event.{Event}
use Rattle.rtio_types.specs.Time.{cycle_of}
use Rattle.sed_lanes.specs.Sorting.{sorted}
use Rattle.output_merge.specs.Groups.{is_logged_before}

-- how many cycles a channel takes to execute an event
abbrev pub hold_of : List ℕ → ℕ → ℕ
hold_of holds channel = get_or holds channel 0

-- an event keeps its channel busy for another: one of the same
-- channel and a later cycle, which lies less than the hold behind it
abbrev pub keeps_busy : List ℕ → (earlier later : ℕ × Event) → Bool
keeps_busy holds q p =
    (q.1.channel == p.1.channel)
    && (nat_lt (cycle_of q.1) (cycle_of p.1) && nat_lt (cycle_of p.1 - cycle_of q.1) (hold_of holds p.1.channel))

-- an event finds its channel busy behind those that were put out
abbrev pub is_busy : List ℕ → (out : List (ℕ × Event)) → ℕ × Event → Bool
is_busy holds out p = list_any (λ q. keeps_busy holds q p) out

-- of keepers by rising cycle, those that aren't busy: behind some
-- that were put out, and each of them behind those before it
abbrev pub put_out_behind : List ℕ → (out : List (ℕ × Event)) → List (ℕ × Event) → List (ℕ × Event)
put_out_behind holds out [] = []
put_out_behind holds out (p ∷ rest) =
    if is_busy holds out p then put_out_behind holds out rest else p ∷ put_out_behind holds (out ++ p ∷ []) rest

-- and those that are busy, which keep no channel busy themselves
abbrev pub busy_behind : List ℕ → (out : List (ℕ × Event)) → List (ℕ × Event) → List (ℕ × Event)
busy_behind holds out [] = []
busy_behind holds out (p ∷ rest) =
    if is_busy holds out p then p ∷ busy_behind holds out rest else busy_behind holds (out ++ p ∷ []) rest

-- the keepers that are put out
abbrev pub put_out : List ℕ → List (ℕ × Event) → List (ℕ × Event)
put_out holds keepers = put_out_behind holds [] keepers

-- the busy ones, by cycle, then by channel, then by number
abbrev pub busy : List ℕ → List (ℕ × Event) → List (ℕ × Event)
busy holds keepers = sorted is_logged_before (busy_behind holds [] keepers)
