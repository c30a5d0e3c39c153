-- The arrivals of a session.
use Rattle.std.specs.Prelude.{ℕ, ◌-◌, Bool, true, not, List, [], ◌∷◌, nat_le}
use Rattle.std.specs.Prelude.{length, codes, slice_get, Option, Some, None, count_by}
use Rattle.limits.specs.Limits.{last_clock, most_runs}
use Rattle.serde_json.specs.Data.{Data}
use Rattle.exp_model.specs.declared.arrival.Arrival.{Arrival}
use Rattle.exp_model.specs.declared.arrival.ArrivalAct.TheVariants as A
use Rattle.exp_model.specs.Sessions.{submits}
use Rattle.json_fields.specs.declared.fault.FieldKind.TheVariants as K
use Rattle.json_fields.specs.Readings.{Reading, good, demand}
use Rattle.json_fields.specs.Values.{count}
use Rattle.json_fields.specs.Objects.{Field, Table, ◌⊛◌, first_there, formed, ordered, required, table_of}
use Rattle.exp_json.specs.declared.around.Around.{Around}
use Rattle.exp_json.specs.declared.arrival.Order.{Order}
use Rattle.exp_json.specs.declared.arrival.Order.TheVariants as O
use Rattle.exp_json.specs.Steps.{submission}

-- the key of an order
abbrev pub order_key : Order → List ℕ
order_key O.Submit = codes "submit"
order_key O.Delete = codes "delete"
order_key O.Terminate = codes "terminate"

-- the orders; where an object has the keys of several, the first of these is its order
abbrev pub orders : List Order
orders = O.Submit ∷ O.Delete ∷ O.Terminate ∷ []

-- no more arrivals submit than there may be runs
abbrev pub may_arrive : List Arrival → Order → Reading (Unit {0})
may_arrive before O.Submit = demand (not (nat_le most_runs (count_by submits before))) K.Range
may_arrive before O.Delete = good tt
may_arrive before O.Terminate = good tt

-- a clock isn't below that of another arrival, if there is one
abbrev pub not_below_one : Option Arrival → ℕ → Bool
not_below_one None clock = true
not_below_one (Some other) clock = nat_le other.at clock

-- a clock isn't below that of the last of the arrivals before it
abbrev pub not_below : List Arrival → ℕ → Bool
not_below before clock = not_below_one (slice_get before (length before - 1)) clock

-- the clock of an arrival, behind which the order of arrivals is asked
abbrev pub clock_field : List Arrival → Field ℕ
clock_field before = ordered (required (codes "at") (count 0 last_clock)) (not_below before)

-- an arrival of an order
abbrev pub order_table : Around → List Arrival → Order → Table Arrival
order_table around before O.Submit =
    table_of (λ clock submitted. record { «at» = clock; act = A.Submit submitted })
    ⊛ clock_field before
    ⊛ required (codes "submit") (submission around)
order_table around before O.Delete =
    table_of (λ clock rid. record { «at» = clock; act = A.Delete rid }) ⊛ clock_field before ⊛ required (codes "delete") (count 0 (most_runs - 1))
order_table around before O.Terminate =
    table_of (λ clock rid. record { «at» = clock; act = A.Terminate rid }) ⊛ clock_field before ⊛ required (codes "terminate") (count 0 (most_runs - 1))

-- an arrival behind those before it
abbrev pub arrival : Around → List Arrival → Data → Reading Arrival
arrival around before d = formed (first_there order_key orders) (may_arrive before) (order_table around before) d
