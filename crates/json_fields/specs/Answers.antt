-- What the reader's functions give, against the readings.
use Rattle.std.specs.Prelude.{◌≡◌, ℕ, Result, Ok, Err, List, Vec}
use Rattle.std.specs.Borrow.{Bor}
use Rattle.std.specs.Global.{Global}
use Rattle.serde_json.specs.Data.{Data, Items}
use Rattle.serde_json.specs.View.{view, items_view}
use Rattle.serde_json.specs.declared.value.Value.{Value}
use Rattle.json_fields.specs.declared.fault.Stop.{Stop}
use Rattle.json_fields.specs.declared.fault.Stop.TheVariants as S
use Rattle.json_fields.specs.Readings.{Reading, good, fault}

-- a stop is the fault of the reading, or want of memory
abbrev pub IsStopOf : {A : Type 0} → Stop → Reading A → Type 0
IsStopOf (S.Fault path kind) reading = reading ≡ fault path kind
IsStopOf S.Memory reading = Unit {0}

-- an answer that isn't want of memory
abbrev pub IsSettled : {A : Type 0} → Result A Stop → Type 0
IsSettled (Ok a) = Unit {0}
IsSettled (Err (S.Fault path kind)) = Unit {0}
IsSettled (Err S.Memory) = ⊥

-- what a function gives is what the reading says, unless memory ran out
abbrev pub Gives : {A : Type 0} → Result A Stop → Reading A → Type 0
Gives (Ok a) reading = reading ≡ good a
Gives (Err stop) reading = IsStopOf stop reading

-- the items that a function gives are those that the reading says, unless memory ran out
abbrev pub GivesItems : {A : Type 0} → Result (Vec A Global) Stop → Reading (List A) → Type 0
GivesItems (Ok v) reading = reading ≡ good v.items
GivesItems (Err stop) reading = IsStopOf stop reading

-- the value that a function lends is that which the reading says, unless memory ran out
abbrev pub Lends : Result (Bor Value) Stop → Reading Data → Type 0
Lends (Ok v) reading = reading ≡ good (view v.now)
Lends (Err stop) reading = IsStopOf stop reading

-- and the same of the items of a list
abbrev pub LendsItems : Result (Bor (List Value)) Stop → Reading Items → Type 0
LendsItems (Ok vs) reading = reading ≡ good (items_view vs.now)
LendsItems (Err stop) reading = IsStopOf stop reading

-- and the same of a text
abbrev pub LendsText : Result (Bor (List ℕ)) Stop → Reading (List ℕ) → Type 0
LendsText (Ok t) reading = reading ≡ good t.now
LendsText (Err stop) reading = IsStopOf stop reading
