-- The numbers of a slack run keep within 64 bits: each request takes a unit first.
use Rattle.std.specs.Prelude.{◌≡◌, ◌+◌, ◌*◌, ◌^◌, ◌≤◌, Result, Ok, Err}
use Rattle.limits.specs.Limits.{most_budget, most_cost}
use Rattle.slack_meaning.specs.Actions.{State, Completion, normal, early}
use Rattle.slack_state.specs.declared.early.Reason.{Reason}
use Rattle.slack_state.specs.declared.meter.Meter.{Meter}
use Rattle.slack_state.specs.Ends.{reason_of}

-- the units left pay for what the numbers may still become
pub record IsSolvent (m : Meter) : Type 0 where
  pub cost : m.cost ≤ most_cost
  pub units : m.units ≤ most_budget
  pub limit : m.limit + most_cost * m.units ≤ 2 ^ 63 + most_cost * most_budget
  pub requests : m.requests + m.units ≤ most_budget
  pub outs : m.outs ≤ m.requests
  pub least : m.least ≤ m.limit

-- a unit more was taken than requests were answered
pub record HasPaid (m : Meter) : Type 0 where
  pub cost : m.cost ≤ most_cost
  pub units : m.units + 1 ≤ most_budget
  pub limit : m.limit + most_cost * (m.units + 1) ≤ 2 ^ 63 + most_cost * most_budget
  pub requests : m.requests + (m.units + 1) ≤ most_budget
  pub outs : m.outs ≤ m.requests
  pub least : m.least ≤ m.limit

-- a state with these numbers
abbrev pub metered : State → Meter → State
metered a m = record a {
  units = m.units;
  limit = m.limit;
  least = m.least;
  outs = m.outs;
  requests = m.requests;
  cost = m.cost;
  depth = m.depth;
}

-- what a call with these numbers tells is what the part does; where it ends early the numbers stay
abbrev pub MeterDoes : {B : Type 0} → Result B Reason → (before left : State) → Completion B → Type 0
MeterDoes (Ok b) before left c = c ≡ normal b left
MeterDoes (Err reason) before left c = (c ≡ early (reason_of reason) left) × (left ≡ before)

-- the numbers of a state
abbrev pub meter_in : State → Meter
meter_in s = record {
  units = s.units;
  limit = s.limit;
  least = s.least;
  outs = s.outs;
  requests = s.requests;
  cost = s.cost;
  depth = s.depth;
}
