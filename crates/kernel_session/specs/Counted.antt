-- Which entries of a history count for what is put out.
use Rattle.std.specs.Prelude.{◌≡◌, ℕ, List, ◌∷◌, ◌++◌, None}
use Rattle.rtio_types.specs.declared.event.Event.{Event}
use Rattle.rtio_core.specs.declared.data.Config.{Config}
use Rattle.rtio_core.specs.declared.data.Entry.{Entry}
use Rattle.rtio_core.specs.Entries.{lane_step, lane_steps}
use Rattle.rtio_core.specs.Reply.{outputs_at, verdict_at}
use Rattle.rtio_core.specs.Told.{log_at, log_lines_at}

-- two histories give each further event the same verdict, put out the same events, and have the same log
pub record PutsOutTheSame (config : Config) (one other : List Entry) : Type 0 where
  pub verdicts : (e : Event) (counter : ℕ) → verdict_at config one e counter ≡ verdict_at config other e counter
  pub outputs : (counter : ℕ) → outputs_at config one counter ≡ outputs_at config other counter
  pub log : (counter : ℕ) → log_at config one counter ≡ log_at config other counter
  pub lines : (counter : ℕ) → log_lines_at config one counter ≡ log_lines_at config other counter

-- Outputs and resets alone count, with the counters at which they were asked: histories that have the same ones put out
-- the same, and so does one that lacks any other entry, a request for a recording among them
pub record OutputsAndResetsCount (config : Config) : Type 0 where
  pub same : (one other : List Entry) → lane_steps one ≡ lane_steps other → PutsOutTheSame config one other
  pub others : (front : List Entry) (entry : Entry) (back : List Entry)
      → lane_step entry.act ≡ None
      → PutsOutTheSame config (front ++ entry ∷ back) (front ++ back)
