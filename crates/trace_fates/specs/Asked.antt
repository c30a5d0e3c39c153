-- The outputs that a history asked for.
use Rattle.std.specs.Prelude.{◌≡◌, ◌⊎◌, ℕ, List, [], ◌∷◌, ◌++◌}
use Rattle.rtio_types.specs.declared.event.Event.{Event}
use Rattle.rtio_types.specs.declared.request.Reply.{Reply}
use Rattle.rtio_types.specs.declared.request.Request.TheVariants as ask
use Rattle.rtio_core.specs.declared.data.Act.{Act}
use Rattle.rtio_core.specs.declared.data.Act.TheVariants.{Asked}
use Rattle.rtio_core.specs.declared.data.Entry.{Entry}
use Rattle.rtio_headline.specs.Headline.{outputs_asked}

-- an output with its number, its reply, and the counter at the reply
pub record AskedOutput : Type 0 where
  pub own : ℕ × Event
  pub reply : Reply
  pub at : ℕ

-- the output that an act asked for
abbrev pub output_by : (number : ℕ) → Act → List AskedOutput
output_by number (Asked (ask.Out e) reply at) = record { own = (number, e); reply = reply; at = at } ∷ []
output_by number act = []

-- the outputs that some entries behind others asked for
abbrev pub outputs_behind : (before rest : List Entry) → List AskedOutput
outputs_behind before [] = []
outputs_behind before (entry ∷ rest) =
    output_by (outputs_asked before) entry.act ++ outputs_behind (before ++ entry ∷ []) rest

-- the outputs that a history asked for
abbrev pub outputs_of : List Entry → List AskedOutput
outputs_of history = outputs_behind [] history

-- an output is one of those asked for
abbrev pub IsAsked : AskedOutput → List AskedOutput → Type 0
IsAsked a [] = ⊥
IsAsked a (b ∷ rest) = (a ≡ b) ⊎ IsAsked a rest
