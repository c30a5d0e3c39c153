-- The lines behind those of the requests.
use Rattle.std.specs.Prelude.{ℕ, List, [], ◌++◌, codes, decimal, Option, Some, None}
use Rattle.std.specs.Fmt.{signed_decimal}
use Rattle.rtio_types.specs.declared.outcome.Outcome.{Outcome}
use Rattle.rtio_types.specs.declared.outcome.Outcome.TheVariants as outcome
use Rattle.sim_report.specs.Lines.{spaced}
use Rattle.sim_report.specs.Names.{exception_name}
use Rattle.trace_fates.specs.declared.data.Fate.{Fate}
use Rattle.trace_fates.specs.declared.data.Fate.TheVariants as fate
use Rattle.trace_fates.specs.Slack.{slack_of}
use Rattle.trace_report.specs.declared.place.TextPlace.{TextPlace}
use Rattle.trace_report.specs.declared.outputs.Placed.{Placed}
use Rattle.trace_report.specs.Places.{place_text}

-- why an output didn't come out, behind a blank; nothing where it did
abbrev pub fate_text : Fate → List ℕ
fate_text fate.CameOut = []
fate_text fate.Late = codes " late"
fate_text fate.Sequence = codes " seq"
fate_text fate.Cleared = codes " rst"
fate_text fate.Collided = codes " col"
fate_text fate.Busy = codes " busy"
fate_text (fate.Overridden by) = codes " over " ++ decimal by
fate_text fate.Pending = codes " pend"

-- the line of an output that was lost
abbrev pub lost_text : Placed → List ℕ
lost_text p =
    codes "lost"
    ++ spaced p.output.number
    ++ codes " "
    ++ place_text p.place
    ++ codes " "
    ++ signed_decimal p.output.event.stamp
    ++ spaced p.output.event.channel
    ++ fate_text p.output.fate
    ++ codes "\n"

abbrev pub lost_if : Fate → (line : List ℕ) → List ℕ
lost_if fate.CameOut line = []
lost_if f line = line

-- the line of an output; none where it came out
abbrev pub lost_line : Placed → List ℕ
lost_line p = lost_if p.output.fate (lost_text p)

-- the line of the least slack; none where there is no output
abbrev pub least_line : Option Placed → List ℕ
least_line None = []
least_line (Some p) =
    codes "least "
    ++ signed_decimal (slack_of p.output)
    ++ codes " "
    ++ place_text p.place
    ++ spaced p.output.number
    ++ codes "\n"

-- where the run stopped, if that is told
abbrev pub stop_text : Option TextPlace → List ℕ
stop_text None = codes "\n"
stop_text (Some stop) = codes " line " ++ place_text stop ++ codes "\n"

-- the line of the end
abbrev pub end_text : (horizon budget : ℕ) → Outcome → (stop : Option TextPlace) → List ℕ
end_text horizon budget outcome.Returned stop = codes "end ok\n"
end_text horizon budget (outcome.Raised x) stop = codes "end raised " ++ exception_name x ++ stop_text stop
end_text horizon budget outcome.Budget stop = codes "end budget " ++ decimal budget ++ stop_text stop
end_text horizon budget outcome.Horizon stop = codes "end horizon " ++ decimal horizon ++ stop_text stop

-- the line of the counts: how many outputs were answered, how many of them came out, and how many didn't
abbrev pub counts_line : (asked out lost : ℕ) → List ℕ
counts_line asked out lost =
    codes "asked" ++ spaced asked ++ codes " out" ++ spaced out ++ codes " lost" ++ spaced lost ++ codes "\n"
