-- The lines of a report, as bytes.
use Rattle.std.specs.Prelude.{ℕ, List, [], ◌∷◌, ◌++◌, flat_map, length, ℤ, codes, decimal, Option, Some, None}
use Rattle.std.specs.Fmt.{signed_decimal}
use Rattle.rtio_types.specs.declared.event.Event.{Event}
use Rattle.rtio_types.specs.declared.outcome.Outcome.{Outcome}
use Rattle.rtio_types.specs.declared.outcome.Outcome.TheVariants as outcome
use Rattle.rtio_types.specs.declared.request.Value.{Value}
use Rattle.rtio_types.specs.declared.request.Value.TheVariants as value
use Rattle.sim_report.specs.Names.{exception_name}

-- what the line of an event says of it
abbrev pub event_fields : Event → List ℕ
event_fields event =
    codes " "
    ++ signed_decimal event.stamp
    ++ codes " "
    ++ decimal event.channel
    ++ codes " "
    ++ decimal event.address
    ++ codes " "
    ++ decimal event.value
    ++ codes "\n"

-- the line of an event that was put out, or is still to be
abbrev pub event_line : List ℕ → Event → List ℕ
event_line word event = word ++ event_fields event

-- the line of an event in the log
abbrev pub log_line : List ℕ → ℕ × Event → List ℕ
log_line word p =
    word
    ++ codes " "
    ++ decimal p.0
    ++ codes " "
    ++ signed_decimal p.1.stamp
    ++ codes " "
    ++ decimal p.1.channel
    ++ codes "\n"

-- how many events there are
abbrev pub count_line : List ℕ → ℕ → List ℕ
count_line word count = word ++ codes " " ++ decimal count ++ codes "\n"

-- numbers with commas between them
abbrev pub listed : List ℤ → List ℕ
listed [] = []
listed (n ∷ ns) = signed_decimal n ++ flat_map (λ m. codes "," ++ signed_decimal m) ns

-- a number, or a list in brackets
abbrev pub value_text : Value → List ℕ
value_text (value.Int n) = signed_decimal n
value_text (value.List ns) = codes "[" ++ listed ns ++ codes "]"

-- the line of a dataset
abbrev pub data_line : List ℕ × Value → List ℕ
data_line dataset = codes "data " ++ dataset.0 ++ codes " " ++ value_text dataset.1 ++ codes "\n"

-- a number behind a space
abbrev pub spaced : ℕ → List ℕ
spaced n = codes " " ++ decimal n

-- the line of the lanes
abbrev pub lanes_line : List ℕ → List ℕ
lanes_line peaks = codes "lanes" ++ flat_map spaced peaks ++ codes "\n"

-- the line of the code
abbrev pub code_line : (length steps : ℕ) → List ℕ
code_line length steps = codes "code " ++ decimal length ++ codes " " ++ decimal steps ++ codes "\n"

-- the line of the end, which tells the units where they were used up, and the last cycle where that was reached
abbrev pub end_line : (horizon budget : ℕ) → Outcome → List ℕ
end_line horizon budget outcome.Returned = codes "end ok\n"
end_line horizon budget (outcome.Raised x) = codes "end raised " ++ exception_name x ++ codes "\n"
end_line horizon budget outcome.Budget = codes "end budget " ++ decimal budget ++ codes "\n"
end_line horizon budget outcome.Horizon = codes "end horizon " ++ decimal horizon ++ codes "\n"

-- the line of a moment under its name
abbrev pub moment_line : List ℕ → ℤ → List ℕ
moment_line name moment = name ++ codes " " ++ signed_decimal moment ++ codes "\n"

-- the lines of an end and its cursor; none where there is no end
abbrev pub end_lines : (horizon budget : ℕ) → Option (Outcome × ℤ) → List ℕ
end_lines horizon budget (Some end) = end_line horizon budget end.0 ++ moment_line (codes "cursor") end.1
end_lines horizon budget None = []
