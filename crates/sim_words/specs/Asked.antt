-- What the words of `artiq_sim` ask.
use Rattle.std.specs.Prelude.{ℕ, ◌≤◌, Bool, true, false, List, [], ◌∷◌, ◌++◌, is_some, Option, Some, None, IfSome}
use Rattle.std.specs.Prelude.{IsTrue, option_map, option_and_then, bytes_eq, unwrap_or, codes, if◌then◌else◌}
use Rattle.std.specs.Bool.{then_some}
use Rattle.std.specs.Option.{option_map_or}
use Rattle.rtio_types.specs.declared.event.Edge.{Edge}
use Rattle.rtio_core.specs.declared.data.Config.{Config}
use Rattle.rtio_core.specs.declared.named.Named.{Named}
use Rattle.rtio_core.specs.Entries.{is_config_ok}
use Rattle.sat_rounds.specs.declared.letters.Letter.{Letter}
use Rattle.sat_rounds.specs.Words.{word_of}
use Rattle.run_schedule.specs.Schedules.{ScheduleState, Lockstep}
use Rattle.limits.specs.Limits.{default_depth, default_horizon, default_lanes, lockstep_horizon, most_budget, most_cost}
use Rattle.limits.specs.Limits.{most_depth, most_lanes, most_number}
use Rattle.option_values.specs.Numbers.{number_in}
use Rattle.option_values.specs.Schedules.{schedule_of}
use Rattle.option_values.specs.Lists.{edges_of, holds_of, no_holds, recordings_of}
use Rattle.sim_words.specs.Given.{Given, given_of, value_of}
use Rattle.sim_words.specs.declared.asked.Asked.{Asked}
use Rattle.sim_words.specs.declared.asked.Asked.TheVariants.{Sim, Generated, Check, Compile}
use Rattle.sim_words.specs.declared.asked.Asked.TheVariants.{Exec, Gen, Dump, Vcd, Sat, Slack}
use Rattle.sim_words.specs.declared.asked.Options.{Options}

-- ---- one option

-- the value that is read, or what stands for an option that isn't given
abbrev pub read_or : {X : Type 0} → X → (List ℕ → Option X) → Option (List ℕ) → Option X
read_or default read None = Some default
read_or default read (Some text) = read text

-- the limit that each request raises, in machine units
abbrev pub cost_of : List Given → Option ℕ
cost_of given = read_or 0 (number_in 0 most_cost) (value_of (codes "cost") given)

abbrev pub lanes_of : List Given → Option ℕ
lanes_of given = read_or default_lanes (number_in 1 most_lanes) (value_of (codes "lanes") given)

abbrev pub depth_of : List Given → Option ℕ
depth_of given = read_or default_depth (number_in 1 most_depth) (value_of (codes "depth") given)

abbrev pub schedule_given : List Given → Option ScheduleState
schedule_given given = read_or Lockstep schedule_of (value_of (codes "schedule") given)

-- in cycles; in lockstep, by default or by its word, a core may go farther
abbrev pub most_horizon : Option (List ℕ) → ℕ
most_horizon None = lockstep_horizon
most_horizon (Some schedule) = if bytes_eq schedule (codes "lockstep") then lockstep_horizon else default_horizon

abbrev pub horizon_of : List Given → Option ℕ
horizon_of given =
    read_or default_horizon (number_in 1 (most_horizon (value_of (codes "schedule") given))) (value_of (codes "horizon") given)

abbrev pub budget_of : List Given → Option ℕ
budget_of given = read_or most_budget (number_in 1 most_budget) (value_of (codes "budget") given)

abbrev pub edges_given : List Given → Option (List Edge)
edges_given given = read_or [] edges_of (value_of (codes "edges") given)

abbrev pub holds_given : List Given → Option (List ℕ)
holds_given given = read_or no_holds holds_of (value_of (codes "hold") given)

abbrev pub recordings_given : List Given → Option (List Named)
recordings_given given = read_or [] recordings_of (value_of (codes "recordings") given)

-- `--dma lines` asks for the recordings that are kept
abbrev pub dma_of : List Given → Option Bool
dma_of given = read_or false (λ text. then_some (bytes_eq text (codes "lines")) true) (value_of (codes "dma") given)

-- the word of a link's rounds
abbrev pub link_given : List Given → Option (List Letter)
link_given given = word_of (unwrap_or (value_of (codes "link") given) (codes "sdtga"))

-- a number of no quantity
abbrev pub any_number : List ℕ → Option ℕ
any_number text = number_in 0 most_number text

-- ---- all options of a run

-- the step that follows a reading, if there is one
abbrev pub if_read : {X Y : Type 0} → Option X → (X → Option Y) → Option Y
if_read reading next = option_and_then next reading

-- the settings of the core, of which one can be made
abbrev pub config_of : List Given → Option Config
config_of given =
    if_read (lanes_of given) (λ lanes.
    if_read (depth_of given) (λ depth.
    if_read (cost_of given) (λ cost.
    if_read (horizon_of given) (λ horizon.
    if_read (edges_given given) (λ edges.
    if_read (holds_given given) (λ holds.
    if_read (recordings_given given) (λ kept.
    let config : Config =
    record { lanes = lanes; depth = depth; cost = cost; horizon = horizon; edges = edges; holds = holds; kept = kept } in
    then_some (is_config_ok config) config)))))))

abbrev pub options_of : List Given → Option Options
options_of given =
    if_read (schedule_given given) (λ schedule.
    if_read (budget_of given) (λ budget.
    if_read (config_of given) (λ config.
    Some (record { config = config; budget = budget; schedule = schedule }))))

-- ---- commands

-- the names of the options of a run
abbrev pub dump_names : List (List ℕ)
dump_names =
    codes "cost" ∷ codes "lanes" ∷ codes "depth" ∷ codes "horizon" ∷ codes "budget" ∷ codes "schedule" ∷ codes "edges"
    ∷ codes "hold" ∷ codes "recordings" ∷ []

-- and of one whose report may have the lines of the recordings
abbrev pub exec_names : List (List ℕ)
exec_names = dump_names ++ codes "dma" ∷ []

abbrev pub sim_names : List (List ℕ)
sim_names = codes "gen" ∷ exec_names

-- the names of the options of a run whose events are sent over a link
abbrev pub sat_names : List (List ℕ)
sat_names =
    codes "cost" ∷ codes "lanes" ∷ codes "depth" ∷ codes "budget" ∷ codes "schedule" ∷ codes "edges" ∷ codes "link" ∷ []

-- the names of the options of a check for outputs that may come too late
abbrev pub slack_names : List (List ℕ)
slack_names = codes "cost" ∷ codes "depth" ∷ []

abbrev pub gen_names : List (List ℕ)
gen_names = codes "number" ∷ []

-- a kernel text is run; with `--gen` it is the generated one, and `--dma` isn't given
abbrev pub sim_of : List Given → Option Asked
sim_of given =
    if_read (options_of given) (λ options.
    option_map_or
    (λ text. if is_some (value_of (codes "dma") given) then None else option_map (λ number. Generated number options) (any_number text))
    (value_of (codes "gen") given)
    (option_map (λ dma. Sim options dma) (dma_of given)))

-- an image is run
abbrev pub exec_of : List Given → Option Asked
exec_of given = if_read (options_of given) (λ options. option_map (λ dma. Exec options dma) (dma_of given))

-- a kernel text is run, and its core is dumped
abbrev pub dump_of : List Given → Option Asked
dump_of given = option_map (λ options. Dump options) (options_of given)

-- a kernel text is run, and the events that its core put out are sent over a link
abbrev pub sat_of : List Given → Option Asked
sat_of given = if_read (options_of given) (λ options. option_map (λ word. Sat options word) (link_given given))

-- a kernel text is checked for outputs that may come too late
abbrev pub slack_of : List Given → Option Asked
slack_of given = if_read (cost_of given) (λ cost. option_map (λ depth. Slack cost depth) (depth_of given))

-- the generated kernel of a number, which has to be given
abbrev pub gen_of : List Given → Option Asked
gen_of given = option_map (λ number. Gen number) (option_and_then any_number (value_of (codes "number") given))

-- a command's options, and what is asked by those that are given
pub record Command : Type 0 where
  pub names : List (List ℕ)
  pub asks : List Given → Option Asked

abbrev pub command_named : List ℕ → Option Command
command_named word =
    if bytes_eq word (codes "sim") then Some (record { names = sim_names; asks = sim_of })
    else if bytes_eq word (codes "exec") then Some (record { names = exec_names; asks = exec_of })
    else if bytes_eq word (codes "gen") then Some (record { names = gen_names; asks = gen_of })
    else if bytes_eq word (codes "dump") then Some (record { names = dump_names; asks = dump_of })
    else if bytes_eq word (codes "check") then Some (record { names = []; asks = λ given. Some Check })
    else if bytes_eq word (codes "compile") then Some (record { names = []; asks = λ given. Some Compile })
    else if bytes_eq word (codes "vcd") then Some (record { names = []; asks = λ given. Some Vcd })
    else if bytes_eq word (codes "sat") then Some (record { names = sat_names; asks = sat_of })
    else if bytes_eq word (codes "slack") then Some (record { names = slack_names; asks = slack_of })
    else None

-- what the words ask: the first is the command, the others are its options
abbrev pub asked_of : List (List ℕ) → Option Asked
asked_of [] = None
asked_of (word ∷ words) =
    if_read (command_named word) (λ (command : Command). if_read (given_of command.names words) command.asks)

-- ---- what is accepted

-- the options of what is asked, if it has them
abbrev pub options_in : Asked → Option Options
options_in (Sim options dma) = Some options
options_in (Generated number options) = Some options
options_in (Exec options dma) = Some options
options_in (Dump options) = Some options
options_in Check = None
options_in Compile = None
options_in (Gen number) = None
options_in Vcd = None
options_in (Sat options word) = Some options
options_in (Slack cost depth) = None

-- a core can be made with the settings, and the budget is one that a run
-- may have; a cost and a depth without other settings are those that a core may have
abbrev pub IsAccepted : Asked → Type 0
IsAccepted (Slack cost depth) = (cost ≤ most_cost) × (1 ≤ depth) × (depth ≤ most_depth)
IsAccepted asked =
    IfSome (options_in asked) (λ (options : Options).
    IsTrue (is_config_ok options.config) × (1 ≤ options.budget) × (options.budget ≤ most_budget))
