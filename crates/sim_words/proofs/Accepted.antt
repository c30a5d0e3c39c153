-- What is asked is accepted by a core.
use Rattle.std.proofs.Common.{◌≡◌, ℕ, ◌≤◌, ◌&&◌, nat_le, List, [], ◌∷◌, Bool, true, false, cond, Option, Some, None, is_some, option_map, IfSome, IfOk, Result, Ok, Err, refl, subst, codes, lit≤}
use Rattle.std.specs.Prelude.{IsTrue, bytes_eq}
use Rattle.std.specs.Bool.{then_some}
use Rattle.std.specs.Option.{option_map_or}
use Rattle.std.proofs.lemmas.Bool.{and_parts, leb-true}
use Rattle.rtio_types.specs.declared.event.Edge.{Edge}
use Rattle.rtio_core.specs.declared.data.Config.{Config}
use Rattle.rtio_core.specs.declared.named.Named.{Named}
use Rattle.rtio_core.specs.Entries.{is_config_ok}
use Rattle.run_schedule.specs.Schedules.{ScheduleState}
use Rattle.limits.specs.Limits.{default_depth, most_budget, most_cost, most_depth}
use Rattle.option_values.specs.declared.end.ValueEnd.{ValueEnd}
use Rattle.option_values.specs.Readings.{Reads}
use Rattle.option_values.specs.Numbers.{number_in, number_of}
use Rattle.sat_rounds.specs.declared.letters.Letter.{Letter}
use Rattle.sim_words.specs.Given.{Given, given_of, value_of}
use Rattle.sim_words.specs.declared.asked.Asked.{Asked}
use Rattle.sim_words.specs.declared.asked.Asked.TheVariants.{Sim, Generated, Check, Compile, Exec, Gen, Dump, Vcd, Sat, Slack}
use Rattle.sim_words.specs.declared.asked.Options.{Options}
use Rattle.sim_words.specs.Asked.{Command, IsAccepted, any_number, asked_of, budget_of, command_named, config_of, cost_of, depth_of, dma_of, dump_names, dump_of, edges_given, exec_names, exec_of, gen_names, gen_of, holds_given, horizon_of, if_read, lanes_of, options_of, read_or, recordings_given, schedule_given, sim_names, sim_of, link_given, sat_names, sat_of, slack_names, slack_of}

-- a number lies in its range
number-within : (least most : ℕ) (text : List ℕ) → IfSome (number_in least most text) (λ n. (least ≤ n) × (n ≤ most))
number-within least most text = go (number_of text)
  where
    tested : (n : ℕ) (t : Bool) → (nat_le least n && nat_le n most) ≡ t → IfSome (then_some t n) (λ k. (least ≤ k) × (k ≤ most))
    tested n false e = tt
    tested n true e = let tests = and_parts (nat_le least n) (nat_le n most) e in (leb-true least n tests.0, leb-true n most tests.1)

    go : (o : Option ℕ) → IfSome (if_read o (λ n. then_some (nat_le least n && nat_le n most) n)) (λ n. (least ≤ n) × (n ≤ most))
    go None = tt
    go (Some n) = tested n (nat_le least n && nat_le n most) refl

budget-within : (given : List Given) → IfSome (budget_of given) (λ n. (1 ≤ n) × (n ≤ most_budget))
budget-within given = go (value_of (codes "budget") given)
  where
    go : (o : Option (List ℕ)) → IfSome (read_or most_budget (number_in 1 most_budget) o) (λ n. (1 ≤ n) × (n ≤ most_budget))
    go None = (lit≤ tt, lit≤ tt)
    go (Some text) = number-within 1 most_budget text

cost-within : (given : List Given) → IfSome (cost_of given) (λ n. n ≤ most_cost)
cost-within given = go (value_of (codes "cost") given)
  where
    upper : (o : Option ℕ) → IfSome o (λ n. (0 ≤ n) × (n ≤ most_cost)) → IfSome o (λ n. n ≤ most_cost)
    upper None h = tt
    upper (Some n) h = h.1

    go : (o : Option (List ℕ)) → IfSome (read_or 0 (number_in 0 most_cost) o) (λ n. n ≤ most_cost)
    go None = lit≤ tt
    go (Some text) = upper (number_in 0 most_cost text) (number-within 0 most_cost text)

depth-within : (given : List Given) → IfSome (depth_of given) (λ n. (1 ≤ n) × (n ≤ most_depth))
depth-within given = go (value_of (codes "depth") given)
  where
    go : (o : Option (List ℕ)) → IfSome (read_or default_depth (number_in 1 most_depth) o) (λ n. (1 ≤ n) × (n ≤ most_depth))
    go None = (lit≤ tt, lit≤ tt)
    go (Some text) = number-within 1 most_depth text

abbrev IsOk : Config → Type 0
IsOk config = IsTrue (is_config_ok config)

only-ok : (config : Config) → IfSome (then_some (is_config_ok config) config) IsOk
only-ok config = go (is_config_ok config) refl
  where
    go : (t : Bool) → is_config_ok config ≡ t → IfSome (then_some t config) IsOk
    go true e = e
    go false e = tt

config-ok : (lanes depth cost horizon : Option ℕ) (edges : Option (List Edge)) (holds : Option (List ℕ)) (kept : Option (List Named))
    → IfSome
    (if_read lanes (λ lanes. if_read depth (λ depth. if_read cost (λ cost. if_read horizon (λ horizon.
    if_read edges (λ edges. if_read holds (λ holds. if_read kept (λ kept.
    let config : Config = record { lanes = lanes; depth = depth; cost = cost; horizon = horizon; edges = edges; holds = holds; kept = kept } in
    then_some (is_config_ok config) config))))))))
    IsOk
config-ok None depth cost horizon edges holds kept = tt
config-ok (Some lanes) None cost horizon edges holds kept = tt
config-ok (Some lanes) (Some depth) None horizon edges holds kept = tt
config-ok (Some lanes) (Some depth) (Some cost) None edges holds kept = tt
config-ok (Some lanes) (Some depth) (Some cost) (Some horizon) None holds kept = tt
config-ok (Some lanes) (Some depth) (Some cost) (Some horizon) (Some edges) None kept = tt
config-ok (Some lanes) (Some depth) (Some cost) (Some horizon) (Some edges) (Some holds) None = tt
config-ok (Some lanes) (Some depth) (Some cost) (Some horizon) (Some edges) (Some holds) (Some kept) =
    only-ok (record { lanes = lanes; depth = depth; cost = cost; horizon = horizon; edges = edges; holds = holds; kept = kept })

config-accepted : (given : List Given) → IfSome (config_of given) IsOk
config-accepted given =
    config-ok (lanes_of given) (depth_of given) (cost_of given) (horizon_of given) (edges_given given) (holds_given given) (recordings_given given)

abbrev AreAccepted : Options → Type 0
AreAccepted options = IsTrue (is_config_ok options.config) × (1 ≤ options.budget) × (options.budget ≤ most_budget)

options-ok : (schedule : Option ScheduleState) (budget : Option ℕ) (config : Option Config) → IfSome budget (λ n. (1 ≤ n) × (n ≤ most_budget)) → IfSome config IsOk
    → IfSome
    (if_read schedule (λ schedule. if_read budget (λ budget. if_read config (λ config.
    Some (record { config = config; budget = budget; schedule = schedule })))))
    AreAccepted
options-ok None budget config within ok = tt
options-ok (Some schedule) None config within ok = tt
options-ok (Some schedule) (Some budget) None within ok = tt
options-ok (Some schedule) (Some budget) (Some config) within ok = (ok, within.0, within.1)

options-accepted : (given : List Given) → IfSome (options_of given) AreAccepted
options-accepted given = options-ok (schedule_given given) (budget_of given) (config_of given) (budget-within given) (config-accepted given)

sim-ok : (options : Option Options) (gen dma : Option (List ℕ)) (lines : Option Bool) → IfSome options AreAccepted
    → IfSome
    (if_read options (λ options.
    option_map_or
    (λ text. cond (is_some dma) None (option_map (λ number. Generated number options) (any_number text)))
    gen
    (option_map (λ dma. Sim options dma) lines)))
    IsAccepted
sim-ok None gen dma lines held = tt
sim-ok (Some options) None dma None held = tt
sim-ok (Some options) None dma (Some lines) held = held
sim-ok (Some options) (Some text) (Some value) lines held = tt
sim-ok (Some options) (Some text) None lines held = go (any_number text)
  where
    go : (o : Option ℕ) → IfSome (option_map (λ number. Generated number options) o) IsAccepted
    go None = tt
    go (Some number) = held

pub sim-accepted : (given : List Given) → IfSome (sim_of given) IsAccepted
sim-accepted given = sim-ok (options_of given) (value_of (codes "gen") given) (value_of (codes "dma") given) (dma_of given) (options-accepted given)

pub exec-accepted : (given : List Given) → IfSome (exec_of given) IsAccepted
exec-accepted given = go (options_of given) (dma_of given) (options-accepted given)
  where
    go : (options : Option Options) (lines : Option Bool) → IfSome options AreAccepted
        → IfSome (if_read options (λ options. option_map (λ dma. Exec options dma) lines)) IsAccepted
    go None lines held = tt
    go (Some options) None held = tt
    go (Some options) (Some lines) held = held

pub dump-accepted : (given : List Given) → IfSome (dump_of given) IsAccepted
dump-accepted given = go (options_of given) (options-accepted given)
  where
    go : (options : Option Options) → IfSome options AreAccepted → IfSome (option_map (λ options. Dump options) options) IsAccepted
    go None held = tt
    go (Some options) held = held

pub sat-accepted : (given : List Given) → IfSome (sat_of given) IsAccepted
sat-accepted given = go (options_of given) (link_given given) (options-accepted given)
  where
    go : (options : Option Options) (word : Option (List Letter)) → IfSome options AreAccepted
        → IfSome (if_read options (λ options. option_map (λ word. Sat options word) word)) IsAccepted
    go None word held = tt
    go (Some options) None held = tt
    go (Some options) (Some word) held = held

pub slack-accepted : (given : List Given) → IfSome (slack_of given) IsAccepted
slack-accepted given = go (cost_of given) (depth_of given) (cost-within given) (depth-within given)
  where
    go : (cost depth : Option ℕ) → IfSome cost (λ n. n ≤ most_cost) → IfSome depth (λ n. (1 ≤ n) × (n ≤ most_depth))
        → IfSome (if_read cost (λ cost. option_map (λ depth. Slack cost depth) depth)) IsAccepted
    go None depth most within = tt
    go (Some cost) None most within = tt
    go (Some cost) (Some depth) most within = (most, within.0, within.1)

pub gen-accepted : (given : List Given) → IfSome (gen_of given) IsAccepted
gen-accepted given = go (if_read (value_of (codes "number") given) any_number)
  where
    go : (o : Option ℕ) → IfSome (option_map (λ number. Gen number) o) IsAccepted
    go None = tt
    go (Some number) = tt

abbrev Accepts : Option Command → Type 0
Accepts command = IfSome command (λ (c : Command). (given : List Given) → IfSome (c.asks given) IsAccepted)

choose : (t : Bool) (a b : Option Command) → Accepts a → Accepts b → Accepts (cond t a b)
choose true a b first second = first
choose false a b first second = second

-- the commands from one on
abbrev from-slack : List ℕ → Option Command
from-slack word = cond (bytes_eq word (codes "slack")) (Some (record { names = slack_names; asks = slack_of })) None

abbrev from-sat : List ℕ → Option Command
from-sat word = cond (bytes_eq word (codes "sat")) (Some (record { names = sat_names; asks = sat_of })) (from-slack word)

abbrev from-vcd : List ℕ → Option Command
from-vcd word = cond (bytes_eq word (codes "vcd")) (Some (record { names = []; asks = λ given. Some Vcd })) (from-sat word)

abbrev from-compile : List ℕ → Option Command
from-compile word = cond (bytes_eq word (codes "compile")) (Some (record { names = []; asks = λ given. Some Compile })) (from-vcd word)

abbrev from-check : List ℕ → Option Command
from-check word = cond (bytes_eq word (codes "check")) (Some (record { names = []; asks = λ given. Some Check })) (from-compile word)

abbrev from-dump : List ℕ → Option Command
from-dump word = cond (bytes_eq word (codes "dump")) (Some (record { names = dump_names; asks = dump_of })) (from-check word)

abbrev from-gen : List ℕ → Option Command
from-gen word = cond (bytes_eq word (codes "gen")) (Some (record { names = gen_names; asks = gen_of })) (from-dump word)

abbrev from-exec : List ℕ → Option Command
from-exec word = cond (bytes_eq word (codes "exec")) (Some (record { names = exec_names; asks = exec_of })) (from-gen word)

named-accepted : (word : List ℕ) → Accepts (command_named word)
named-accepted word =
    choose (bytes_eq word (codes "sim")) (Some (record { names = sim_names; asks = sim_of })) (from-exec word) sim-accepted
    (choose (bytes_eq word (codes "exec")) (Some (record { names = exec_names; asks = exec_of })) (from-gen word) exec-accepted
    (choose (bytes_eq word (codes "gen")) (Some (record { names = gen_names; asks = gen_of })) (from-dump word) gen-accepted
    (choose (bytes_eq word (codes "dump")) (Some (record { names = dump_names; asks = dump_of })) (from-check word) dump-accepted
    (choose (bytes_eq word (codes "check")) (Some (record { names = []; asks = λ given. Some Check })) (from-compile word) (λ given. tt)
    (choose (bytes_eq word (codes "compile")) (Some (record { names = []; asks = λ given. Some Compile })) (from-vcd word) (λ given. tt)
    (choose (bytes_eq word (codes "vcd")) (Some (record { names = []; asks = λ given. Some Vcd })) (from-sat word) (λ given. tt)
    (choose (bytes_eq word (codes "sat")) (Some (record { names = sat_names; asks = sat_of })) (from-slack word) sat-accepted
    (choose (bytes_eq word (codes "slack")) (Some (record { names = slack_names; asks = slack_of })) None slack-accepted tt))))))))

pub given-accepted : (names words : List (List ℕ)) (asks : List Given → Option Asked) → ((given : List Given) → IfSome (asks given) IsAccepted)
    → IfSome (if_read (given_of names words) asks) IsAccepted
given-accepted names words asks accepts = go (given_of names words)
  where
    go : (o : Option (List Given)) → IfSome (if_read o asks) IsAccepted
    go None = tt
    go (Some given) = accepts given

words-accepted : (words : List (List ℕ)) → IfSome (asked_of words) IsAccepted
words-accepted [] = tt
words-accepted (word ∷ words) = go (command_named word) (named-accepted word)
  where
    go : (command : Option Command) → Accepts command
        → IfSome (if_read command (λ (c : Command). if_read (given_of c.names words) c.asks)) IsAccepted
    go None accepts = tt
    go (Some command) accepts = given-accepted command.names words command.asks accepts

-- what words ask is accepted
pub accepted-asked : (words : List (List ℕ)) (asked : Asked) → asked_of words ≡ Some asked → IsAccepted asked
accepted-asked words asked e = subst (λ (o : Option Asked). IfSome o IsAccepted) e (words-accepted words)

-- and so is what is read
pub read-accepted : (said : Option Asked) (result : Result Asked ValueEnd) → Reads said result → IfSome said IsAccepted → IfOk result IsAccepted
read-accepted said (Ok asked) reads accepted = subst (λ (o : Option Asked). IfSome o IsAccepted) reads accepted
read-accepted said (Err end) reads accepted = tt
