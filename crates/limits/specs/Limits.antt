-- The numbers that the board, options, texts and sessions keep to, and those that stand where an option isn't given.
use Rattle.std.specs.Prelude.{ℕ, ◌-◌, ◌^◌}

-- ---- the board

-- the channels are 0 to 31
abbrev pub channels : ℕ
channels = 32

abbrev pub last_channel : ℕ
last_channel = channels - 1

-- the channels from here on are inputs
abbrev pub first_input : ℕ
first_input = 24

-- how far ahead of a reading the cursor is put, in mu
abbrev pub lead_time : ℕ
lead_time = 125000

-- the edges of a script
abbrev pub most_edges : ℕ
most_edges = 4096

-- the stamps of edges in a script are below this, in mu
abbrev pub stamps_end : ℕ
stamps_end = 2 ^ 62

abbrev pub last_stamp : ℕ
last_stamp = stamps_end - 1

-- ---- the settings of a core

abbrev pub default_lanes : ℕ
default_lanes = 8

abbrev pub most_lanes : ℕ
most_lanes = 32

-- how many events a lane takes
abbrev pub default_depth : ℕ
default_depth = 128

abbrev pub most_depth : ℕ
most_depth = 1024

-- the cost of a request, in mu
abbrev pub most_cost : ℕ
most_cost = 1000000

-- how long a channel executes an event, in cycles
abbrev pub most_hold : ℕ
most_hold = 1000000

-- the horizon, in cycles: where none is given, and the farthest one but in lockstep
abbrev pub default_horizon : ℕ
default_horizon = 134217728

-- in lockstep a core may go farther: 2^59 cycles
abbrev pub lockstep_horizon : ℕ
lockstep_horizon = 576460752303423488

-- ---- a run

-- its units, where none are given, and at most
abbrev pub most_budget : ℕ
most_budget = 1000000

-- the recordings that are handed in
abbrev pub most_handed_in : ℕ
most_handed_in = 64

-- ---- numbers in words

abbrev pub most_digits : ℕ
most_digits = 19

-- a number of no quantity
abbrev pub most_number : ℕ
most_number = 2 ^ 63 - 1

-- ---- a program

abbrev pub most_nodes : ℕ
most_nodes = 16384

-- ---- how many bytes are read

-- of a kernel's text
abbrev pub most_text : ℕ
most_text = 1048576

abbrev pub most_image : ℕ
most_image = 8388608

abbrev pub most_dump : ℕ
most_dump = 33554432

abbrev pub most_session : ℕ
most_session = 1048576

-- ---- a session of the laboratory

-- the units of a kernel step, where none are given, and at most
abbrev pub step_budget : ℕ
step_budget = 20000

abbrev pub most_workers : ℕ
most_workers = 8

abbrev pub most_pipelines : ℕ
most_pipelines = 4

abbrev pub most_sources : ℕ
most_sources = 64

abbrev pub most_experiments : ℕ
most_experiments = 64

-- the steps of a stage
abbrev pub most_steps : ℕ
most_steps = 16

abbrev pub most_arrivals : ℕ
most_arrivals = 256

abbrev pub most_runs : ℕ
most_runs = 64

-- the arguments of a kernel step
abbrev pub most_arguments : ℕ
most_arguments = 8

-- the numbers of a list that a step sets
abbrev pub most_numbers : ℕ
most_numbers = 512

-- the greatest priority; the least is as far below 0
abbrev pub most_priority : ℕ
most_priority = 1000

-- the last clock of an arrival, and the last due date
abbrev pub last_clock : ℕ
last_clock = 2 ^ 62

-- the bytes of the name of a function
abbrev pub longest_name : ℕ
longest_name = 64
