-- How a function is entered: by a call, and argument by argument.
use Rattle.std.specs.Prelude.{ℕ, zero, suc, List, [], ◌∷◌, ℤ}
use Rattle.rtio_types.specs.declared.outcome.Exc.TheVariants.{StackOverflow}
use Rattle.rtio_types.specs.declared.request.Value.{Value}
use Rattle.rtio_types.specs.declared.request.Value.TheVariants as W
use Rattle.kern_calls.specs.declared.types.ValueType.{ValueType}
use Rattle.timeline_sem.specs.Actions.{Action, raised, give, stop, take_unit, ◌>>◌}
use Rattle.timeline_sem.specs.Programs.{initial_value}

-- the value that the next name starts with: the next argument, if there is one
abbrev pub first_value : ValueType → List ℤ → Value
first_value t [] = initial_value t
first_value t (arg ∷ args) = W.Int arg

-- the arguments behind the first
abbrev pub later_args : List ℤ → List ℤ
later_args [] = []
later_args (arg ∷ args) = args

-- a call, where so many further functions may be active: it takes a unit, and
-- then raises, or gives how many may be active beside the one that it enters
abbrev pub enter_call : (room : ℕ) → Action ℕ
enter_call zero = take_unit >> stop (raised StackOverflow)
enter_call (suc room) = take_unit >> give room
