-- How a function is entered: by a call, and argument by argument.
use Rattle.std.specs.Prelude.{ℕ, zero, suc, Option, Some, None}
use Rattle.rtio_types.specs.declared.outcome.Exc.TheVariants.{StackOverflow}
use Rattle.kern_calls.specs.declared.types.ValueType.{ValueType}
use Rattle.slack_meaning.specs.declared.span.Span.{Span}
use Rattle.slack_meaning.specs.Actions.{Held, number, Action, raised, give, stop, take_unit, ◌>>◌}
use Rattle.slack_meaning.specs.Programs.{initial_value}

-- the value that a name starts with: its argument, if there is one
abbrev pub first_value : ValueType → Option Span → Held
first_value t None = initial_value t
first_value t (Some arg) = number arg

-- a call, where so many further functions may be active: it takes a unit, and
-- then raises, or gives how many may be active beside the one that it enters
abbrev pub enter_call : (room : ℕ) → Action ℕ
enter_call zero = take_unit >> stop (raised StackOverflow)
enter_call (suc room) = take_unit >> give room
