-- Which handler an exception goes to.
use Rattle.std.specs.Prelude.{Option, Some, None, bytes_eq, if◌then◌else◌}
use Rattle.rtio_types.specs.declared.outcome.Exc.{Exc}
use Rattle.kern_syntax.specs.Tree.{Block, Handlers, no_handler, except_then}
use Rattle.timeline_sem.specs.Statements.{name_of_exception}

-- the block of the first handler with the exception's name
abbrev pub handler_of : Handlers → Exc → Option Block
handler_of no_handler x = None
handler_of (except_then line name body rest) x =
    if bytes_eq name (name_of_exception x) then Some body else handler_of rest x
