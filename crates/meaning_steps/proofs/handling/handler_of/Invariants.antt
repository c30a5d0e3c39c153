use Rattle.std.proofs.Common.{◌≡◌, drop}
use Rattle.kern_syntax.specs.TreeOf.{handlers_of}
use Rattle.meaning_steps.specs.Handling.{handler_of}
use Rattle.meaning_steps.proofs.handling.handler_of.Given as goal

abbrev pub invariant-loop-handler : goal.invariant-loop-handler
invariant-loop-handler l =
    handler_of (handlers_of l.fn.handlers) l.fn.exception ≡ handler_of (handlers_of (drop l.handler-index l.fn.handlers)) l.fn.exception
