use Rattle.std.proofs.Common.{◌∙◌}
use Rattle.kernel_session.proofs.Taking.{takes_none, takes_there}
use Rattle.kernel_session.proofs.arguments.takes_arguments.Goals as goal

pub returns-then-index-functions : goal.returns-then-index-functions
returns-then-index-functions c =
    takes_there
    c.args.compiled.now.0
    c.functions-functions.result.now
    (c.functions-functions.ensures ∙ c.program.ensures.kept ∙ c.checked.ensures.kept)
    c.args.function
    c.args.args.now
    c.index-functions-index.result
    c.items.result.now
    c.arguments_fit.result
    c.if-index-functions.true
    c.items.ensures
    c.arguments_fit.ensures

pub returns-else-index-functions : goal.returns-else-index-functions
returns-else-index-functions c =
    takes_none
    c.args.compiled.now.0
    c.functions-functions.result.now
    (c.functions-functions.ensures ∙ c.program.ensures.kept ∙ c.checked.ensures.kept)
    c.args.function
    c.args.args.now
    c.if-index-functions.false
