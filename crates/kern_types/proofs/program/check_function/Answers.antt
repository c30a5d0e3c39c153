use Rattle.kern_types.proofs.Passed.{names_of, passes-behind}
use Rattle.kern_types.proofs.program.check_function.Goals as goal

pub returns : goal.returns
returns c =
    passes-behind c.args.functions.now c.args.number (names_of c.args.plain.now) c.args.function.now c.check_body.result c.requires.next c.in_ok-check_name.ensures c.in_ok-refuse_if.ensures c.check_body.ensures
