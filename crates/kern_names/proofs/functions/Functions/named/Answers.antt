use Rattle.std.proofs.Common.{sym, ◌∙◌}
use Rattle.kern_names.proofs.Positions.{function_found, function_missing}
use Rattle.kern_names.proofs.functions.Functions.named.Goals as goal

pub returns-in-Some : goal.returns-in-Some
returns-in-Some c =
    let self = c.args.self.now in
    function_found self.functions.now c.args.name.now c.in-Some.number c.index-self-number.result (sym c.in-Some.is ∙ c.get.ensures ∙ self.numbered c.args.name.now)

pub returns-in-None : goal.returns-in-None
returns-in-None c =
    let self = c.args.self.now in
    function_missing self.functions.now c.args.name.now (sym c.in-None.is ∙ c.get.ensures ∙ self.numbered c.args.name.now)
