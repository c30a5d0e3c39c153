use Rattle.std.proofs.Common.{◌∙◌, ap, sym}
use Rattle.std.proofs.lemmas.Bool.{false≢true}
use Rattle.kern_syntax.specs.declared.program.Function.{Function}
use Rattle.lab_kits.proofs.Named.{called-there}
use Rattle.lab_kits.proofs.calls.has_call.Goals as goal

pub returns-in-Some : goal.returns-in-Some
returns-in-Some c =
    called-there
    c.args.compiled.now.0
    c.functions.result.now
    (c.functions.ensures ∙ c.program.ensures.kept ∙ c.checked.ensures.kept)
    c.args.name.now
    c.in-Some.number
    (sym c.in-Some.ensures.place)
    c.index-functions-number.result
    c.args.args.now
    c.items.result.now
    c.arguments_fit.result
    (c.items.ensures ∙ ap (λ (f : Function). f.parameters) c.index-functions-number.is)
    (c.in-Some.ensures.takes c.args.args.now)
    c.arguments_fit.ensures

pub returns-in-None : goal.returns-in-None
returns-in-None c =
    (λ so. absurd (false≢true so), λ has. absurd (false≢true (c.in-None.ensures.there c.args.args.now has)))
