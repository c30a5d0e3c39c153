use Rattle.std.proofs.Common.{rules, sym, subst, ◌++◌, [], ◌∷◌, arith}
use Rattle.std.proofs.lemmas.Grind.{common_steps}
use Rattle.rtio_input.specs.Channel.{InputsState}
use Rattle.rtio_input.specs.Past.{Reset, InputsStandFor}
use Rattle.rtio_input.proofs.Standing.{stands-reset}
use Rattle.rtio_input.proofs.inputs.Inputs.reset.Goals as goal

pub returns-clause-after : goal.returns-clause-after
returns-clause-after c = first_of (search rules, grind (arith, common_steps))

pub returns-clause-stands : goal.returns-clause-stands
returns-clause-stands c = λ script outputs steps counter stands.
    subst (λ (x : InputsState). InputsStandFor x script outputs (steps ++ Reset counter ∷ []) counter) (sym (returns-clause-after c))
    (stands-reset c.args.self.now script outputs steps counter stands)
