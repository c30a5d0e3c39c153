use Rattle.std.proofs.Common.{map, subst, sym}
use Rattle.kern_syntax.specs.TreeOf.{function_of, parameter_of}
use Rattle.kern_names.specs.Parameters.{AreNew}
use Rattle.kern_names.specs.ScopeOf.{program_of}
use Rattle.kern_names.proofs.Typed.{HasOwnNames, typed_own}
use Rattle.kern_names.proofs.local_names.names_of.Goals as goal

pub add_parameters-requires : goal.add_parameters-requires
add_parameters-requires c =
    let f = c.args.function.now in
    let own : HasOwnNames (function_of f) = typed_own (program_of c.args.functions.now) c.args.functions.now.typed (function_of f) c.requires in
    let none : AreNew c.new-names.result (map parameter_of f.parameters) = subst (λ ns. AreNew ns (map parameter_of f.parameters)) (sym c.new-names.ensures) own.parameters in
    subst (λ ps. AreNew c.new-names.result (map parameter_of ps)) (sym c.items.ensures) none

pub add_block-requires : goal.add_block-requires
add_block-requires c =
    (typed_own (program_of c.args.functions.now) c.args.functions.now.typed (function_of c.args.function.now) c.requires).arrays
