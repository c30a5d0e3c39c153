use Rattle.std.proofs.Common.{◌≡◌, ◌||◌, sym, ap, ◌∙◌, is_some}
use Rattle.kern_syntax.specs.TreeOf.{tree_of}
use Rattle.kern_calls.specs.Types.{function_named}
use Rattle.kern_expression_types.specs.Before.{is_in}
use Rattle.kern_expression_types.proofs.Pairs.{is_in-functions}
use Rattle.kern_expression_types.proofs.known.Known.is_taken.Goals as goal

pub returns-else-is_reserved : goal.returns-else-is_reserved
returns-else-is_reserved c =
    let self = c.args.self.now in
    let x = c.args.name.now in
    let named : c.contains.result ≡ is_some (function_named (tree_of self.functions.now) x) = c.contains.ensures ∙ ap (λ names. is_in names x) self.all_named ∙ is_in-functions self.functions.now x in
    named ∙ sym (ap (λ b. b || is_some (function_named (tree_of self.functions.now) x)) (sym c.is_reserved.ensures ∙ c.if-is_reserved.false))
