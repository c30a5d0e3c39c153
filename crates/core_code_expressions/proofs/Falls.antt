-- The arguments of a call are less deep than the call.
use Rattle.std.proofs.Common.{rules, ◌≡◌, ◌+◌, ◌*◌, ◌<◌, List, Box, Vec, Global, false, arith}
use Rattle.kern_syntax.specs.declared.expression.Argument.{Argument}
use Rattle.kern_syntax.specs.declared.expression.Expr.{Expr}
use Rattle.kern_syntax.specs.declared.expression.Expr.TheVariants as E
use Rattle.kern_syntax.specs.declared.expression.Argument.TheFolds.{the_lemmas}
use Rattle.kern_syntax.specs.Tree.{Bytes}
use Rattle.kern_syntax.specs.TreeOf.{expression_of}
use Rattle.core_code_expressions.proofs.Put.{is_call}
use Rattle.kern_syntax.proofs.expression.Argument.TheLaws as A
use Rattle.kern_syntax.proofs.expression.Expr.TheLaws as L
use denote.Param.Weighed.{most}

-- so much that a call of them is less deep than the method's
pub method_falls : (e : Expr) (o n : Bytes) (args : Vec Argument Global) (xs : List Argument) → e ≡ E.Method o n args → xs ≡ args.items → 3 * most (λ x. A.the_size x) xs + 2 < 3 * L.the_size e + 0
method_falls e o n args xs is same = search (rules, the_lemmas)

-- what is no call and not in parentheses
pub other_call : (e : Expr) → ((x : Box Expr Global) → e ≡ E.Group x → ⊥) → ((f : Bytes) (args : Vec Argument Global) → e ≡ E.Call f args → ⊥) → ((o n : Bytes) (args : Vec Argument Global) → e ≡ E.Method o n args → ⊥) → is_call (expression_of e) ≡ false
other_call e group call method = grind (arith, the_lemmas)
