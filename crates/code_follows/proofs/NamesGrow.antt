-- A function's names begin with its parameters: a statement only adds names behind those that are there.
use Rattle.std.proofs.Common.{◌≡◌, suc, List, [], ◌∷◌, ◌++◌, length, map, refl, sym, ◌∙◌, ap, subst, arith, append_assoc, append-nil}
use Rattle.std.specs.Prelude.{Bool, true, false, ℤ, pos, is_some, if◌then◌else◌}
use Rattle.kern_syntax.specs.declared.program.DeclaredType.{DeclaredType}
use Rattle.kern_syntax.specs.declared.program.DeclaredType.TheVariants as D
use Rattle.kern_syntax.specs.Tree.{Bytes, Statement, assign, assign_repeated, assign_list, if_then, while_do, for_range, parallel, sequential, record_as, try_do, Block, done, line_then, Otherwise, no_else, else_do, elif_then, Handlers, no_handler, except_then, ParameterTree, FunctionTree, ProgramTree}
use Rattle.kern_calls.specs.declared.types.ValueType.{ValueType}
use Rattle.kern_calls.specs.Calls.{look_up}
use Rattle.kern_calls.specs.Types.{Names, declared_type, with_name, names_after, names_after_block, names_after_otherwise, names_after_handlers, names_of}
use Rattle.code_follows.specs.Stands.{Fits64}
use Rattle.kern_arguments.specs.Fitting.{ArgumentFits, ArgumentsFit}
use Rattle.code_follows.proofs.Variables.{IsScalar}
use Rattle.code_follows.proofs.Entering.{TakesFirst}

-- these names begin with those
abbrev pub Grows : Names → Names → Type 0
Grows names names' = (more : Names) × (names' ≡ names ++ more)

grows_same : (names : Names) → Grows names names
grows_same names = ([], sym (append-nil names))

grows_then : (a b c : Names) → Grows a b → Grows b c → Grows a c
grows_then a b c g h = (g.0 ++ h.0, h.1 ∙ ap (λ l. l ++ h.0) g.1 ∙ append_assoc a g.0 h.0)

grows_by : (t : Bool) (names : Names) (entry : Bytes × ValueType) → Grows names (if t then names else names ++ entry ∷ [])
grows_by true names entry = grows_same names
grows_by false names entry = (entry ∷ [], refl)

grows_with : (names : Names) (x : Bytes) (t : ValueType) → Grows names (with_name names x t)
grows_with names x t = grows_by (is_some (look_up names x)) names (x, t)

module _ (program : ProgramTree) where
  mutual
    grows_after : (s : Statement) (names : Names) → Grows names (names_after program s names)
    grows_after (assign x e) names = grows_with names x _
    grows_after (assign_repeated x e n) names = grows_with names x _
    grows_after (assign_list x es) names = grows_with names x _
    grows_after (if_then c b rest) names =
        grows_then names _ _ (grows_after_block b names) (grows_after_otherwise rest (names_after_block program b names))
    grows_after (while_do c b) names = grows_after_block b names
    grows_after (for_range x from to b) names = grows_then names _ _ (grows_with names x _) (grows_after_block b _)
    grows_after (parallel b) names = grows_after_block b names
    grows_after (sequential b) names = grows_after_block b names
    grows_after (record_as n b) names = grows_after_block b names
    grows_after (try_do b handlers) names =
        grows_then names _ _ (grows_after_block b names) (grows_after_handlers handlers (names_after_block program b names))
    grows_after _ names = grows_same names

    pub grows_after_block : (b : Block) (names : Names) → Grows names (names_after_block program b names)
    grows_after_block done names = grows_same names
    grows_after_block (line_then line s rest) names =
        grows_then names _ _ (grows_after s names) (grows_after_block rest (names_after program s names))

    grows_after_otherwise : (rest : Otherwise) (names : Names) → Grows names (names_after_otherwise program rest names)
    grows_after_otherwise no_else names = grows_same names
    grows_after_otherwise (else_do b) names = grows_after_block b names
    grows_after_otherwise (elif_then line c b rest) names =
        grows_then names _ _ (grows_after_block b names) (grows_after_otherwise rest (names_after_block program b names))

    grows_after_handlers : (handlers : Handlers) (names : Names) → Grows names (names_after_handlers program handlers names)
    grows_after_handlers no_handler names = grows_same names
    grows_after_handlers (except_then line x b rest) names =
        grows_then names _ _ (grows_after_block b names) (grows_after_handlers rest (names_after_block program b names))

fits_wider : (t : DeclaredType) (a : ℤ) → ArgumentFits t a → Fits64 a
fits_wider D.Int32 a f = grind (arith, f)
fits_wider D.Int64 a f = f
fits_wider D.Bool a f = let small = f.2 in let g : Fits64 (pos f.0) = grind (arith, small) in subst Fits64 (sym f.1) g

pub scalar_declared : (t : DeclaredType) → IsScalar (declared_type t)
scalar_declared D.Int32 = tt
scalar_declared D.Int64 = tt
scalar_declared D.Bool = tt

takes_parameters : (ps : List ParameterTree) (more : Names) (args : List ℤ) → ArgumentsFit ps args → TakesFirst (map (λ p. (p.name, declared_type p.declared)) ps ++ more) args
takes_parameters [] more [] f = tt
takes_parameters (p ∷ ps) more (a ∷ args) f =
    (scalar_declared p.declared, fits_wider p.declared a f.0, takes_parameters ps more args f.1)
takes_parameters [] more (a ∷ args) f = absurd f
takes_parameters (p ∷ ps) more [] f = absurd f

-- the arguments of a function are the first values of its names
pub takes_arguments : (program : ProgramTree) (f : FunctionTree) (args : List ℤ) → ArgumentsFit f.parameters args → TakesFirst (names_of program f) args
takes_arguments program f args fit =
    let first = map (λ p. (p.name, declared_type p.declared)) f.parameters in
    let g = grows_after_block program f.body first in
    subst (λ ns. TakesFirst ns args) (sym g.1) (takes_parameters f.parameters g.0 args fit)

-- as many arguments as parameters
pub as_many : (ps : List ParameterTree) (args : List ℤ) → ArgumentsFit ps args → length ps ≡ length args
as_many [] [] f = refl
as_many (p ∷ ps) (a ∷ args) f = ap suc (as_many ps args f.1)
as_many [] (a ∷ args) f = absurd f
as_many (p ∷ ps) [] f = absurd f
