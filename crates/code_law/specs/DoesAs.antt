-- What it means that code does what a program does.
use Rattle.std.specs.Prelude.{◌≡◌, ℕ, ◌*◌, ◌≤◌, List, ℤ, length, slice_get, Some, is_some, codes}
use Rattle.rtio_types.specs.declared.request.Reply.{Reply}
use Rattle.kern_syntax.specs.Nodes.{program_nodes}
use Rattle.kern_syntax.specs.Tree.{FunctionTree, ProgramTree}
use Rattle.core_isa.specs.declared.code.Code.{Code}
use Rattle.core_isa.specs.declared.code.CodeFunction.{CodeFunction}
use Rattle.core_isa.specs.Marks.{Marked}
use Rattle.core_image.specs.Accepted.{MainTakesNothing}
use Rattle.core_image.specs.Ranges.{IsInRange}
use Rattle.code_meaning.specs.Laws.{IsLawfulStart, RunsAsMeant}

-- the code has the program's functions at the same indexes: each
-- takes as many arguments, and leaves a value where it has one
pub record HasFunctions (program : ProgramTree) (code : Code) : Type 0 where
  pub count : length code.functions ≡ length program
  pub each : (k : ℕ) (f : FunctionTree)
      → slice_get program k ≡ Some f
      → (g : CodeFunction)
      × (slice_get code.functions k ≡ Some g)
      × (g.params ≡ length f.parameters)
      × (g.value ≡ is_some f.result)

-- The code is accepted: its fields are in their ranges, its marks are right at every place, and its main function takes
-- no arguments. It has the program's functions, its main function is the program's `main`, and it has at most 16
-- instructions for each node of the program's tree. From every function, under arguments that fit it, at any cursor,
-- with any units and under any replies that fit their requests, a run of it asks what the function means, in the same
-- order, and ends so, at the same cursor and with the same units left.
pub record DoesAs (program : ProgramTree) (code : Code) : Type 0 where
  pub in_range : IsInRange code
  pub marked : Marked code
  pub main_takes_nothing : MainTakesNothing code
  pub functions : HasFunctions program code
  pub main : (f : FunctionTree) × (slice_get program code.main ≡ Some f) × (f.name ≡ codes "main")
  pub short : length code.lines ≤ 16 * program_nodes program
  pub agrees : (f : FunctionTree) (function : ℕ) (args : List ℤ) (cursor : ℤ) (units : ℕ) (replies : List Reply)
      → IsLawfulStart program f function args cursor units replies
      → RunsAsMeant program code function args cursor units replies
