-- The names of a function and their types, computed.
use Rattle.std.proofs.Common.{◌≡◌, List, [], ◌∷◌, Some, None, refl}
use Rattle.std.specs.Prelude.{codes}
use Rattle.kern_syntax.specs.declared.expression.BinaryOperator.TheVariants.{Add, ShiftLeft}
use Rattle.kern_syntax.specs.declared.expression.Comparison.TheVariants.{Less}
use Rattle.kern_syntax.specs.declared.program.DeclaredType.TheVariants as D
use Rattle.kern_syntax.specs.Tree.{integer, variable, binary, compare, call, method, no_more, value_then, Statement, assign, assign_repeated, for_range, Block, done, line_then, FunctionTree}
use Rattle.kern_calls.specs.declared.types.ValueType.TheVariants as V
use Rattle.kern_calls.specs.Types.{names_of}

-- statements as a block, all on line 1
abbrev lines : List Statement → Block
lines [] = done
lines (s ∷ rest) = line_then 1 s (lines rest)

-- a parameter, sums of both widths, shifts, a comparison, an array, a loop and calls of the language
abbrev assigning : FunctionTree
assigning =
    record {
      line = 1;
      name = codes "f";
      parameters = record { name = codes "a"; declared = D.Int32 } ∷ [];
      result = None;
      body = lines
          (assign (codes "b") (binary Add (variable (codes "a")) (integer 2147483647))
          ∷ assign (codes "c") (binary Add (variable (codes "b")) (integer 2147483648))
          ∷ assign (codes "d") (binary ShiftLeft (variable (codes "a")) (variable (codes "c")))
          ∷ assign (codes "e") (compare Less (variable (codes "a")) (variable (codes "c")))
          ∷ assign_repeated (codes "f") (integer 0) 4
          ∷ for_range (codes "i") None (integer 3) (lines (assign (codes "b") (integer 1) ∷ []))
          ∷ for_range (codes "j") (Some (integer 0)) (variable (codes "c")) (lines [])
          ∷ assign (codes "n") (method (codes "in0") (codes "count") (value_then (integer 50) no_more))
          ∷ assign (codes "t") (method (codes "in7") (codes "timestamp_mu") (value_then (integer 50) no_more))
          ∷ assign (codes "k") (call (codes "now_mu") no_more)
          ∷ []);
    }

assigning_names : names_of [] assigning ≡ (codes "a", V.Int32) ∷ (codes "b", V.Int32) ∷ (codes "c", V.Int64) ∷ (codes "d", V.Int32) ∷ (codes "e", V.Bool) ∷ (codes "f", V.Array 4) ∷ (codes "i", V.Int32) ∷ (codes "j", V.Int64) ∷ (codes "n", V.Int32) ∷ (codes "t", V.Int64) ∷ (codes "k", V.Int64) ∷ []
assigning_names = refl
