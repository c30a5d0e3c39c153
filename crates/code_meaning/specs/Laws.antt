-- The law: the code of a program does what the program means.
use Rattle.std.specs.Prelude.{ℕ, List, ℤ}
use Rattle.rtio_types.specs.declared.request.Reply.{Reply}
use Rattle.kern_syntax.specs.Tree.{FunctionTree, ProgramTree}
use Rattle.code_forms.specs.Programs.{code_of_program}
pub use Rattle.code_follows.specs.Lawful.{IsLawfulStart, RunsAsMeant}

-- from every function, under arguments that fit it, at any cursor, with any units and
-- under any replies that fit their requests, the run of the code asks what the function
-- means, in the same order, and ends so, at the same cursor and with the same units
abbrev pub CodeDoesWhatItMeans : ProgramTree → Type 0
CodeDoesWhatItMeans program =
    (f : FunctionTree) (function : ℕ) (args : List ℤ) (cursor : ℤ) (units : ℕ) (replies : List Reply)
    → IsLawfulStart program f function args cursor units replies
    → RunsAsMeant program (code_of_program program) function args cursor units replies
