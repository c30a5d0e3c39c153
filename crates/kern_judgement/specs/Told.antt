-- What a scope tells of the names and functions that a statement may speak of.
use Rattle.std.specs.Prelude.{◌≡◌, Some}
use Rattle.kern_syntax.specs.Tree.{Bytes, FunctionTree}
use Rattle.kern_calls.specs.declared.types.ValueType.{ValueType}
use Rattle.kern_calls.specs.Calls.{look_up}
use Rattle.kern_calls.specs.Types.{Names, Scope, function_named}
use Rattle.kern_expression_types.specs.Before.{Functions}

-- the scope tells of each of these names the same type
abbrev pub TellsNames : Names → Scope → Type 0
TellsNames names scope =
    (x : Bytes) (t : ValueType) → look_up names x ≡ Some t → look_up scope.names x ≡ Some t

-- the scope tells of each function that may be called the same
abbrev pub TellsFunctions : Functions → Scope → Type 0
TellsFunctions functions scope =
    (x : Bytes) (f : FunctionTree) → function_named functions.callable x ≡ Some f → function_named scope.program x ≡ Some f
