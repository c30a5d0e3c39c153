-- The parameters of a function among its names.
use Rattle.std.specs.Prelude.{◌≡◌, List, [], ◌∷◌, ◌++◌, map, None}
use Rattle.kern_syntax.specs.Tree.{ParameterTree}
use Rattle.kern_calls.specs.Calls.{look_up}
use Rattle.kern_calls.specs.Types.{Names, declared_type}

-- names, and parameters with their types behind them
abbrev pub named_parameters : Names → List ParameterTree → Names
named_parameters names parameters = names ++ map (λ p. (p.name, declared_type p.declared)) parameters

-- each parameter has a name that is neither among these nor that of a parameter before it
abbrev pub AreNew : Names → List ParameterTree → Type 0
AreNew names [] = Unit {0}
AreNew names (p ∷ rest) =
    (look_up names p.name ≡ None) × AreNew (names ++ (p.name, declared_type p.declared) ∷ []) rest
