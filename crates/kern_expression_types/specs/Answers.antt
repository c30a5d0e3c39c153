-- What the checker's functions give, against the verdicts.
use Rattle.std.specs.Prelude.{◌≡◌, IsTrue, Result, Ok, Err, ⊤}
use Rattle.kern_expression_types.specs.declared.fault.TypeFault.{TypeFault}
use Rattle.kern_expression_types.specs.Verdicts.{Verdict, well, fault, is_well}

-- what a function finds is what the verdict says
abbrev pub Finds : {A : Type 0} → Result A TypeFault → Verdict A → Type 0
Finds (Ok a) verdict = verdict ≡ well a
Finds (Err found) verdict = verdict ≡ fault found.line found.kind

-- what a function leaves where it succeeds is what the verdict says
abbrev pub Leaves : {A : Type 0} → Result ⊤ TypeFault → (left : A) → Verdict A → Type 0
Leaves (Ok done) left verdict = verdict ≡ well left
Leaves (Err found) left verdict = verdict ≡ fault found.line found.kind

-- a function succeeds where the verdict has no fault, and else gives its fault
abbrev pub Passes : {A : Type 0} → Result ⊤ TypeFault → Verdict A → Type 0
Passes (Ok done) verdict = IsTrue (is_well verdict)
Passes (Err found) verdict = verdict ≡ fault found.line found.kind
