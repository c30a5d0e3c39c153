-- What a function gives of a fault.
use Rattle.std.specs.Prelude.{◌≡◌, List, codes}
use Rattle.exp_json.specs.declared.session.SessionFault.{SessionFault}
use Rattle.exp_json.specs.declared.session.SessionFault.TheVariants as S
use Rattle.json_fields.specs.declared.fault.FieldKind.{FieldKind}
use Rattle.json_fields.specs.declared.path.Part.{Part}
use Rattle.json_fields.specs.Paths.{path_text}

-- it is the fault of this kind with the path written out, unless memory ran out
abbrev pub IsFieldFault : List Part → FieldKind → SessionFault → Type 0
IsFieldFault parts kind S.Json = ⊥
IsFieldFault parts kind (S.Field path given) = (path ≡ path_text (codes "session") parts) × (given ≡ kind)
IsFieldFault parts kind S.Memory = Unit {0}
