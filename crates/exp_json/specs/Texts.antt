-- Which bytes are a session, and which have a fault.
use Rattle.std.specs.Prelude.{◌≡◌, ℕ, List, codes, Some, IsUtf8}
use Rattle.serde_json.specs.Data.{Data}
use Rattle.serde_json.specs.Read.{read}
use Rattle.exp_model.specs.declared.session.Session.{Session}
use Rattle.json_fields.specs.declared.fault.FieldKind.{FieldKind}
use Rattle.json_fields.specs.declared.path.Part.{Part}
use Rattle.json_fields.specs.Paths.{path_text}
use Rattle.json_fields.specs.Readings.{good, fault}
use Rattle.exp_json.specs.Sessions.{session}

-- the JSON value of the bytes
abbrev pub IsValueOf : List ℕ → Data → Type 0
IsValueOf bytes d = IsUtf8 bytes × (read bytes ≡ Some d)

-- the bytes are the session
abbrev pub IsSessionText : List ℕ → Session → Type 0
IsSessionText bytes s = (d : Data) × (IsValueOf bytes d × (session d ≡ good s))

-- the bytes have a first fault, with this path and kind
abbrev pub HasFault : List ℕ → List ℕ → FieldKind → Type 0
HasFault bytes path kind =
    (d : Data) × (parts : List Part) × (IsValueOf bytes d × (session d ≡ fault parts kind) × (path ≡ path_text (codes "session") parts))
