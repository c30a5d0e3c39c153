-- What is said of bytes.
use Rattle.std.proofs.Common.{◌≡◌, ℕ, List, inl, inr}
use Rattle.json_fields.specs.declared.fault.FieldKind.{FieldKind}
use Rattle.exp_model.specs.declared.session.Session.{Session}
use Rattle.exp_json.specs.Texts.{HasFault, IsSessionText}
use Rattle.lab_program.specs.Answers.{ReportsText}
use Rattle.lab_program.specs.Laboratories.{ReportsRun}
use Rattle.lab_program.specs.Refusals.{IsNoValue, IsRefusedText, field_line, json_line}

-- no bytes are a session and have a fault
abbrev pub NoneHasFault : Type 0
NoneHasFault = (bytes : List ℕ) (s : Session) (path : List ℕ) (kind : FieldKind) → IsSessionText bytes s → ¬ HasFault bytes path kind

not-refused : NoneHasFault → (text told : List ℕ) (session : Session) → IsSessionText text session → IsRefusedText text told → ⊥
not-refused none text told session is (inl value) = value.0 is.0 is.1.0
not-refused none text told session is (inr fault) = none text session fault.0 fault.1 is fault.2

pub reported : NoneHasFault → (text report : List ℕ) (session : Session) → IsSessionText text session → ReportsRun session report
    → ReportsText text report × ((told : List ℕ) → ¬ IsRefusedText text told)
reported none text report session is run = (record { session = session; is_session = is; due = run }, λ told. not-refused none text told session is)

pub faulty : NoneHasFault → (text line path : List ℕ) (kind : FieldKind) → HasFault text path kind → line ≡ field_line path kind
    → IsRefusedText text line × ¬ ((session : Session) × IsSessionText text session)
faulty none text line path kind fault is = (inr (path, kind, fault, is), λ taken. none text taken.0 path kind taken.1 fault)

pub no-json : (text line : List ℕ) → IsNoValue text → line ≡ json_line → IsRefusedText text line × ¬ ((session : Session) × IsSessionText text session)
no-json text line none is = (inl (none, is), λ taken. none taken.1.0 taken.1.1.0)
