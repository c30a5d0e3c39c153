use Rattle.std.proofs.Common.{◌≡◌, length, sym, ap, ◌∙◌}
use Rattle.std.proofs.lemmas.Bool.{eqb-true}
use Rattle.serde_json.specs.Read.{read}
use Rattle.serde_json.specs.View.{view}
use Rattle.exp_json.specs.declared.session.SessionFault.TheVariants as S
use Rattle.json_fields.specs.Readings.{fault}
use Rattle.exp_json.specs.Sessions.{session}
use Rattle.exp_json.specs.Texts.{IsValueOf}
use Rattle.exp_json.proofs.Served.{served}
use Rattle.exp_json.proofs.Texts.{empty-unread, field-fault}
use Rattle.exp_json.proofs.session.read_session.Goals as goal

pub returns-then-is_empty-clause-json : goal.returns-then-is_empty-clause-json
returns-then-is_empty-clause-json c = λ same d value.
    let text : c.in-Ok.text.now ≡ c.args.bytes.now = c.in-Ok.ensures.cases.0 in
    let none : length c.in-Ok.text.now ≡ 0 = eqb-true (length c.in-Ok.text.now) 0 (sym c.if-is_empty.ensures) in
    empty-unread c.args.bytes.now d (ap length (sym text) ∙ none) value

pub returns-in-Ok-session-clause-ok : goal.returns-in-Ok-session-clause-ok
returns-in-Ok-session-clause-ok c =
    let text : c.in-Ok.text.now ≡ c.args.bytes.now = c.in-Ok.ensures.cases.0 in
    let value : IsValueOf c.args.bytes.now (view c.in-Ok-from_str.value) = (c.in-Ok.ensures.cases.1, ap read (sym text) ∙ c.in-Ok-from_str.ensures.ok) in
    (view c.in-Ok-from_str.value, (value, c.in-Ok-session.ensures))

pub returns-in-Ok-session-clause-served : goal.returns-in-Ok-session-clause-served
returns-in-Ok-session-clause-served c = served (view c.in-Ok-from_str.value) c.in-Ok-session.session c.in-Ok-session.ensures

pub returns-clause-field : goal.returns-clause-field
returns-clause-field c = λ path kind same.
    let text : c.in-Ok.text.now ≡ c.args.bytes.now = c.in-Ok.ensures.cases.0 in
    let value : IsValueOf c.args.bytes.now (view c.in-Ok-from_str.value) = (c.in-Ok.ensures.cases.1, ap read (sym text) ∙ c.in-Ok-from_str.ensures.ok) in
    let inner : c.field_fault.result ≡ S.Field path kind = cc in
    let bad : session (view c.in-Ok-from_str.value) ≡ fault c.in-Err-Fault.path c.in-Err-Fault.kind = rw c.in-Err-Fault.field-0-is at c.in-Err-Fault.ensures in
    field-fault c.args.bytes.now (view c.in-Ok-from_str.value) c.in-Err-Fault.path c.in-Err-Fault.kind c.field_fault.result path kind value bad c.field_fault.ensures inner
