use Rattle.std.proofs.Common.{ap, refl, ◌∙◌}
use Rattle.std.specs.Prelude.{Err}
use Rattle.lab_program.proofs.Answering.{faulty, no-json, reported}
use Rattle.lab_program.proofs.answer.answer_to.Goals as goal

pub returns-in_ok-run_laboratory-in-Ok : goal.returns-in_ok-run_laboratory-in-Ok
returns-in_ok-run_laboratory-in-Ok g c =
    let all = reported c.no_session_has_a_fault.ensures c.args.text.now c.in_ok-run_laboratory-in-Ok.field-0.items c.in-Ok.session
    c.in-Ok.ensures.ok c.in_ok-run_laboratory-in-Ok.ensures in
    ((all.0, refl), all.1)

pub returns-in_ok-json_refusal-in-Err-Json : goal.returns-in_ok-json_refusal-in-Err-Json
returns-in_ok-json_refusal-in-Err-Json g c =
    let all = no-json c.args.text.now c.in_ok-json_refusal-in-Err-Json.field-0.items
    (c.read_session.ensures.json (c.in-Err-Json.is ∙ ap Err c.in-Err-Json.field-0-is)) c.in_ok-json_refusal-in-Err-Json.ensures in
    (refl, all.0, all.1)

pub returns-in_ok-field_refusal-in-Err-Field : goal.returns-in_ok-field_refusal-in-Err-Field
returns-in_ok-field_refusal-in-Err-Field g c =
    let all = faulty c.no_session_has_a_fault.ensures c.args.text.now c.in_ok-field_refusal-in-Err-Field.field-0.items c.in-Err-Field.path c.in-Err-Field.kind
    (c.read_session.ensures.field c.in-Err-Field.path c.in-Err-Field.kind (c.in-Err-Field.is ∙ ap Err c.in-Err-Field.field-0-is))
    c.in_ok-field_refusal-in-Err-Field.ensures in
    (refl, all.0, all.1)
