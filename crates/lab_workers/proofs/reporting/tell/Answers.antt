use Rattle.std.proofs.Common.{◌∙◌}
use Rattle.std.proofs.lemmas.Result.{on_err_weaker, on_ok_weaker}
use Rattle.stage_work.specs.Reports.{act_told, job_told}
use Rattle.lab_workers.proofs.Holdings.{follows-put, put-grew}
use Rattle.lab_workers.proofs.Telling.{has-told, tell-flies, tell-right, told-or-not, untold}
use Rattle.lab_workers.proofs.reporting.tell.Goals as goal

-- the job flies still
pub write_report-told-requires-clause-flies : goal.write_report-told-requires-clause-flies
write_report-told-requires-clause-flies g c =
    tell-flies c.args.desks.now.session c.args.chair.now c.take-held.result.value c.value-sched.result.now c.number-who.result
    c.number-who.ensures c.value-sched.ensures.value (c.take-held.ensures.found.2 ∙ c.requires.desks.sched) c.history-known.ensures.sched
    c.take-held.ensures.found.0 c.take-held.ensures.found.1 (job_told c.args.report) c.requires.taken

-- and its report is right still
pub write_report-told-requires-clause-right : goal.write_report-told-requires-clause-right
write_report-told-requires-clause-right g c =
    tell-right c.args.desks.now.session c.args.chair.now c.take-held.result.value c.value-sched.result.now c.number-who.result
    c.number-who.ensures c.value-sched.ensures.value (c.take-held.ensures.found.2 ∙ c.requires.desks.sched) c.history-known.ensures.sched
    c.take-held.ensures.found.0 c.take-held.ensures.found.1 c.args.report c.requires.right

pub put-requires-clause-grew : goal.put-requires-clause-grew
put-requires-clause-grew g c =
    put-grew c.number-who.result c.args.chair.now c.take-held.new.chair c.take-held.new.chair.lost c.take-held.result.value c.value-sched.result.now
    c.write_report-told.new.sched c.number-who.ensures c.take-held.ensures.held.0 c.value-sched.ensures.value
    (told-or-not c.write_report-told.result c.number-who.result
    (act_told c.value-sched.result.now.session c.value-sched.result.now.history c.args.report)
    c.value-sched.result.now c.write_report-told.new.sched
    c.write_report-told.ensures.ok c.write_report-told.ensures.err)

pub returns-clause-told : goal.returns-clause-told
returns-clause-told g c =
    on_ok_weaker c.write_report-told.result
    (λ went. has-told c.args.desks.now.session c.args.chair.now c.take-held.result.value c.value-sched.result.now c.number-who.result
    c.number-who.ensures c.value-sched.ensures.value (c.take-held.ensures.found.2 ∙ c.requires.desks.sched) c.history-known.ensures.sched
    c.take-held.ensures.found.0 c.take-held.ensures.found.1
    c.take-held.new.chair c.put.new.chair c.take-held.new.chair.lost c.write_report-told.new.sched c.args.report
    c.take-held.ensures.held.0 c.put.ensures c.requires.right went)
    c.write_report-told.ensures.ok

pub returns-clause-follows : goal.returns-clause-follows
returns-clause-follows g c =
    let went =
    told-or-not c.write_report-told.result c.number-who.result
    (act_told c.value-sched.result.now.session c.value-sched.result.now.history c.args.report)
    c.value-sched.result.now c.write_report-told.new.sched
    c.write_report-told.ensures.ok c.write_report-told.ensures.err in
    follows-put c.args.chair.now c.take-held.new.chair c.put.new.chair c.take-held.new.chair.lost c.take-held.result.value c.value-sched.result.now
    c.write_report-told.new.sched c.number-who.result went.0
    c.number-who.ensures c.take-held.ensures.held.0 c.value-sched.ensures.value went.1 c.put.ensures c.take-held.ensures.found.0

pub returns-clause-untold : goal.returns-clause-untold
returns-clause-untold g c =
    on_err_weaker c.write_report-told.result
    (untold c.args.desks.now.session c.args.chair.now c.take-held.result.value c.value-sched.result.now c.number-who.result
    c.number-who.ensures c.value-sched.ensures.value (c.take-held.ensures.found.2 ∙ c.requires.desks.sched) c.history-known.ensures.sched
    c.take-held.ensures.found.0 c.take-held.ensures.found.1
    c.take-held.new.chair c.put.new.chair c.take-held.new.chair.lost c.write_report-told.new.sched c.take-held.ensures.held.0 c.put.ensures)
    c.write_report-told.ensures.err
