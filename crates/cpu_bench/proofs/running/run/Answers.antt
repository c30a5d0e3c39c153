use Rattle.std.proofs.Common.{[], ◌∙◌, ap, rules}
use Rattle.std.specs.Int.{w64}
use Rattle.std.specs.Int.RustNames.{FitsSigned}
use Rattle.std.proofs.lemmas.Int.{to_z-of_z}
use Rattle.core_isa.specs.declared.code.Code.{Code}
use Rattle.cpu_bench.proofs.Ended.{ends_so, start}
use Rattle.cpu_bench.proofs.running.run.Goals as goal

pub returns-in-Ended : goal.returns-in-Ended
returns-in-Ended c =
    let fits : FitsSigned w64 c.cursor.result = search rules in
    ends_so
    c.args.code.now
    c.from.result
    c.args.units
    c.advance.new.self
    c.in_ok-outcome.field-0
    c.in-Ended.outcome
    c.steps.result
    c.units.result
    _
    (c.from.ensures ∙ ap (λ (code : Code). code.main) c.code.ensures.value)
    (c.advance.ensures.code ∙ c.in_ok-cpu.ensures.code)
    (c.in_ok-outcome.ensures.stops (start c.from.result c.args.units) [] [] c.in_ok-cpu.ensures.begins)
    c.in-Ended.is
    c.steps.ensures
    c.units.ensures
    (to_z-of_z w64 c.cursor.result fits ∙ c.cursor.ensures)
