use Rattle.std.proofs.Common.{ap, ◌∙◌}
use Rattle.core_isa.specs.Machine.{drop_if}
use Rattle.core_cpu.specs.Layout.{Held}
use Rattle.core_cpu.proofs.Raising.{code_fits, taken}
use Rattle.core_cpu.proofs.state.State.take_handler.Goals as goal

pub returns-clause-raises : goal.returns-clause-raises
returns-clause-raises c more before =
    let m = c.args.self.now.machine in
    rw
    (c.go_to.ensures, c.push.ensures, c.clear.ensures, c.remove_handler.ensures, c.number.ensures, code_fits)
    (taken
    c.args.exception
    m
    c.drop_if.new.self.machine
    c.last_handler-handler.result
    c.last_handler-handler.ensures
    (ap (λ (h : Held). h.machine) c.drop_if.ensures ∙ ap (λ b. drop_if b m) c.opened_since-since.ensures)
    more
    before)
