use Rattle.std.proofs.Common.{sym, ◌∙◌, ap}
use Rattle.sched_state.specs.Reports.{after_kernel}
use Rattle.sched_state.proofs.ending.kernel_end.Goals as goal

pub returns-in-Returned : goal.returns-in-Returned
returns-in-Returned c = λ state. c.goes_on.ensures state ∙ sym (ap (λ how. after_kernel how state) c.in-Returned.is)

pub returns-in-Raised : goal.returns-in-Raised
returns-in-Raised c = λ state. c.fails.ensures state ∙ sym (ap (λ how. after_kernel how state) c.in-Raised.is)

pub returns-in-Budget : goal.returns-in-Budget
returns-in-Budget c = λ state. c.fails-in-Budget.ensures state ∙ sym (ap (λ how. after_kernel how state) c.in-Budget.is)

pub returns-in-Horizon : goal.returns-in-Horizon
returns-in-Horizon c = λ state. c.fails-in-Horizon.ensures state ∙ sym (ap (λ how. after_kernel how state) c.in-Horizon.is)
