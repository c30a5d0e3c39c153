use Rattle.std.proofs.Common.{◌≡◌, ◌≢◌, ℕ, ap, subst, sym, ◌∙◌, length}
use Rattle.std.specs.Prelude.{Err}
use Rattle.lab_io.specs.Reading.{IsCountAt}
use Rattle.lab_io.specs.declared.source.ReadEnd.{ReadEnd}
use Rattle.lab_io.specs.declared.source.ReadEnd.TheVariants as End
use Rattle.top_calls.proofs.reading.read_up_to.Goals as goal

-- how much was taken by a reading that gave up so
count-at : (end other : ReadEnd) (most count : ℕ) → end ≡ other → IsCountAt end most count → IsCountAt other most count
count-at end other most count is at = subst (λ x. IsCountAt x most count) is at

too-long-no-fault : (end : ReadEnd) → end ≡ End.TooLong → end ≢ End.Fault
too-long-no-fault end is = λ other. let clash : End.TooLong ≡ End.Fault = sym is ∙ other in cc

memory-no-fault : (end : ReadEnd) → end ≡ End.Memory → end ≢ End.Fault
memory-no-fault end is = λ other. let clash : End.Memory ≡ End.Fault = sym is ∙ other in cc

pub returns-in-Ok-clause-got : goal.returns-in-Ok-clause-got
returns-in-Ok-clause-got g c =
    let read = c.in-Ok.ensures.bytes in
    (record { given = read.0; at_end = read.1; within = read.2 }, c.in-Ok.ensures.steady)

pub returns-in-Err-Fault-clause-got : goal.returns-in-Err-Fault-clause-got
returns-in-Err-Fault-clause-got g c =
    let some = c.in-Err-Fault.ensures.bytes in
    let is = c.in-Err-Fault.field-0-is in
    ((some.0, some.1, count-at _ End.Fault c.args.most (length some.0) is some.2), c.in-Err-Fault.ensures.fault (ap Err is))

pub returns-in-Err-TooLong-clause-got : goal.returns-in-Err-TooLong-clause-got
returns-in-Err-TooLong-clause-got g c =
    let some = c.in-Err-TooLong.ensures.bytes in
    let is = c.in-Err-TooLong.field-0-is in
    ((some.0, some.1, count-at _ End.TooLong c.args.most (length some.0) is some.2), c.in-Err-TooLong.ensures.steady (too-long-no-fault _ is))

pub returns-in-Err-Memory-clause-got : goal.returns-in-Err-Memory-clause-got
returns-in-Err-Memory-clause-got g c =
    let some = c.in-Err-Memory.ensures.bytes in
    let is = c.in-Err-Memory.field-0-is in
    ((some.0, some.1, count-at _ End.Memory c.args.most (length some.0) is some.2), c.in-Err-Memory.ensures.steady (memory-no-fault _ is))
