use Rattle.core_image.proofs.Faults.{wrong}
use Rattle.core_image.proofs.Images.{all_read, some_left, within, few_before, fault_at_stop, no_image_stops, nothing_wrong, fault_is_there}
use Rattle.core_image.proofs.decoding.end_without_memory.Goals as goal

pub fault_at-requires-clause-within : goal.fault_at-requires-clause-within
fault_at-requires-clause-within c = within _ _ (some_left _ _ _ _ c.in-Ok.ensures.1 c.is_empty.ensures c.if-is_empty.false)

pub fault_at-requires-clause-few : goal.fault_at-requires-clause-few
fault_at-requires-clause-few c = few_before _ _ (some_left _ _ _ _ c.in-Ok.ensures.1 c.is_empty.ensures c.if-is_empty.false)

pub fault_at-requires-in-Err-clause-within : goal.fault_at-requires-in-Err-clause-within
fault_at-requires-in-Err-clause-within c = within _ _ (wrong c.in-Err.ensures)

pub fault_at-requires-in-Err-clause-few : goal.fault_at-requires-in-Err-clause-few
fault_at-requires-in-Err-clause-few c = few_before _ _ (wrong c.in-Err.ensures)

pub returns-in-Ok-clause-refused : goal.returns-in-Ok-clause-refused
returns-in-Ok-clause-refused c = λ place fault.
    absurd (nothing_wrong _ _ place (all_read _ _ _ _ c.in-Ok.ensures.1 c.is_empty.ensures c.if-is_empty.true) fault)

pub returns-in-Ok-2-clause-only : goal.returns-in-Ok-2-clause-only
returns-in-Ok-2-clause-only c = λ code in_range is.
    absurd (no_image_stops _ _ code (some_left _ _ _ _ c.in-Ok.ensures.1 c.is_empty.ensures c.if-is_empty.false) in_range is)

pub returns-in-Ok-2-clause-fault : goal.returns-in-Ok-2-clause-fault
returns-in-Ok-2-clause-fault c =
    rw (c.fault_at.ensures) (fault_at_stop _ _ (some_left _ _ _ _ c.in-Ok.ensures.1 c.is_empty.ensures c.if-is_empty.false))

pub returns-in-Ok-2-clause-refused : goal.returns-in-Ok-2-clause-refused
returns-in-Ok-2-clause-refused c = λ place fault.
    fault_is_there _ _ _ place (some_left _ _ _ _ c.in-Ok.ensures.1 c.is_empty.ensures c.if-is_empty.false) c.fault_at.ensures fault

pub returns-in-Err-clause-only : goal.returns-in-Err-clause-only
returns-in-Err-clause-only c = λ code in_range is. absurd (no_image_stops _ _ code (wrong c.in-Err.ensures) in_range is)

pub returns-in-Err-clause-fault : goal.returns-in-Err-clause-fault
returns-in-Err-clause-fault c = rw (c.fault_at-in-Err.ensures) (fault_at_stop _ _ (wrong c.in-Err.ensures))

pub returns-in-Err-clause-refused : goal.returns-in-Err-clause-refused
returns-in-Err-clause-refused c = λ place fault. fault_is_there _ _ _ place (wrong c.in-Err.ensures) c.fault_at-in-Err.ensures fault
