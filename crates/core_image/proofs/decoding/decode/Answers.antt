use Rattle.std.proofs.Common.{arith, ap, Err}
use Rattle.core_image.proofs.Images.{all_read, nothing_wrong, fault_is_there, some_left, only_code, read_image, within, few_before, fault_at_stop, no_image_stops, stopped}
use Rattle.core_image.proofs.decoding.decode.Goals as goal

pub fault_at-requires-clause-within : goal.fault_at-requires-clause-within
fault_at-requires-clause-within c = within _ _ (some_left _ _ _ _ c.in-Ok.ensures c.is_empty.ensures c.if-is_empty.false)

pub fault_at-requires-clause-few : goal.fault_at-requires-clause-few
fault_at-requires-clause-few c = few_before _ _ (some_left _ _ _ _ c.in-Ok.ensures c.is_empty.ensures c.if-is_empty.false)

pub fault_at-requires-in-Err-Wrong-clause-within :
    goal.fault_at-requires-in-Err-Wrong-clause-within
fault_at-requires-in-Err-Wrong-clause-within c = within _ _ (stopped c.in-Err-Wrong.field-0 _ _ c.in-Err-Wrong.field-0-is c.in-Err-Wrong.ensures)

pub fault_at-requires-in-Err-Wrong-clause-few : goal.fault_at-requires-in-Err-Wrong-clause-few
fault_at-requires-in-Err-Wrong-clause-few c = few_before _ _ (stopped c.in-Err-Wrong.field-0 _ _ c.in-Err-Wrong.field-0-is c.in-Err-Wrong.ensures)

pub returns-in-Ok-clause-in_range : goal.returns-in-Ok-clause-in_range
returns-in-Ok-clause-in_range c =
    (read_image _ _ (λ i. omega (arith, c.type_inv.bytes i)) (all_read _ _ _ _ c.in-Ok.ensures c.is_empty.ensures c.if-is_empty.true)).0

pub returns-in-Ok-clause-found : goal.returns-in-Ok-clause-found
returns-in-Ok-clause-found c =
    (read_image _ _ (λ i. omega (arith, c.type_inv.bytes i)) (all_read _ _ _ _ c.in-Ok.ensures c.is_empty.ensures c.if-is_empty.true)).1

pub returns-in-Ok-clause-only : goal.returns-in-Ok-clause-only
returns-in-Ok-clause-only c = λ code in_range is.
    only_code c.in-Ok.code code _ (all_read _ _ _ _ c.in-Ok.ensures c.is_empty.ensures c.if-is_empty.true) in_range is

pub returns-in-Ok-2-clause-only : goal.returns-in-Ok-2-clause-only
returns-in-Ok-2-clause-only c = λ code in_range is.
    absurd (no_image_stops _ _ code (some_left _ _ _ _ c.in-Ok.ensures c.is_empty.ensures c.if-is_empty.false) in_range is)

pub returns-in-Ok-2-clause-fault : goal.returns-in-Ok-2-clause-fault
returns-in-Ok-2-clause-fault c =
    rw (c.fault_at.ensures) (fault_at_stop _ _ (some_left _ _ _ _ c.in-Ok.ensures c.is_empty.ensures c.if-is_empty.false))

pub returns-in-Err-Wrong-clause-only : goal.returns-in-Err-Wrong-clause-only
returns-in-Err-Wrong-clause-only c = λ code in_range is. absurd (no_image_stops _ _ code (stopped c.in-Err-Wrong.field-0 _ _ c.in-Err-Wrong.field-0-is c.in-Err-Wrong.ensures) in_range is)

pub returns-in-Err-Wrong-clause-fault : goal.returns-in-Err-Wrong-clause-fault
returns-in-Err-Wrong-clause-fault c = rw (c.fault_at-in-Err-Wrong.ensures) (fault_at_stop _ _ (stopped c.in-Err-Wrong.field-0 _ _ c.in-Err-Wrong.field-0-is c.in-Err-Wrong.ensures))

pub returns-in-Ok-clause-refused : goal.returns-in-Ok-clause-refused
returns-in-Ok-clause-refused c = λ place fault.
    absurd (nothing_wrong _ _ place (all_read _ _ _ _ c.in-Ok.ensures c.is_empty.ensures c.if-is_empty.true) fault)

pub returns-in-Ok-2-clause-refused : goal.returns-in-Ok-2-clause-refused
returns-in-Ok-2-clause-refused c = λ place fault.
    ap Err (fault_is_there _ _ _ place (some_left _ _ _ _ c.in-Ok.ensures c.is_empty.ensures c.if-is_empty.false) c.fault_at.ensures fault)

pub returns-in-Err-Wrong-clause-refused : goal.returns-in-Err-Wrong-clause-refused
returns-in-Err-Wrong-clause-refused c = λ place fault.
    ap Err (fault_is_there _ _ _ place (stopped c.in-Err-Wrong.field-0 _ _ c.in-Err-Wrong.field-0-is c.in-Err-Wrong.ensures) c.fault_at-in-Err-Wrong.ensures fault)

pub returns-in-Err-Memory-clause-refused : goal.returns-in-Err-Memory-clause-refused
returns-in-Err-Memory-clause-refused c = λ place fault. ap Err (c.end_without_memory.ensures.refused place fault)
