use Rattle.sim_program.proofs.Images.{images-of, refused-for-fault}
use Rattle.sim_program.proofs.image.image_of.Goals as goal

pub returns-in-Ok : goal.returns-in-Ok
returns-in-Ok c =
    images-of c.one_image_each.ensures c.no_fault_in_an_image.ensures c.args.bytes.now c.in-Ok.code c.accept.result c.in-Ok.ensures.in_range c.in-Ok.ensures.found c.accept.ensures

pub returns-in_ok-image_refusal-in-Err-Fault : goal.returns-in_ok-image_refusal-in-Err-Fault
returns-in_ok-image_refusal-in-Err-Fault c =
    let line = rw c.in-Err-Fault.offset-is at c.in_ok-image_refusal-in-Err-Fault.ensures in
    refused-for-fault c.one_image_each.ensures c.no_fault_in_an_image.ensures c.args.bytes.now c.in_ok-image_refusal-in-Err-Fault.field-0.items c.in-Err-Fault.field-0 c.in-Err-Fault.offset c.in-Err-Fault.field-0-is c.in-Err-Fault.ensures.fault
    line
