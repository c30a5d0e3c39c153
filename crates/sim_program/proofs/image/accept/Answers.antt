use Rattle.sim_program.specs.Images.{bad_code}
use Rattle.sim_program.proofs.image.accept.Goals as goal

pub returns-in_ok-bad_code_refusal-in-Err : goal.returns-in_ok-bad_code_refusal-in-Err
returns-in_ok-bad_code_refusal-in-Err c =
    bad_code c.args.code c.requires.in_range c.requires.is_image c.in-Err.field-0.place c.in-Err.ensures.bad c.in_ok-bad_code_refusal-in-Err.ensures
