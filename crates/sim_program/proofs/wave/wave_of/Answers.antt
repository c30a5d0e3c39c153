use Rattle.std.proofs.Common.{ap, sym, ◌∙◌}
use Rattle.std.specs.Prelude.{Err}
use Rattle.sim_program.proofs.Waves.{fault-not-memory, no-wave, ok-not-err, read}
use Rattle.sim_program.proofs.wave.wave_of.Goals as goal

pub draw-requires : goal.draw-requires
draw-requires c =
    read c.args.bytes.now c.in-Ok.dump c.in-Ok.ensures.ok c.in-Ok.ensures.only (λ offset wrong. ok-not-err _ _ ((c.in-Ok.ensures.fault offset).1 wrong))

pub returns-in_ok-dump_refusal-in-Err-Fault : goal.returns-in_ok-dump_refusal-in-Err-Fault
returns-in_ok-dump_refusal-in-Err-Fault c =
    let is = c.in-Err-Fault.field-0-is in
    no-wave c.args.bytes.now c.in_ok-dump_refusal-in-Err-Fault.field-0.items c.in-Err-Fault.offset
    ((c.in-Err-Fault.ensures.fault c.in-Err-Fault.offset).0 (ap Err is)) c.in_ok-dump_refusal-in-Err-Fault.ensures
    (λ dump spelled. fault-not-memory c.in-Err-Fault.offset (sym is ∙ c.in-Err-Fault.ensures.only dump spelled))
