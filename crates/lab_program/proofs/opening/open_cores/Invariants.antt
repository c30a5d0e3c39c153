use Rattle.std.proofs.Common.{◌≡◌, map, take}
use Rattle.exp_model.specs.declared.session.Pipeline.{Pipeline}
use Rattle.rtio_core.specs.Core.{new_core}
use Rattle.stage_work.specs.Settings.{config_of}
use Rattle.lab_program.proofs.opening.open_cores.Given as goal

-- the cores of the pipelines so far
abbrev pub invariant-loop-pipeline : goal.invariant-loop-pipeline
invariant-loop-pipeline l =
    l.cores.items ≡ map (λ (pipeline : Pipeline). new_core (config_of l.session pipeline)) (take l.pipeline-index l.session.pipelines)
