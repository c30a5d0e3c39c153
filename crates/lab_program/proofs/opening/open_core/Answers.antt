use Rattle.std.proofs.Common.{IsTrue, subst, sym}
use Rattle.rtio_core.specs.declared.data.Config.{Config}
use Rattle.rtio_core.specs.Entries.{is_config_ok}
use Rattle.lab_program.proofs.Cores.{settings-ok}
use Rattle.lab_program.proofs.opening.open_core.Goals as goal

pub new-requires : goal.new-requires
new-requires c =
    let C : Config → Type 0 = λ config. IsTrue (is_config_ok config) in
    subst C (sym c.in_ok-config.ensures) (settings-ok c.args.session.now c.args.pipeline.now c.requires.settings c.requires.edges)
