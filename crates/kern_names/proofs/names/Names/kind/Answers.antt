use Rattle.std.proofs.Common.{ap, ◌∙◌}
use Rattle.kern_calls.specs.Calls.{look_up}
use Rattle.kern_names.proofs.Entries.{lookup-named}
use Rattle.kern_names.proofs.names.Names.kind.Goals as goal

pub returns : goal.returns
returns c =
    c.copied.ensures ∙ c.get.ensures.value ∙ lookup-named c.args.name.now c.self.inside.types.entries ∙ ap (λ names. look_up names c.args.name.now) c.self.view_is
