use Rattle.std.proofs.Common.{ℕ, ap, ◌∙◌, take, drop}
use Rattle.rtio_input.proofs.Scripts.{beginning}
use Rattle.rtio_input.proofs.script.count_at.Goals as goal

pub returns-clause-these : goal.returns-clause-these
returns-clause-these c =
    ap (λ (n : ℕ). take n c.args.edges.now) c.count_first.ensures.count
    ∙ (beginning c.args.cycle c.args.edges.now c.requires.by_cycle c.requires.none_earlier).these

pub returns-clause-later : goal.returns-clause-later
returns-clause-later c =
    ap (λ (n : ℕ). drop n c.args.edges.now) c.count_first.ensures.count
    ∙ (beginning c.args.cycle c.args.edges.now c.requires.by_cycle c.requires.none_earlier).later
