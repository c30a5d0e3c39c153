use Rattle.std.proofs.Common.{sym, subst, refl}
use Rattle.rtio_core.specs.Core.{CoreState}
use Rattle.rtio_core.specs.Lawful.{IsOpenFor}
use Rattle.rtio_core.specs.Calls.{MayEnd}
use Rattle.rtio_core.proofs.Next.{end_keeps}
use Rattle.rtio_core.proofs.one_core.Core.end.Goals as goal

pub invariant_of-self-2 : goal.invariant_of-self-2
invariant_of-self-2 c =
    let running : CoreState → Type 0 = λ core. IsOpenFor c.args.who core.history in
    let ending : CoreState → Type 0 = λ core. MayEnd core.waiting c.args.outcome in
    end_keeps c.self.inside c.push.new.self c.args.who c.args.outcome _ _ c.self.invariant
    (subst running (sym c.self.view_is) c.requires.open) (subst ending (sym c.self.view_is) c.requires.waiting)
    c.in_ok-push.ensures.items refl
