use Rattle.code_follows.proofs.Calls.{follows_call}
use Rattle.code_follows.proofs.laws.calls_follow.Goals as goal

pub returns : goal.returns
returns c given code most setting first k room limit past outside value names g args body more out found is enters stands ends fb =
    follows_call given code setting first k room limit past outside value names g args body more out found is enters stands ends fb
