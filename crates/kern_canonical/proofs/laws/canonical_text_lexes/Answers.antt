use Rattle.kern_syntax.specs.Print.{program_text}
use Rattle.kern_canonical.proofs.Programs.{program-lexes}
use Rattle.kern_canonical.proofs.laws.canonical_text_lexes.Goals as goal

pub returns : goal.returns
returns c = λ p grammatical spellable.
    let text = program-lexes p grammatical spellable in
    (text.0, (c.tokens_are_computed.ensures (program_text p) text.0).1 text.1, text.2)
