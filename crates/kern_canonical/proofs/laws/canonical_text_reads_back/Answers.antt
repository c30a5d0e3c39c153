use Rattle.kern_lexer.specs.Symbols.{lexemes_of}
use Rattle.kern_syntax.specs.Print.{program_text}
use Rattle.kern_canonical.proofs.laws.canonical_text_reads_back.Goals as goal

pub returns : goal.returns
returns c = λ p grammatical spellable.
    let text = c.canonical_text_lexes.ensures p grammatical spellable in
    let tree = c.canonical_tokens_parse.ensures p (lexemes_of (program_text p) text.0) grammatical text.2 in
    record { tokens = text.0; again = tree.0; lexed = text.1; parsed = tree.1; same = tree.2 }
