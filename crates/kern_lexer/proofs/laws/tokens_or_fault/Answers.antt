use Rattle.std.proofs.Common.{◌≡◌, ◌⊎◌, List, Result, Ok, Err, inl, inr, refl}
use Rattle.kern_lexer.specs.Answers.{HasFault, HasTokens}
use Rattle.kern_lexer.specs.Bytes.{Bytes}
use Rattle.kern_lexer.specs.Faults.{LexFault}
use Rattle.kern_lexer.specs.Tokens.{tokens_of}
use Rattle.kern_lexer.specs.declared.token.Token.{Token}
use Rattle.kern_lexer.proofs.TextReads.{given-tokens, given-fault}
use Rattle.kern_lexer.proofs.laws.tokens_or_fault.Goals as goal

either : (text : Bytes) (read : Result (List Token) LexFault) → tokens_of text ≡ read
    → ((tokens : List Token) × HasTokens text tokens) ⊎ ((fault : LexFault) × HasFault text fault)
either text (Ok tokens) is = inl (tokens, given-tokens text tokens is)
either text (Err fault) is = inr (fault, given-fault text fault is)

pub returns : goal.returns
returns c text = either text (tokens_of text) refl
