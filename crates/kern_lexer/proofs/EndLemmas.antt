-- Lemmas on the ends of reading a text.
use Rattle.std.proofs.Common.{◌≡◌, ◌∙◌, List, Result, Ok, Err, sym}
use Rattle.kern_lexer.specs.Answers.{HasTokens, HasFault, IsEndOf, IsEndAt, IsMemory}
use Rattle.kern_lexer.specs.Bytes.{Bytes}
use Rattle.kern_lexer.specs.Faults.{LexFault}
use Rattle.kern_lexer.specs.Steps.{EndsReading}
use Rattle.kern_lexer.specs.Tokens.{tokens_of}
use Rattle.kern_lexer.specs.declared.fault.LexEnd.{LexEnd}
use Rattle.kern_lexer.specs.declared.fault.LexEnd.TheVariants.{Fault, Memory}
use Rattle.kern_lexer.specs.declared.token.Token.{Token}
use Rattle.kern_lexer.proofs.TextReads.{given-fault}
use Rattle.kern_lexer.proofs.Uniqueness.{tokens-given, fault-given}

abbrev told : LexFault → Result (List Token) LexFault
told fault = Err fault

-- a fault is no list of tokens, and has one place and kind
apart : (fault : LexFault) (tokens : List Token) → told fault ≡ Ok tokens → ⊥
apart fault tokens e = absurd cc

same : (a b : LexFault) → told a ≡ told b → a ≡ b
same a b e = cc

-- the end of reading a text is the text's
pub end-of_text : (text : Bytes) (end : LexEnd) → EndsReading end (tokens_of text) → IsEndOf text end
end-of_text text (Fault at kind) ends = given-fault text (record { at = at; kind = kind }) ends
end-of_text text Memory ends = tt

-- where the text has tokens it is want of memory
pub end-of_tokens : (text : Bytes) (end : LexEnd) (tokens : List Token) → EndsReading end (tokens_of text) → HasTokens text tokens
    → IsMemory end
end-of_tokens text (Fault at kind) tokens ends has =
    absurd (apart (record { at = at; kind = kind }) tokens (sym ends ∙ tokens-given text tokens has))
end-of_tokens text Memory tokens ends has = tt

-- where it has a fault it is that one, or want of memory
pub end-of_fault : (text : Bytes) (end : LexEnd) (fault : LexFault) → EndsReading end (tokens_of text) → HasFault text fault
    → IsEndAt fault end
end-of_fault text (Fault at kind) fault ends has =
    same (record { at = at; kind = kind }) fault (sym ends ∙ fault-given text fault has)
end-of_fault text Memory fault ends has = tt
