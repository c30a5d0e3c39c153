use Rattle.std.proofs.Common.{◌≡◌, ◌∙◌, cond, true, false, refl, sym, arith, get_or}
use Rattle.std.specs.Prelude.{is_some}
use Rattle.kern_lexer.specs.Bytes.{is_word_byte}
use Rattle.kern_lexer.specs.Fronts.{begins_token}
use Rattle.kern_lexer.specs.Signs.{sign_at}
use Rattle.kern_lexer.proofs.ChoiceLemmas.{begins_other}
use Rattle.kern_lexer.proofs.front.begins_token.Goals as goal

pub returns-then-is_word_byte : goal.returns-then-is_word_byte
returns-then-is_word_byte c =
    let bytes = c.args.bytes.now in
    let by : begins_token bytes ≡ cond (is_word_byte (get_or bytes 0 0)) true (is_some (sign_at bytes)) =
    begins_other bytes (λ is. grind (arith, is)) (λ is. grind (arith, is)) (λ is. grind (arith, is)) in
    let word : is_word_byte (get_or bytes 0 0) ≡ true = sym c.is_word_byte.ensures ∙ c.if-is_word_byte.true in
    c.if-is_word_byte.true ∙ sym (by ∙ rw word refl)

pub returns-else-is_word_byte : goal.returns-else-is_word_byte
returns-else-is_word_byte c =
    let bytes = c.args.bytes.now in
    let by : begins_token bytes ≡ cond (is_word_byte (get_or bytes 0 0)) true (is_some (sign_at bytes)) =
    begins_other bytes (λ is. grind (arith, is)) (λ is. grind (arith, is)) (λ is. grind (arith, is)) in
    let other : is_word_byte (get_or bytes 0 0) ≡ false = sym c.is_word_byte.ensures ∙ c.if-is_word_byte.false in
    c.is_some.ensures ∙ rw (c.sign_at.ensures) (sym (by ∙ rw other refl))
