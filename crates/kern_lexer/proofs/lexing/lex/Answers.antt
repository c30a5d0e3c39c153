use Rattle.std.proofs.Common.{◌≡◌, ◌∙◌, ◌+◌, ◌++◌, [], ◌∷◌, Some, None, Ok, ap, arith, sym, length, nat_eq, replicate, reverse}
use Rattle.std.specs.List.{position}
use Rattle.std.proofs.lemmas.List.{take_rest, length-reverse}
use Rattle.std.proofs.lemmas.Result.{err_from_is_err_and}
use Rattle.kern_lexer.specs.Answers.{HasTokens}
use Rattle.kern_lexer.specs.Lines.{lines_of}
use Rattle.kern_lexer.specs.Steps.{left_of, text_after}
use Rattle.kern_lexer.specs.Tokens.{end_tokens, marks_at, tokens_from, tokens_of}
use Rattle.kern_lexer.specs.declared.token.TokenKind.TheVariants.{Dedent, End}
use Rattle.kern_lexer.proofs.EndLemmas.{end-of_text, end-of_tokens, end-of_fault}
use Rattle.kern_lexer.proofs.TextLemmas.{place-found, place-stays, text_after-none, text-goes_on, text-faults, text-ends, text-last_faults}
use Rattle.kern_lexer.proofs.TextReads.{given-tokens}
use Rattle.kern_lexer.proofs.Uniqueness.{one-list, not-both}
use Rattle.kern_lexer.proofs.WordLemmas.{end-same}
use Rattle.kern_lexer.proofs.lexing.lex.Goals as goal

-- no tokens yet, and nothing open
pub loop-len-init : goal.loop-len-init
unfolding tokens_of
loop-len-init c =
    let lines = lines_of c.args.bytes.now in
    record {
      same = ap (λ ts. text_after ts (tokens_from (record { widths = reverse c.new.result.items; brackets = reverse c.new-2.result.items }) 1 0 lines)) c.new-tokens.ensures.items
          ∙ ap (λ ws. text_after [] (tokens_from (record { widths = reverse ws; brackets = reverse c.new-2.result.items }) 1 0 lines)) c.new.ensures.items
          ∙ ap (λ bs. text_after [] (tokens_from (record { widths = []; brackets = reverse bs }) 1 0 lines)) c.new-2.ensures.items
          ∙ text_after-none (tokens_from (record { widths = []; brackets = [] }) 1 0 lines);
      place = omega arith;
      line = omega arith;
    }

pub loop-len-preserved : goal.loop-len-preserved
loop-len-preserved c =
    let rest = c.loop-len.rest.now in
    let len = c.in-Some.len in
    let found : position (λ b. nat_eq b 10) rest ≡ Some len = sym c.place_of.ensures ∙ c.in-Some.is in
    record {
      same = ap (λ bytes. text_after c.read_ended_line.new.tokens.items (tokens_from (left_of c.read_ended_line.new.layout) (c.loop-len.line + 1) (c.loop-len.at + (len + 1)) (lines_of bytes))) (take_rest rest (len + 1))
          ∙ text-goes_on c.loop-len.tokens.items c.read_ended_line.new.tokens.items (left_of c.loop-len.layout) (left_of c.read_ended_line.new.layout) c.loop-len.line c.loop-len.at len rest found c.in_ok-read_ended_line.ensures.ok
          ∙ c.loop-len.invariant.same;
      place = place-stays c.loop-len.at len (length c.args.bytes.now) rest (place-found (λ b. nat_eq b 10) rest len found).1 c.loop-len.invariant.place;
      line = omega arith;
    }

-- a line that a line feed ends has a fault, or there was no memory
pub returns-in_err-read_ended_line : goal.returns-in_err-read_ended_line
returns-in_err-read_ended_line c =
    let text = c.args.bytes.now in
    let found : position (λ b. nat_eq b 10) c.loop-len.rest.now ≡ Some c.in-Some.len = sym c.place_of.ensures
    ∙ c.in-Some.is in
    let p = err_from_is_err_and c.from_residual.result c.from_residual.ensures.1 in
    let ends =
    end-same _ c.loop-len.invariant.same
    (text-faults c.loop-len.tokens.items (left_of c.loop-len.layout) c.loop-len.line c.loop-len.at c.in-Some.len c.loop-len.rest.now _ found c.in_err-read_ended_line.ensures.fault) in
    rw (p.1, p.2) (record {
      tokens = tt;
      fault = end-of_text text _ ends;
      only = λ tokens has. end-of_tokens text _ tokens ends has;
      refused = λ fault has. end-of_fault text _ fault ends has;
    })

-- so does the last line
pub returns-in_err-read_last_line : goal.returns-in_err-read_last_line
returns-in_err-read_last_line c =
    let text = c.args.bytes.now in
    let none : position (λ b. nat_eq b 10) c.loop-len.rest.now ≡ None = sym c.place_of.ensures
    ∙ c.in_default.is in
    let p = err_from_is_err_and c.from_residual-in_err-read_last_line.result c.from_residual-in_err-read_last_line.ensures.1 in
    let ends =
    end-same _ c.loop-len.invariant.same
    (text-last_faults c.loop-len.tokens.items (left_of c.loop-len.layout) c.loop-len.line c.loop-len.at c.loop-len.rest.now _ none c.in_err-read_last_line.ensures.fault) in
    rw (p.1, p.2) (record {
      tokens = tt;
      fault = end-of_text text _ ends;
      only = λ tokens has. end-of_tokens text _ tokens ends has;
      refused = λ fault has. end-of_fault text _ fault ends has;
    })

-- the lines and the end give the tokens of the text
pub returns : goal.returns
returns c =
    let text = c.args.bytes.now in
    let tokens = c.end_text.new.tokens.items in
    let none : position (λ b. nat_eq b 10) c.loop-len.rest.now ≡ None = sym c.place_of.ensures
    ∙ c.in_default.is in
    let widths = c.read_last_line.new.layout.widths in
    let depth : c.len.result ≡ length (reverse widths.items) = c.len.ensures ∙ widths.ok.0
    ∙ sym (length-reverse widths.items) in
    let ended : tokens ≡ c.read_last_line.new.tokens.items ++ end_tokens (left_of c.read_last_line.new.layout) c.loop-len.line (c.loop-len.at + length c.loop-len.rest.now) =
    c.in_ok-end_text.ensures
    ∙ ap (λ n. c.read_last_line.new.tokens.items ++ marks_at c.loop-len.line (length text) (replicate n Dedent ++ End ∷ [])) depth
    ∙ ap (λ n. c.read_last_line.new.tokens.items ++ end_tokens (left_of c.read_last_line.new.layout) c.loop-len.line n) (sym c.loop-len.invariant.place) in
    let read : tokens_of text ≡ Ok tokens = sym c.loop-len.invariant.same
    ∙ text-ends c.loop-len.tokens.items c.read_last_line.new.tokens.items tokens (left_of c.loop-len.layout) (left_of c.read_last_line.new.layout) c.loop-len.line c.loop-len.at c.loop-len.rest.now none c.in_ok-read_last_line.ensures.ok ended in
    let given : HasTokens text tokens = given-tokens text tokens read in
    record {
      tokens = given;
      fault = tt;
      only = λ others has. one-list text tokens others given has;
      refused = λ fault has. not-both text tokens fault given has;
    }
