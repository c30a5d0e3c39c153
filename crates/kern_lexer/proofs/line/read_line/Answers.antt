use Rattle.std.proofs.Common.{◌≡◌, ◌∙◌, ◌++◌, Ok, ap, drop, length, reverse, sym}
use Rattle.kern_lexer.specs.Steps.{left_of, words_after}
use Rattle.kern_lexer.specs.Tokens.{newline_after}
use Rattle.kern_lexer.specs.Words.{words_from}
use Rattle.kern_lexer.proofs.LineLemmas.{line-read}
use Rattle.kern_lexer.proofs.line.read_line.Goals as goal

pub returns-clause-ok : goal.returns-clause-ok
returns-clause-ok c =
    let marked = c.read_margin.new.tokens.items in
    let read = c.read_words.new.tokens.items in
    let begun : c.len-begun.result ≡ length marked = c.len-begun.ensures ∙ c.read_margin.new.tokens.ok.0 in
    let words : words_after marked (reverse c.args.layout.now.brackets.items) (words_from c.args.newline.line c.args.at 0 c.args.code.now) ≡ Ok (read, reverse c.read_words.new.brackets.items) =
    ap (λ b. words_after marked (reverse b.items) (words_from c.args.newline.line c.args.at 0 c.args.code.now)) (sym c.in_ok-read_margin.ensures.brackets)
    ∙ c.in_ok-read_words.ensures.ok in
    let ended : c.end_line.new.tokens.items ≡ read ++ newline_after (drop (length marked) read) (reverse c.read_words.new.brackets.items) c.args.newline =
    c.in_ok-end_line.ensures
    ∙ ap (λ n. read ++ newline_after (drop n read) (reverse c.deref.result.now) c.args.newline) begun
    ∙ ap (λ bs. read ++ newline_after (drop (length marked) read) (reverse bs) c.args.newline) c.deref.ensures.value in
    line-read c.args.tokens.now.items marked read c.end_line.new.tokens.items (left_of c.args.layout.now) (reverse c.read_margin.new.layout.widths.items) (reverse c.read_words.new.brackets.items)
    c.args.newline.line c.args.at c.args.code.now c.args.newline c.in_ok-read_margin.ensures.ok words ended
