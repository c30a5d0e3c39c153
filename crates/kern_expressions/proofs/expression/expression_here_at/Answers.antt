use Rattle.std.proofs.Common.{refl}
use Rattle.std.specs.Prelude.{Err}
use Rattle.kern_grammar.specs.Reading.{level_reader, inside_of}
use Rattle.kern_grammar.specs.SimplePlans.{take_expression}
use Rattle.kern_expressions.specs.Given.{symbols_left}
use Rattle.kern_expressions.specs.Kept.{ReadAs}
use Rattle.kern_expressions.specs.TakenBy.{lexemes_left}
use Rattle.kern_expressions.specs.declared.tokens.WrongToken.{WrongToken}
use Rattle.kern_expressions.proofs.Exits.{found, given, hands_on, refused}
use Rattle.kern_expressions.proofs.Lexemes.{expression_taken, expression_refused}
use Rattle.kern_expressions.proofs.expression.expression_here_at.Goals as goal

pub returns-in-Ok : goal.returns-in-Ok
returns-in-Ok c =
    let e = found symbols_left ReadAs c.in-Ok.e c.in-Ok.behind (level_reader (inside_of c.args.room) 11 (symbols_left c.args.tokens)) c.in-Ok.ensures in
    given lexemes_left ReadAs c.in-Ok.e c.last.result _ e.0 e.1 (expression_taken c.args.room c.args.tokens c.in-Ok.behind c.last.result e.0 e.2 c.last.ensures)

pub returns-in-Err : goal.returns-in-Err
returns-in-Err c =
    let wrong : WrongToken = record { left = c.last-in-Err.result } in
    let stopped = refused symbols_left ReadAs c.in-Err.end (level_reader (inside_of c.args.room) 11 (symbols_left c.args.tokens)) c.in-Err.ensures in
    hands_on lexemes_left ReadAs (Err wrong) wrong (take_expression c.args.room (lexemes_left c.args.tokens)) refl (expression_refused c.args.room c.args.tokens c.in-Err.end.left c.last-in-Err.result stopped c.last-in-Err.ensures)
