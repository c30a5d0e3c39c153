use Rattle.std.proofs.Common.{◌≡◌, ◌-◌, suc, Bool, true, cond, List, [], ◌∷◌, ◌++◌, length, map, refl, sym, ap, subst, arith, ◌∙◌}
use Rattle.std.specs.Prelude.{option_map, Some, None, Ok}
use Rattle.kern_lexer.specs.Symbols.{Symbol, number}
use Rattle.kern_lexer.specs.declared.token.TokenKind.TheVariants as T
use Rattle.kern_syntax.specs.Tree.{Expression, compare, element, group, integer, negation, no_more}
use Rattle.kern_syntax.specs.TreeOf.{arguments_of}
use Rattle.kern_syntax.specs.declared.expression.Argument.TheVariants as A
use Rattle.kern_syntax.specs.declared.expression.Expr.TheVariants as X
use Rattle.kern_grammar.specs.Operators.{join}
use Rattle.kern_grammar.specs.Reading.{bare_atom, comparison_behind, end_of_comparison, ended, first_form, inside_of, is_close_bracket, is_close_parenthesis, item, items, level_reader, not_at, prefix_form, row_behind, unary_at, value}
use Rattle.kern_expressions.specs.Given.{GivesExpression, symbols_left}
use Rattle.kern_expressions.specs.Kept.{KeptAs, ReadAs, item_of}
use Rattle.kern_expressions.specs.Passing.{behind_operand}
use Rattle.kern_expressions.proofs.ArgumentLists.{arguments-kept, before, comma_end, integer-argument, integer-kept, item_end, next_shorter, no_more_left, none_so_far, one_more}
use Rattle.kern_expressions.proofs.Exits.{comparison_read, dot_read, enclosed_read, found, given, goes, hands_on, opened, prefixed_read, refused, row_read, stops, value_read}
use Rattle.kern_expressions.proofs.Keeping.{keeps-more}
use Rattle.kern_expressions.proofs.Passing.{Reaches, front-reaches, level-goes_on, levels-ended, levels-passed, reaches-next}
use Rattle.kern_grammar.proofs.RowReads.{row_behind-none, then_ok}
use Rattle.kern_grammar.proofs.SpelledLists.{first_quotable}
use Rattle.kern_expressions.proofs.+levels.Goals as goal

-- `not` is there
begins : (b : Bool) (symbols : List Symbol) → b ≡ true → first_form not_at symbols ≡ cond b (Some negation) None → first_form not_at symbols ≡ Some negation
begins b symbols t h = h ∙ ap (λ x. cond x (Some negation) None) t

pub atom::argument_at-quoted_name-name-requires : goal.atom::argument_at-quoted_name-name-requires
atom::argument_at-quoted_name-name-requires t c =
    first_quotable c.args.tokens.text.now c.args.tokens.list.now _ c.in-len1-up.len_at_least c.args.tokens.spelled c.in-Text.is

pub atom::argument_at-returns-then-room-gt0 : goal.atom::argument_at-returns-then-room-gt0
atom::argument_at-returns-then-room-gt0 t c =
    let n = c.in-Integer.n in
    let there : symbols_left c.args.tokens ≡ number n ∷ symbols_left c.tail-behind.result = opened c.args.tokens _ (T.Integer n) c.in-len1-up.len_at_least c.in-Integer.is ∙ ap (λ r. number n ∷ r) (sym c.tail-behind.ensures.symbols) in
    given symbols_left (KeptAs item_of) (Some (A.Value (X.Integer n))) c.tail-behind.result (item (inside_of c.args.room) (symbols_left c.args.tokens)) (value (integer n)) (integer-kept n)
    (ap (item (inside_of c.args.room)) there ∙ integer-argument c.args.room n (symbols_left c.tail-behind.result) (λ z. omega (arith, z, c.if-room-gt0.true)) (sym c.begins_with_argument_end.ensures ∙ c.if-begins_with_argument_end.true))

pub atom::atom_at-returns : goal.atom::atom_at-returns
atom::atom_at-returns t c =
    goes ReadAs c.in_ok-e.e c.in_ok-e.behind c.ended_atom.result _ (bare_atom (inside_of c.args.room) (symbols_left c.args.tokens)) (λ e. ended e.0 e.1) refl c.in_ok-e.ensures c.ended_atom.ensures

pub atom::element_at-returns-in_err-index : goal.atom::element_at-returns-in_err-index
atom::element_at-returns-in_err-index t c = λ x k.
    let read = enclosed_read c.args.room is_close_bracket (element x) (symbols_left c.args.tokens) (symbols_left c.tail.result) c.if-room-eq0.false c.tail.ensures.symbols in
    stops ReadAs c.in_err-index.field-0.0 c.from_residual.result _ _ _ read c.in_err-index.ensures c.from_residual.ensures.1

pub atom::element_at-returns : goal.atom::element_at-returns
atom::element_at-returns t c = λ x k.
    let read = enclosed_read c.args.room is_close_bracket (element x) (symbols_left c.args.tokens) (symbols_left c.tail.result) c.if-room-eq0.false c.tail.ensures.symbols in
    goes ReadAs c.in_ok-index.index c.in_ok-index.behind c.close_bracket.result _ _ _ read c.in_ok-index.ensures (λ i j. c.close_bracket.ensures (element x i) (c.indexed.ensures x i k j))

pub atom::group_at-returns-in_err-e : goal.atom::group_at-returns-in_err-e
atom::group_at-returns-in_err-e t c =
    let read = enclosed_read c.args.room is_close_parenthesis group (symbols_left c.args.tokens) (symbols_left c.tail.result) c.if-room-eq0.false c.tail.ensures.symbols in
    stops ReadAs c.in_err-e.field-0.0 c.from_residual.result _ _ _ read c.in_err-e.ensures c.from_residual.ensures.1

pub atom::group_at-returns : goal.atom::group_at-returns
atom::group_at-returns t c =
    let read = enclosed_read c.args.room is_close_parenthesis group (symbols_left c.args.tokens) (symbols_left c.tail.result) c.if-room-eq0.false c.tail.ensures.symbols in
    goes ReadAs c.in_ok-e.e c.in_ok-e.behind c.close_parenthesis.result _ _ _ read c.in_ok-e.ensures (λ e k. c.close_parenthesis.ensures (group e) (c.grouped.ensures e k))

pub atom::value_at-returns-in_err-e : goal.atom::value_at-returns-in_err-e
atom::value_at-returns-in_err-e t c =
    stops (KeptAs item_of) c.in_err-e.field-0.0 c.from_residual.result _ _ _ (value_read c.args.room (symbols_left c.args.tokens) c.if-room-eq0.false) c.in_err-e.ensures c.from_residual.ensures.1

pub atom::value_at-returns : goal.atom::value_at-returns
atom::value_at-returns t c =
    goes (KeptAs item_of) c.in_ok-e.e c.in_ok-e.rest (Ok (c.argument.result, c.in_ok-e.rest)) _ _ _ (value_read c.args.room (symbols_left c.args.tokens) c.if-room-eq0.false) c.in_ok-e.ensures (λ e k. (c.argument.ensures e k, refl))

pub atom::items_at-items-init : goal.atom::items_at-items-init
atom::items_at-items-init t c = ([], ap (map item_of) c.new.ensures.items, none_so_far (inside_of c.args.room) (symbols_left c.args.tokens))

pub atom::items_at-returns-in_err-argument : goal.atom::items_at-returns-in_err-argument
atom::items_at-returns-in_err-argument t c =
    let inside = inside_of c.args.room in
    let whole = items inside (suc (length (symbols_left c.args.tokens))) (symbols_left c.args.tokens) in
    let so_far = c.items.invariant in
    let stopped = refused symbols_left (KeptAs item_of) c.in_err-argument.field-0.0 (item inside (symbols_left c.items.rest)) c.in_err-argument.ensures in
    hands_on symbols_left (KeptAs (λ v. arguments_of v.items)) c.from_residual.result c.in_err-argument.field-0.0 whole c.from_residual.ensures.1
    (item_end inside (symbols_left c.in_err-argument.field-0.0.left) so_far.0 (symbols_left c.items.rest) whole so_far.2 stopped)

pub atom::items_at-returns-in_err-more : goal.atom::items_at-returns-in_err-more
atom::items_at-returns-in_err-more t c =
    let inside = inside_of c.args.room in
    let whole = items inside (suc (length (symbols_left c.args.tokens))) (symbols_left c.args.tokens) in
    let so_far = c.items.invariant in
    let a = found symbols_left (KeptAs item_of) c.in_ok-argument.argument c.in_ok-argument.behind (item inside (symbols_left c.items.rest)) c.in_ok-argument.ensures in
    hands_on symbols_left (KeptAs (λ v. arguments_of v.items)) c.from_residual-in_err-more.result c.in_err-more.field-0.0 whole c.from_residual-in_err-more.ensures.1
    (comma_end inside (symbols_left c.in_err-more.field-0.0.left) so_far.0 a.0 (symbols_left c.items.rest) (symbols_left c.in_ok-argument.behind) whole so_far.2 a.2 c.in_err-more.ensures)

pub atom::items_at-returns-then-not-more : goal.atom::items_at-returns-then-not-more
atom::items_at-returns-then-not-more t c =
    let inside = inside_of c.args.room in
    let whole = items inside (suc (length (symbols_left c.args.tokens))) (symbols_left c.args.tokens) in
    let so_far = c.items.invariant in
    let a = found symbols_left (KeptAs item_of) c.in_ok-argument.argument c.in_ok-argument.behind (item inside (symbols_left c.items.rest)) c.in_ok-argument.ensures in
    let kept = keeps-more (λ v. v.items) item_of c.items.arguments c.in_ok-argument.argument c.pushed-arguments.result so_far.0 a.0 c.pushed-arguments.ensures so_far.1 a.1 in
    given symbols_left (KeptAs (λ v. arguments_of v.items)) c.pushed-arguments.result c.in_ok-more.next whole (before (so_far.0 ++ a.0 ∷ []) no_more) (arguments-kept (λ v. v.items) c.pushed-arguments.result (so_far.0 ++ a.0 ∷ []) kept)
    (no_more_left inside so_far.0 a.0 c.in_ok-more.more (symbols_left c.items.rest) (symbols_left c.in_ok-argument.behind) (symbols_left c.in_ok-more.next) whole so_far.2 a.2 c.in_ok-more.ensures c.if-not-more.true)

pub atom::items_at-items-smaller : goal.atom::items_at-items-smaller
atom::items_at-items-smaller t c =
    let a = found symbols_left (KeptAs item_of) c.in_ok-argument.argument c.in_ok-argument.behind (item (inside_of c.args.room) (symbols_left c.items.rest)) c.in_ok-argument.ensures in
    next_shorter c.args.room a.0 c.in_ok-more.more (symbols_left c.items.rest) (symbols_left c.in_ok-argument.behind) (symbols_left c.in_ok-more.next) a.2 c.in_ok-more.ensures

pub atom::items_at-items-preserved : goal.atom::items_at-items-preserved
atom::items_at-items-preserved t c =
    let inside = inside_of c.args.room in
    let whole = items inside (suc (length (symbols_left c.args.tokens))) (symbols_left c.args.tokens) in
    let so_far = c.items.invariant in
    let a = found symbols_left (KeptAs item_of) c.in_ok-argument.argument c.in_ok-argument.behind (item inside (symbols_left c.items.rest)) c.in_ok-argument.ensures in
    let kept = keeps-more (λ v. v.items) item_of c.items.arguments c.in_ok-argument.argument c.pushed-arguments.result so_far.0 a.0 c.pushed-arguments.ensures so_far.1 a.1 in
    (so_far.0 ++ a.0 ∷ [], kept, one_more c.args.room so_far.0 a.0 c.in_ok-more.more (symbols_left c.items.rest) (symbols_left c.in_ok-argument.behind) (symbols_left c.in_ok-more.next) whole so_far.2 a.2 c.in_ok-more.ensures c.if-not-more.false)

pub atom::method_at-returns-in-Name : goal.atom::method_at-returns-in-Name
atom::method_at-returns-in-Name t c = λ x k.
    let m = c.bytes_at-bytes.result.now in
    let same = dot_read (inside_of c.args.room) x m c.args.tokens c.tail.result _ c.in-len1-up.len_at_least c.in-Name.is c.bytes_at-bytes.ensures c.tail.ensures.symbols in
    subst (GivesExpression c.called_method_at.result) (sym same) (c.called_method_at.ensures x m k c.identifier-method.ensures)

pub expression::compared_at-returns-in_err-right : goal.expression::compared_at-returns-in_err-right
expression::compared_at-returns-in_err-right t c = λ left k.
    let tighter = level_reader (inside_of c.args.room) 7 in
    let read = comparison_read tighter (symbols_left c.args.tokens) (symbols_left c.tail.result) left c.in-Some.op (sym c.comparison_at.ensures ∙ c.in-Some.is) c.tail.ensures.symbols in
    stops ReadAs c.in_err-right.field-0.0 c.from_residual.result (comparison_behind tighter left (symbols_left c.args.tokens)) (tighter (symbols_left c.tail.result)) (λ right. end_of_comparison (compare c.in-Some.op left right.0) right.1) read c.in_err-right.ensures c.from_residual.ensures.1

pub expression::compared_at-returns : goal.expression::compared_at-returns
expression::compared_at-returns t c = λ left k.
    let tighter = level_reader (inside_of c.args.room) 7 in
    let read = comparison_read tighter (symbols_left c.args.tokens) (symbols_left c.tail.result) left c.in-Some.op (sym c.comparison_at.ensures ∙ c.in-Some.is) c.tail.ensures.symbols in
    goes ReadAs c.in_ok-right.right c.in_ok-right.rest c.ended_comparison.result (comparison_behind tighter left (symbols_left c.args.tokens)) (tighter (symbols_left c.tail.result)) (λ right. end_of_comparison (compare c.in-Some.op left right.0) right.1) read c.in_ok-right.ensures
    (λ right r. c.ended_comparison.ensures (compare c.in-Some.op left right) (c.compared.ensures left right k r))

pub expression::level_here_at-returns-in_err-first : goal.expression::level_here_at-returns-in_err-first
expression::level_here_at-returns-in_err-first t c =
    let symbols = symbols_left c.args.tokens in
    let inside = inside_of c.args.room in
    let reaches : Reaches c.args.level c.front_level-reached.result symbols = subst (λ n. Reaches c.args.level n symbols) (sym c.front_level-reached.ensures) (front-reaches c.args.level symbols) in
    hands_on symbols_left ReadAs c.from_residual.result c.in_err-first.field-0.0 (level_reader inside c.args.level symbols) c.from_residual.ensures.1
    (levels-ended (symbols_left c.in_err-first.field-0.0.left) inside c.args.level c.front_level-reached.result symbols reaches (refused symbols_left ReadAs c.in_err-first.field-0.0 (level_reader inside c.front_level-reached.result symbols) c.in_err-first.ensures))

pub expression::level_here_at-levels-init : goal.expression::level_here_at-levels-init
expression::level_here_at-levels-init t c =
    let symbols = symbols_left c.args.tokens in
    let e = found symbols_left ReadAs c.in_ok-first.first c.in_ok-first.after (level_reader (inside_of c.args.room) c.front_level-reached.result symbols) c.in_ok-first.ensures in
    (e.0, e.1, subst (λ n. Reaches c.args.level n symbols) (sym c.front_level-reached.ensures) (front-reaches c.args.level symbols), e.2)

pub expression::level_here_at-returns-then-next-reached : goal.expression::level_here_at-returns-then-next-reached
expression::level_here_at-returns-then-next-reached t c =
    let e = c.levels.invariant in
    given symbols_left ReadAs c.levels.e c.levels.rest _ e.0 e.1
    (levels-passed (inside_of c.args.room) c.args.level c.levels.reached (symbols_left c.args.tokens) (symbols_left c.levels.rest) e.0 e.2 (λ k a b q. omega (arith, a, q, c.level_of_operator-next.ensures, c.if-next-reached.true)) e.3)

pub expression::level_here_at-returns-then-next-level : goal.expression::level_here_at-returns-then-next-level
expression::level_here_at-returns-then-next-level t c =
    let e = c.levels.invariant in
    given symbols_left ReadAs c.levels.e c.levels.rest _ e.0 e.1
    (levels-passed (inside_of c.args.room) c.args.level c.levels.reached (symbols_left c.args.tokens) (symbols_left c.levels.rest) e.0 e.2 (λ k a b q. omega (arith, b, q, c.level_of_operator-next.ensures, c.if-next-level.true)) e.3)

pub expression::level_here_at-returns-in_err-longer : goal.expression::level_here_at-returns-in_err-longer
expression::level_here_at-returns-in_err-longer t c =
    let symbols = symbols_left c.args.tokens in
    let inside = inside_of c.args.room in
    let next = c.level_of_operator-next.result in
    let e = c.levels.invariant in
    let goes_on = level-goes_on inside c.args.level c.levels.reached next symbols (symbols_left c.levels.rest) e.0 e.2 e.3 (sym c.level_of_operator-next.ensures) (omega (arith, c.if-next-reached.false)) (omega (arith, c.if-next-level.false)) in
    let reaches = reaches-next c.args.level c.levels.reached next symbols e.2 (omega (arith, c.if-next-reached.false)) (omega (arith, c.if-next-level.false)) in
    let stopped = refused symbols_left ReadAs c.in_err-longer.field-0.0 (behind_operand next (level_reader inside (next - 1)) e.0 (symbols_left c.levels.rest)) (c.in_err-longer.ensures e.0 e.1) in
    hands_on symbols_left ReadAs c.from_residual-in_err-longer.result c.in_err-longer.field-0.0 (level_reader inside c.args.level symbols) c.from_residual-in_err-longer.ensures.1
    (levels-ended (symbols_left c.in_err-longer.field-0.0.left) inside c.args.level next symbols reaches (goes_on ∙ stopped))

pub expression::level_here_at-levels-preserved : goal.expression::level_here_at-levels-preserved
expression::level_here_at-levels-preserved t c =
    let symbols = symbols_left c.args.tokens in
    let inside = inside_of c.args.room in
    let next = c.level_of_operator-next.result in
    let e = c.levels.invariant in
    let goes_on = level-goes_on inside c.args.level c.levels.reached next symbols (symbols_left c.levels.rest) e.0 e.2 e.3 (sym c.level_of_operator-next.ensures) (omega (arith, c.if-next-reached.false)) (omega (arith, c.if-next-level.false)) in
    let longer = found symbols_left ReadAs c.in_ok-longer.longer c.in_ok-longer.behind (behind_operand next (level_reader inside (next - 1)) e.0 (symbols_left c.levels.rest)) (c.in_ok-longer.ensures e.0 e.1) in
    (longer.0, longer.1, reaches-next c.args.level c.levels.reached next symbols e.2 (omega (arith, c.if-next-reached.false)) (omega (arith, c.if-next-level.false)), goes_on ∙ longer.2)

pub expression::negation_at-returns-in_err-operand : goal.expression::negation_at-returns-in_err-operand
expression::negation_at-returns-in_err-operand t c =
    let there = begins c.begins_with_not.result (symbols_left c.args.tokens) c.if-not-begins_with_not.false c.begins_with_not.ensures in
    let read = prefixed_read not_at c.args.room 9 (level_reader (inside_of c.args.room) 8) (symbols_left c.args.tokens) (symbols_left c.tail.result) negation there c.if-room-eq0.false c.tail.ensures.symbols in
    stops ReadAs c.in_err-operand.field-0.0 c.from_residual.result _ _ _ read c.in_err-operand.ensures c.from_residual.ensures.1

pub expression::negation_at-returns : goal.expression::negation_at-returns
expression::negation_at-returns t c =
    let there = begins c.begins_with_not.result (symbols_left c.args.tokens) c.if-not-begins_with_not.false c.begins_with_not.ensures in
    let read = prefixed_read not_at c.args.room 9 (level_reader (inside_of c.args.room) 8) (symbols_left c.args.tokens) (symbols_left c.tail.result) negation there c.if-room-eq0.false c.tail.ensures.symbols in
    goes ReadAs c.in_ok-operand.operand c.in_ok-operand.rest (Ok (c.negated.result, c.in_ok-operand.rest)) _ _ _ read c.in_ok-operand.ensures (λ e k. (c.negated.ensures e k, refl))

pub expression::prefixed_at-returns-in_err-operand : goal.expression::prefixed_at-returns-in_err-operand
expression::prefixed_at-returns-in_err-operand t c =
    let there = sym c.prefix_at.ensures ∙ ap (option_map prefix_form) c.in-Some.is in
    let read = prefixed_read unary_at c.args.room 1 (level_reader (inside_of c.args.room) 0) (symbols_left c.args.tokens) (symbols_left c.tail.result) (prefix_form c.in-Some.op) there c.if-room-eq0.false c.tail.ensures.symbols in
    stops ReadAs c.in_err-operand.field-0.0 c.from_residual.result _ _ _ read c.in_err-operand.ensures c.from_residual.ensures.1

pub expression::prefixed_at-returns : goal.expression::prefixed_at-returns
expression::prefixed_at-returns t c =
    let there = sym c.prefix_at.ensures ∙ ap (option_map prefix_form) c.in-Some.is in
    let read = prefixed_read unary_at c.args.room 1 (level_reader (inside_of c.args.room) 0) (symbols_left c.args.tokens) (symbols_left c.tail.result) (prefix_form c.in-Some.op) there c.if-room-eq0.false c.tail.ensures.symbols in
    goes ReadAs c.in_ok-operand.operand c.in_ok-operand.rest (Ok (c.with_prefix.result, c.in_ok-operand.rest)) _ _ _ read c.in_ok-operand.ensures (λ e k. (c.with_prefix.ensures e k, refl))

pub expression::row_at-returns-in-None : goal.expression::row_at-returns-in-None
expression::row_at-returns-in-None t c = λ left k.
    let e = c.turns.invariant left k in
    given symbols_left ReadAs c.turns.e c.turns.rest _ e.0 e.1
    (sym e.2 ∙ row_behind-none c.turns.more c.args.level (level_reader (inside_of c.args.room) (c.args.level - 1)) e.0 (symbols_left c.turns.rest) (sym c.joiner_at.ensures ∙ c.in-None.is))

pub expression::row_at-returns-in_err-right : goal.expression::row_at-returns-in_err-right
expression::row_at-returns-in_err-right t c = λ left k.
    let e = c.turns.invariant left k in
    let tighter = level_reader (inside_of c.args.room) (c.args.level - 1) in
    let read = row_read c.turns.more c.args.level tighter e.0 (symbols_left c.turns.rest) (symbols_left c.tail.result) c.in-Some.joiner c.if-more-eq0.false (sym c.joiner_at.ensures ∙ c.in-Some.is) c.tail.ensures.symbols in
    stops ReadAs c.in_err-right.field-0.0 c.from_residual.result _ _ _ (sym e.2 ∙ read) c.in_err-right.ensures c.from_residual.ensures.1

pub expression::row_at-turns-preserved : goal.expression::row_at-turns-preserved
expression::row_at-turns-preserved t c = λ left k.
    let e = c.turns.invariant left k in
    let tighter = level_reader (inside_of c.args.room) (c.args.level - 1) in
    let right = found symbols_left ReadAs c.in_ok-right.right c.in_ok-right.behind (tighter (symbols_left c.tail.result)) c.in_ok-right.ensures in
    let read = row_read c.turns.more c.args.level tighter e.0 (symbols_left c.turns.rest) (symbols_left c.tail.result) c.in-Some.joiner c.if-more-eq0.false (sym c.joiner_at.ensures ∙ c.in-Some.is) c.tail.ensures.symbols in
    let go = λ (x : Expression × List Symbol). row_behind (c.turns.more - 1) c.args.level tighter (join c.in-Some.joiner e.0 x.0) x.1 in
    (join c.in-Some.joiner e.0 right.0, c.joined-e.ensures e.0 right.0 e.1 right.1, sym (then_ok (tighter (symbols_left c.tail.result)) right.0 (symbols_left c.in_ok-right.behind) go right.2) ∙ sym read ∙ e.2)
