-- What the parts of an expression need is there where the expression is ready.
use Rattle.std.proofs.Common.{◌≡◌, ℕ, ◌+◌, ◌<◌, ◌≤◌, ◌^◌, true, length, Some, None, refl, ap, arith}
use Rattle.std.specs.Prelude.{Option}
use Rattle.kern_syntax.specs.declared.expression.BinaryOperator.{BinaryOperator}
use Rattle.kern_syntax.specs.declared.expression.Comparison.{Comparison}
use Rattle.kern_syntax.specs.declared.expression.UnaryOperator.{UnaryOperator}
use Rattle.kern_syntax.specs.Spellable.{IsSpellable}
use Rattle.kern_syntax.specs.Tree.{Bytes, Expression, integer, true_literal, false_literal, variable, element, group, unary, binary, compare, negation, conjunction, disjunction, call, method, Arguments}
use Rattle.kern_calls.specs.declared.calls.Operation.{Operation}
use Rattle.kern_calls.specs.Calls.{builtin_named, method_named}
use Rattle.kern_calls.specs.Types.{type_of}
use Rattle.timeline_sem.specs.Expressions.{text_in}
use Rattle.core_isa.specs.declared.code.Mark.{Mark}
use Rattle.code_forms.specs.ExpressionCode.{numbers_in}
use Rattle.code_forms.specs.Lines.{raised}
use Rattle.code_forms.specs.Operations.{array_argument, literal, method_instrs, negated, takes_numbers, unary_instrs}
use Rattle.code_forms.specs.Setting.{Setting}
use Rattle.code_forms.specs.Sizes.{expression_size, arguments_size, unary_size}
use Rattle.code_forms.proofs.Literals.{negated_is}
use Rattle.code_ranges.specs.Heights.{expression_height}
use Rattle.code_ranges.specs.Ready.{ExpressionFits, IsReady, IsReadyAlone, AreReady}
use Rattle.code_ranges.specs.Room.{HasRoom}
use Rattle.core_code_expressions.specs.ReadyCalls.{IsReadyCall, IsReadyMethod}

-- every expression has room for the operands of an instruction
own_height : (e : Expression) → 14 ≤ expression_height e
own_height (integer n) = omega arith
own_height true_literal = omega arith
own_height false_literal = omega arith
own_height (variable x) = omega arith
own_height (element x i) = omega arith
own_height (group e) = own_height e
own_height (unary op e) = omega arith
own_height (binary op a b) = omega arith
own_height (compare op a b) = omega arith
own_height (negation e) = omega arith
own_height (conjunction a b) = omega arith
own_height (disjunction a b) = omega arith
own_height (call f args) = omega arith
own_height (method o m args) = omega arith

-- a few instructions have room above a few operands
pub room_above : (m m' : Mark) (e : Expression) (k n : ℕ) → ExpressionFits m e → m' ≡ raised k m → k + n ≤ 14 → HasRoom m' n
room_above m m' e k n r same few =
    let height : m'.height ≡ m.height + k = ap (λ x. x.height) same in
    let tries : m'.tries ≡ m.tries = ap (λ x. x.tries) same in
    let rec : m'.rec ≡ m.rec = ap (λ x. x.rec) same in
    record {
      operands = omega (arith, r.operands, height, few, own_height e);
      handlers = omega (arith, r.handlers, tries, few);
      rec = omega (arith, r.rec, rec);
    }

-- and here
pub room_here : (m : Mark) (e : Expression) (n : ℕ) → ExpressionFits m e → n ≤ 14 → HasRoom m n
room_here m e n r few =
    record {
      operands = omega (arith, r.operands, few, own_height e);
      handlers = omega (arith, r.handlers, few);
      rec = r.rec;
    }

-- so have a few operands more
pub height_above : (m : Mark) (e : Expression) (k : ℕ) → ExpressionFits m e → k ≤ 14 → m.height + k < 256
height_above m e k r few = omega (arith, r.operands, few, own_height e)

-- an expression fits above some operands where another fits that is as much higher
part_fits : (m m' : Mark) (e part : Expression) (k : ℕ) → ExpressionFits m e → m'.height ≡ m.height + k → m'.tries ≡ m.tries → m'.rec ≡ m.rec → IsSpellable part → k + expression_height part ≤ expression_height e → ExpressionFits m' part
part_fits m m' e part k r height tries rec spelled less =
    record {
      spelled = spelled;
      operands = omega (arith, r.operands, less, height);
      handlers = omega (arith, r.handlers, tries);
      rec = omega (arith, r.rec, rec);
    }

-- `-` and `~` are no shorter than their operand
pub operand_short : (s : Setting) (op : UnaryOperator) (e : Expression) → expression_size s e ≤ expression_size s (unary op e)
operand_short s op e = by_number (negated op (literal e)) refl
  where
    by_number : (o : Option ℕ) → negated op (literal e) ≡ o → expression_size s e ≤ unary_size o (expression_size s e) (length (unary_instrs op (type_of s.scope e)))
    by_number (Some n) is = let one : expression_size s e ≡ 1 = ap (expression_size s) (negated_is op e n is).operand in omega (arith, one)
    by_number None is = omega arith

module _ (s : Setting) (m : Mark) (p : ℕ) where
  -- a part that stands first
  first_part : (e part : Expression) → IsReady s m p e → IsSpellable part → expression_height part ≤ expression_height e → expression_size s part ≤ expression_size s e → IsReady s m p part
  first_part e part r spelled less short =
      record {
        fits = part_fits m m e part 0 r.fits (omega arith) (omega arith) (omega arith) spelled (omega (arith, less));
        places = omega (arith, r.places, short);
      }

  pub element_index : (x : Bytes) (i : Expression) → IsReady s m p (element x i) → IsReady s m p i
  element_index x i r = first_part (element x i) i r r.fits.spelled.1 (omega arith) (omega arith)

  pub unary_operand : (op : UnaryOperator) (e : Expression) → IsReady s m p (unary op e) → IsReady s m p e
  unary_operand op e r = first_part (unary op e) e r r.fits.spelled (omega arith) (operand_short s op e)

  pub not_operand : (e : Expression) → IsReady s m p (negation e) → IsReady s m p e
  not_operand e r = first_part (negation e) e r r.fits.spelled (omega arith) (omega arith)

  pub binary_first : (op : BinaryOperator) (a b : Expression) → IsReady s m p (binary op a b) → IsReady s m p a
  binary_first op a b r = first_part (binary op a b) a r r.fits.spelled.0 (omega arith) (omega arith)

  pub compare_first : (op : Comparison) (a b : Expression) → IsReady s m p (compare op a b) → IsReady s m p a
  compare_first op a b r = first_part (compare op a b) a r r.fits.spelled.0 (omega arith) (omega arith)

  pub and_first : (a b : Expression) → IsReady s m p (conjunction a b) → IsReady s m p a
  and_first a b r = first_part (conjunction a b) a r r.fits.spelled.0 (omega arith) (omega arith)

  pub or_first : (a b : Expression) → IsReady s m p (disjunction a b) → IsReady s m p a
  or_first a b r = first_part (disjunction a b) a r r.fits.spelled.0 (omega arith) (omega arith)

  -- a part behind another, which is among the operands
  pub binary_second : (op : BinaryOperator) (a b : Expression) (m' : Mark) (p' : ℕ) → IsReady s m p (binary op a b) → m' ≡ raised 1 m → p' ≡ p + expression_size s a → IsReady s m' p' b
  binary_second op a b m' p' r same at =
      record {
        fits = part_fits m m' (binary op a b) b 1 r.fits (ap (λ x. x.height) same) (ap (λ x. x.tries) same) (ap (λ x. x.rec) same) r.fits.spelled.1 (omega arith);
        places = omega (arith, r.places, at);
      }

  pub compare_second : (op : Comparison) (a b : Expression) (m' : Mark) (p' : ℕ) → IsReady s m p (compare op a b) → m' ≡ raised 1 m → p' ≡ p + expression_size s a → IsReady s m' p' b
  compare_second op a b m' p' r same at =
      record {
        fits = part_fits m m' (compare op a b) b 1 r.fits (ap (λ x. x.height) same) (ap (λ x. x.tries) same) (ap (λ x. x.rec) same) r.fits.spelled.1 (omega arith);
        places = omega (arith, r.places, at);
      }

  -- and one behind a test
  pub and_second : (a b : Expression) (p' : ℕ) → IsReady s m p (conjunction a b) → p' ≡ p + expression_size s a + 1 → IsReady s m p' b
  and_second a b p' r at =
      record {
        fits = part_fits m m (conjunction a b) b 0 r.fits (omega arith) (omega arith) (omega arith) r.fits.spelled.1 (omega arith);
        places = omega (arith, r.places, at);
      }

  pub or_second : (a b : Expression) (p' : ℕ) → IsReady s m p (disjunction a b) → p' ≡ p + expression_size s a + 3 → IsReady s m p' b
  or_second a b p' r at =
      record {
        fits = part_fits m m (disjunction a b) b 0 r.fits (omega arith) (omega arith) (omega arith) r.fits.spelled.1 (omega arith);
        places = omega (arith, r.places, at);
      }

  -- what stands between and behind them
  pub and_size : (a b : Expression) → IsReady s m p (conjunction a b) → expression_size s b < 2 ^ 32
  and_size a b r = omega (arith, r.places)

  pub or_size : (a b : Expression) → IsReady s m p (disjunction a b) → expression_size s b < 2 ^ 32
  or_size a b r = omega (arith, r.places)

  pub and_test_places : (a b : Expression) (p' n : ℕ) → IsReady s m p (conjunction a b) → p' ≡ p + expression_size s a → n ≡ expression_size s b → p' + 1 + n + 1 < 2 ^ 32
  and_test_places a b p' n r at size = omega (arith, r.places, at, size)

  pub and_end_places : (a b : Expression) (p' : ℕ) → IsReady s m p (conjunction a b) → p' ≡ p + expression_size s a + 1 + expression_size s b → p' + 2 < 2 ^ 32
  and_end_places a b p' r at = omega (arith, r.places, at)

  pub or_test_places : (a b : Expression) (p' n : ℕ) → IsReady s m p (disjunction a b) → p' ≡ p + expression_size s a → n ≡ expression_size s b → p' + 3 + n < 2 ^ 32
  or_test_places a b p' n r at size = omega (arith, r.places, at, size)

  -- the call of an expression
  pub call_ready : (f : Bytes) (args : Arguments) → IsReady s m p (call f args) → IsReadyCall s m p f args
  call_ready f args r = record { fits = r.fits; places = omega (arith, r.places) }

  pub method_ready : (o n : Bytes) (args : Arguments) → IsReady s m p (method o n args) → IsReadyMethod s m p o n args
  method_ready o n args r = record { fits = r.fits; places = omega (arith, r.places) }

  pub call_alone : (f : Bytes) (args : Arguments) → IsReadyAlone s m p (call f args) → IsReadyCall s m p f args
  call_alone f args r = record { fits = r.fits; places = omega (arith, r.places) }

  pub method_alone : (o n : Bytes) (args : Arguments) → IsReadyAlone s m p (method o n args) → IsReadyMethod s m p o n args
  method_alone o n args r = record { fits = r.fits; places = omega (arith, r.places) }

  -- the numbers of a call, where they are evaluated
  pub call_arguments : (f : Bytes) (args : Arguments) → IsReadyCall s m p f args → takes_numbers (array_argument s args) (builtin_named f) ≡ true → AreReady s m p args
  call_arguments f args r takes =
      let places = rw takes at r.places in
      record {
        fits = record {
          spelled = r.fits.spelled.1;
          operands = omega (arith, r.fits.operands);
          handlers = r.fits.handlers;
          rec = r.fits.rec;
        };
        places = omega (arith, places);
      }

  -- the instruction behind them
  pub call_room : (f : Bytes) (args : Arguments) (above : Mark) → IsReadyCall s m p f args → above ≡ raised (numbers_in args) m → HasRoom above 1
  call_room f args above r same =
      let height : above.height ≡ m.height + numbers_in args = ap (λ x. x.height) same in
      let tries : above.tries ≡ m.tries = ap (λ x. x.tries) same in
      let rec : above.rec ≡ m.rec = ap (λ x. x.rec) same in
      record {
        operands = omega (arith, r.fits.operands, height);
        handlers = omega (arith, r.fits.handlers, tries);
        rec = omega (arith, r.fits.rec, rec);
      }

  pub method_room : (o n : Bytes) (args : Arguments) (above : Mark) → IsReadyMethod s m p o n args → above ≡ raised (numbers_in args) m → HasRoom above 13
  method_room o n args above r same =
      let height : above.height ≡ m.height + numbers_in args = ap (λ x. x.height) same in
      let tries : above.tries ≡ m.tries = ap (λ x. x.tries) same in
      let rec : above.rec ≡ m.rec = ap (λ x. x.rec) same in
      record {
        operands = omega (arith, r.fits.operands, height);
        handlers = omega (arith, r.fits.handlers, tries);
        rec = omega (arith, r.fits.rec, rec);
      }

  pub method_places : (o n text : Bytes) (args : Arguments) (p' : ℕ) (method' : Option Operation) → IsReadyMethod s m p o n args → p' ≡ p + arguments_size s args → text ≡ text_in args → method' ≡ method_named o n → p' + length (method_instrs s 0 0 text method') < 2 ^ 32
  method_places o n text args p' method' r at same found =
      let own : length (method_instrs s 0 0 text method') ≡ length (method_instrs s 0 0 (text_in args) (method_named o n)) = cc in
      omega (arith, r.places, at, own)

  pub method_arguments : (o n : Bytes) (args : Arguments) → IsReadyMethod s m p o n args → AreReady s m p args
  method_arguments o n args r =
      record {
        fits = record {
          spelled = r.fits.spelled.2;
          operands = omega (arith, r.fits.operands);
          handlers = r.fits.handlers;
          rec = r.fits.rec;
        };
        places = omega (arith, r.places);
      }
