-- The numbers of a call, as they are put one after another.
use Rattle.std.proofs.Common.{rules, ◌≡◌, ℕ, ◌+◌, ◌≤◌, List, ◌++◌, length, sym, ap, ◌∙◌, subst, arith, append_assoc}
use Rattle.std.proofs.lemmas.List.{append-nil}
use Rattle.kern_syntax.specs.declared.expression.Argument.{Argument}
use Rattle.kern_syntax.specs.declared.expression.Argument.TheFolds.{the_lemmas}
use Rattle.kern_syntax.specs.Spellable.{AreSpellable}
use Rattle.kern_syntax.specs.Tree.{Arguments, no_more, value_then, text_then}
use Rattle.kern_syntax.specs.TreeOf.{argument_of}
use Rattle.core_isa.specs.declared.code.CodeLine.{CodeLine}
use Rattle.core_isa.specs.declared.code.Mark.{Mark}
use Rattle.code_forms.specs.ExpressionCode.{expression_code, arguments_code, numbers_in}
use Rattle.code_forms.specs.Lines.{raised}
use Rattle.code_forms.specs.Setting.{Setting}
use Rattle.code_forms.specs.Sizes.{expression_size, arguments_size}
use Rattle.code_ranges.specs.Heights.{arguments_height}
use Rattle.code_ranges.specs.Ready.{AreReady}

-- arguments before others
abbrev pub joined : Arguments → Arguments → Arguments
joined no_more rest = rest
joined (value_then e more) rest = value_then e (joined more rest)
joined (text_then text more) rest = text_then text (joined more rest)

pub argument-joined : (argument : Argument) (rest : Arguments) → argument_of argument rest ≡ joined (argument_of argument no_more) rest
argument-joined argument rest = search (rules, the_lemmas)

-- operands above others
raised-raised : (n : ℕ) (m : Mark) → raised n (raised 1 m) ≡ raised (1 + n) m
raised-raised n m =
    let same : m.height + 1 + n ≡ m.height + (1 + n) = omega arith in
    ap (λ h. record m { height = h }) same

raised-none : (m : Mark) → raised 0 m ≡ m
raised-none m =
    let same : m.height + 0 ≡ m.height = omega arith in
    ap (λ h. record m { height = h }) same

raised-joined : (first rest : Arguments) (m : Mark) → raised (numbers_in rest) (raised (numbers_in first) m) ≡ raised (numbers_in (joined first rest)) m
raised-joined no_more rest m = ap (raised (numbers_in rest)) (raised-none m)
raised-joined (value_then e more) rest m =
    ap (raised (numbers_in rest)) (sym (raised-raised (numbers_in more) m)) ∙ raised-joined more rest (raised 1 m) ∙ raised-raised (numbers_in (joined more rest)) m
raised-joined (text_then text more) rest m = raised-joined more rest m

size-joined : (s : Setting) (first rest : Arguments) → arguments_size s (joined first rest) ≡ arguments_size s first + arguments_size s rest
size-joined s no_more rest = omega arith
size-joined s (value_then e more) rest = omega (arith, size-joined s more rest)
size-joined s (text_then text more) rest = size-joined s more rest

height-joined : (first rest : Arguments) → numbers_in first + arguments_height rest ≤ arguments_height (joined first rest)
height-joined no_more rest = omega arith
height-joined (value_then e more) rest = omega (arith, height-joined more rest)
height-joined (text_then text more) rest = height-joined more rest

height-first : (first rest : Arguments) → arguments_height first ≤ arguments_height (joined first rest)
height-first no_more rest = omega arith
height-first (value_then e more) rest = omega (arith, height-first more rest)
height-first (text_then text more) rest = height-first more rest

spelled-joined : (first rest : Arguments) → AreSpellable (joined first rest) → AreSpellable first × AreSpellable rest
spelled-joined no_more rest r = (tt, r)
spelled-joined (value_then e more) rest r =
    let p = spelled-joined more rest r.1 in
    ((r.0, p.0), p.1)
spelled-joined (text_then text more) rest r =
    let p = spelled-joined more rest r.1 in
    ((r.0, p.0), p.1)

code-joined : (s : Setting) (free : ℕ) (m : Mark) (p : ℕ) (first rest : Arguments) → arguments_code s free m p (joined first rest) ≡ arguments_code s free m p first ++ arguments_code s free (raised (numbers_in first) m) (p + arguments_size s first) rest
code-joined s free m p no_more rest =
    let at : p ≡ p + 0 = omega arith in
    ap (λ q. arguments_code s free m q rest) at ∙ ap (λ x. arguments_code s free x (p + 0) rest) (sym (raised-none m))
code-joined s free m p (value_then e more) rest =
    let se = expression_size s e in
    let sm = arguments_size s more in
    let n = numbers_in more in
    let E = expression_code s free m p e in
    let M = arguments_code s free (raised 1 m) (p + se) more in
    let at : p + se + sm ≡ p + (se + sm) = omega arith in
    let second : arguments_code s free (raised n (raised 1 m)) (p + se + sm) rest ≡ arguments_code s free (raised (1 + n) m) (p + (se + sm)) rest =
    ap (λ x. arguments_code s free x (p + se + sm) rest) (raised-raised n m) ∙ ap (λ q. arguments_code s free (raised (1 + n) m) q rest) at
    in
    ap (λ l. E ++ l) (code-joined s free (raised 1 m) (p + se) more rest ∙ ap (λ l. M ++ l) second) ∙ sym (append_assoc E M (arguments_code s free (raised (1 + n) m) (p + (se + sm)) rest))
code-joined s free m p (text_then text more) rest = code-joined s free m p more rest

-- the first arguments are ready where all are
pub first-ready : (s : Setting) (m : Mark) (p : ℕ) (first rest : Arguments) → AreReady s m p (joined first rest) → AreReady s m p first
first-ready s m p first rest r =
    let spelled = spelled-joined first rest r.fits.spelled in
    record {
      fits = record {
        spelled = spelled.0;
        operands = omega (arith, r.fits.operands, height-first first rest);
        handlers = r.fits.handlers;
        rec = r.fits.rec;
      };
      places = omega (arith, r.places, size-joined s first rest);
    }

-- and so are the others behind them
rest-ready : (s : Setting) (m m' : Mark) (p p' : ℕ) (first rest : Arguments) → AreReady s m p (joined first rest) → m' ≡ raised (numbers_in first) m → p' ≡ p + arguments_size s first → AreReady s m' p' rest
rest-ready s m m' p p' first rest r same at =
    let spelled = spelled-joined first rest r.fits.spelled in
    let height : m'.height ≡ m.height + numbers_in first = ap (λ x. x.height) same in
    let tries : m'.tries ≡ m.tries = ap (λ x. x.tries) same in
    let rec : m'.rec ≡ m.rec = ap (λ x. x.rec) same in
    record {
      fits = record {
        spelled = spelled.1;
        operands = omega (arith, r.fits.operands, height-joined first rest, height);
        handlers = omega (arith, r.fits.handlers, tries);
        rec = omega (arith, r.fits.rec, rec);
      };
      places = omega (arith, r.places, size-joined s first rest, at);
    }

-- what is there and the code of the rest are the code of all, and the rest can be put
pub record ArePutSoFar (s : Setting) (free : ℕ) (mark above : Mark) (before now : List CodeLine) (all rest : Arguments) : Type 0 where
  pub code : now ++ arguments_code s free above (length now) rest ≡ before ++ arguments_code s free mark (length before) all
  pub longer : length now + arguments_size s rest ≡ length before + arguments_size s all
  pub marked : raised (numbers_in rest) above ≡ raised (numbers_in all) mark
  pub ready : AreReady s above (length now) rest

-- an argument more is put
pub argument-put : (s : Setting) (free : ℕ) (mark above above' : Mark) (before now now' : List CodeLine) (all rest : Arguments) (argument : Argument) → ArePutSoFar s free mark above before now all (argument_of argument rest) → now' ≡ now ++ arguments_code s free above (length now) (argument_of argument no_more) → length now' ≡ length now + arguments_size s (argument_of argument no_more) → above' ≡ raised (numbers_in (argument_of argument no_more)) above → ArePutSoFar s free mark above' before now' all rest
argument-put s free mark above above' before now now' all rest argument so_far put longer same =
    let first = argument_of argument no_more in
    let tree = argument-joined argument rest in
    let F = arguments_code s free above (length now) first in
    let R = arguments_code s free (raised (numbers_in first) above) (length now + arguments_size s first) rest in
    let whole : arguments_code s free above (length now) (argument_of argument rest) ≡ F ++ R = ap (arguments_code s free above (length now)) tree ∙ code-joined s free above (length now) first rest in
    let there : now' ++ arguments_code s free above' (length now') rest ≡ (now ++ F) ++ R = cc in
    let size : arguments_size s (argument_of argument rest) ≡ arguments_size s first + arguments_size s rest = ap (arguments_size s) tree ∙ size-joined s first rest in
    let marks : raised (numbers_in (argument_of argument rest)) above ≡ raised (numbers_in (joined first rest)) above = ap (λ args. raised (numbers_in args) above) tree in
    record {
      code = there ∙ append_assoc now F R ∙ ap (λ l. now ++ l) (sym whole) ∙ so_far.code;
      longer = omega (arith, so_far.longer, size, longer);
      marked = ap (raised (numbers_in rest)) same ∙ raised-joined first rest above ∙ sym marks ∙ so_far.marked;
      ready = rest-ready s above above' (length now) (length now') first rest (subst (AreReady s above (length now)) tree so_far.ready) same longer;
    }

-- the argument itself is ready
pub argument-ready : (s : Setting) (m : Mark) (p : ℕ) (argument : Argument) (rest : Arguments) → AreReady s m p (argument_of argument rest) → AreReady s m p (argument_of argument no_more)
argument-ready s m p argument rest r =
    first-ready s m p (argument_of argument no_more) rest (subst (AreReady s m p) (argument-joined argument rest) r)

-- all are put
pub all-put : (s : Setting) (free : ℕ) (mark above : Mark) (before now : List CodeLine) (all : Arguments) → ArePutSoFar s free mark above before now all no_more → now ≡ before ++ arguments_code s free mark (length before) all
all-put s free mark above before now all so_far = sym (append-nil now) ∙ so_far.code
