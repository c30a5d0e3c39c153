-- What stands in a plain function may stand where a recording is open.
use Rattle.std.proofs.Common.{◌≡◌, List, [], ◌∷◌, Option, Some, None, refl}
use Rattle.std.specs.Prelude.{Bool, true, false, not, ◌&&◌}
use Rattle.std.specs.List.{list_all}
use Rattle.std.proofs.lemmas.Bool.{false≢true}
use Rattle.kern_syntax.specs.Tree as T
use Rattle.kern_syntax.specs.Tree.{Bytes, Expression, integer, true_literal, false_literal, variable, element, group, unary, binary, compare, negation, conjunction, disjunction, call, method, Arguments, no_more, value_then, text_then, Statement, pass, evaluate, assign, assign_element, augment, augment_element, assign_repeated, assign_list, if_then, while_do, for_range, parallel, sequential, record_as, try_do, Block, done, line_then, Otherwise, no_else, else_do, elif_then, Handlers, no_handler, except_then}
use Rattle.kern_calls.specs.declared.calls.Builtin.{Builtin}
use Rattle.kern_calls.specs.declared.calls.Operation.{Operation}
use Rattle.kern_calls.specs.Calls.{builtin_named, builtin_is_live, method_named, is_live}
use Rattle.kern_expression_types.specs.Before.{is_in}
use Rattle.kern_types.specs.Plain.{is_plain_call, is_plain_method, is_plain_expression, are_plain_arguments, is_plain_option, is_plain_statement, is_plain_block, is_plain_otherwise, are_plain_handlers}
use Rattle.code_forms.specs.Setting as C
use Rattle.code_forms.specs.Suited.{HasWhatItTakes, call_is_live, method_is_live, IsStill, IsSuited, AreSuited, IsSuitedAlone, IfThereSuited, EachSuited, IsSuitedStatement, IsSuitedBlock, IsSuitedOtherwise, AreSuitedHandlers}

-- both tests hold
first_holds : (a b : Bool) → (a && b) ≡ true → a ≡ true
first_holds true b e = refl
first_holds false b e = absurd (false≢true e)

second_holds : (a b : Bool) → (a && b) ≡ true → b ≡ true
second_holds true b e = e
second_holds false b e = absurd (false≢true e)

not_true : (b : Bool) → not b ≡ true → b ≡ false
not_true true e = absurd (false≢true e)
not_true false e = refl

module _ (cs : C.Setting) (plain given : List Bytes) (more : (name : Bytes) → is_in given name ≡ true → is_in plain name ≡ true) where
  has_open : (f : Bytes) (args : Arguments) (array : Option Bytes) (b : Option Builtin) → is_plain_call given f b ≡ true → HasWhatItTakes cs plain false f args array b → HasWhatItTakes cs plain true f args array b
  has_open f args array None e r = (r.0, r.1, r.2, λ q. more f e)
  has_open f args array (Some b) e r = r

  open_call : (f : Bytes) (b : Option Builtin) → is_plain_call given f b ≡ true → IsStill true (call_is_live b)
  open_call f None e q = refl
  open_call f (Some b) e q = not_true (builtin_is_live b) e

  open_method : (op : Option Operation) → is_plain_method op ≡ true → IsStill true (method_is_live op)
  open_method None e q = refl
  open_method (Some op) e q = not_true (is_live op) e

  mutual
    open_expression : (e : Expression) → is_plain_expression given e ≡ true → IsSuited cs plain false e → IsSuited cs plain true e
    open_expression (integer n) p r = r
    open_expression true_literal p r = r
    open_expression false_literal p r = r
    open_expression (variable x) p r = r
    open_expression (element x i) p r = (r.0, r.1, open_expression i p r.2)
    open_expression (group e) p r = open_expression e p r
    open_expression (unary op e) p r = open_expression e p r
    open_expression (binary op a b) p r = (open_expression a (first_holds _ _ p) r.0, open_expression b (second_holds _ _ p) r.1)
    open_expression (compare op a b) p r = (open_expression a (first_holds _ _ p) r.0, open_expression b (second_holds _ _ p) r.1)
    open_expression (negation e) p r = open_expression e p r
    open_expression (conjunction a b) p r = (open_expression a (first_holds _ _ p) r.0, open_expression b (second_holds _ _ p) r.1)
    open_expression (disjunction a b) p r = (open_expression a (first_holds _ _ p) r.0, open_expression b (second_holds _ _ p) r.1)
    open_expression (call f args) p r = (r.0, has_open f args _ (builtin_named f) (first_holds _ _ p) r.1, (λ q. open_arguments args (second_holds _ _ p) (r.2 q)), open_call f (builtin_named f) (first_holds _ _ p))
    open_expression (method o m args) p r = (r.0, r.1, open_arguments args (second_holds _ _ p) r.2, open_method (method_named o m) (first_holds _ _ p))

    open_arguments : (args : Arguments) → are_plain_arguments given args ≡ true → AreSuited cs plain false args → AreSuited cs plain true args
    open_arguments no_more p r = tt
    open_arguments (value_then e rest) p r = (open_expression e (first_holds _ _ p) r.0, open_arguments rest (second_holds _ _ p) r.1)
    open_arguments (text_then text rest) p r = open_arguments rest p r

  open_alone : (e : Expression) → is_plain_expression given e ≡ true → IsSuitedAlone cs plain false e → IsSuitedAlone cs plain true e
  open_alone (group e) p r = open_alone e p r
  open_alone (call f args) p r = (has_open f args _ (builtin_named f) (first_holds _ _ p) r.0, (λ q. open_arguments args (second_holds _ _ p) (r.1 q)), open_call f (builtin_named f) (first_holds _ _ p))
  open_alone (method o m args) p r = (r.0, open_arguments args (second_holds _ _ p) r.1, open_method (method_named o m) (first_holds _ _ p))
  open_alone (integer n) p r = open_expression (integer n) p r
  open_alone true_literal p r = open_expression true_literal p r
  open_alone false_literal p r = open_expression false_literal p r
  open_alone (variable x) p r = open_expression (variable x) p r
  open_alone (element x i) p r = open_expression (element x i) p r
  open_alone (unary op e) p r = open_expression (unary op e) p r
  open_alone (binary op a b) p r = open_expression (binary op a b) p r
  open_alone (compare op a b) p r = open_expression (compare op a b) p r
  open_alone (negation e) p r = open_expression (negation e) p r
  open_alone (conjunction a b) p r = open_expression (conjunction a b) p r
  open_alone (disjunction a b) p r = open_expression (disjunction a b) p r

  open_option : (e : Option Expression) → is_plain_option given e ≡ true → IfThereSuited cs plain false e → IfThereSuited cs plain true e
  open_option None p r = tt
  open_option (Some e) p r = open_expression e p r

  open_each : (es : List Expression) → list_all (is_plain_expression given) es ≡ true → EachSuited cs plain false es → EachSuited cs plain true es
  open_each [] p r = tt
  open_each (e ∷ es) p r = (open_expression e (first_holds _ _ p) r.0, open_each es (second_holds _ _ p) r.1)

  mutual
    open_statement : (l m : Bool) (s : Statement) → is_plain_statement given s ≡ true → IsSuitedStatement cs plain l m false s → IsSuitedStatement cs plain l m true s
    open_statement l m pass p r = tt
    open_statement l m T.break p r = r
    open_statement l m T.continue p r = r
    open_statement l m (T.return e) p r = (r.0, open_option e p r.1, r.2)
    open_statement l m (evaluate e) p r = open_alone e p r
    open_statement l m (assign x e) p r = (r.0, open_expression e p r.1)
    open_statement l m (assign_element x i e) p r = (r.0, r.1, open_expression i (first_holds _ _ p) r.2, open_expression e (second_holds _ _ p) r.3)
    open_statement l m (augment x op e) p r = (r.0, open_expression e p r.1)
    open_statement l m (augment_element x i op e) p r = (r.0, r.1, open_expression i (first_holds _ _ p) r.2, open_expression e (second_holds _ _ p) r.3)
    open_statement l m (assign_repeated x e n) p r = (r.0, open_expression e p r.1)
    open_statement l m (assign_list x es) p r = (r.0, open_each es p r.1)
    open_statement l m (if_then c b rest) p r =
        let q = second_holds _ _ p in
        (open_expression c (first_holds _ _ p) r.0, open_block l m b (first_holds _ _ q) r.1, open_otherwise l m rest (second_holds _ _ q) r.2)
    open_statement l m (while_do c b) p r = (open_expression c (first_holds _ _ p) r.0, open_block true m b (second_holds _ _ p) r.1)
    open_statement l m (for_range x from to b) p r =
        let q = second_holds _ _ p in
        (r.0, open_option from (first_holds _ _ p) r.1, open_expression to (first_holds _ _ q) r.2, open_block true m b (second_holds _ _ q) r.3)
    open_statement l m (parallel b) p r = open_block false false b p r
    open_statement l m (sequential b) p r = open_block l m b p r
    open_statement l m (record_as name b) p r = absurd (false≢true p)
    open_statement l m (try_do b handlers) p r = (open_block l m b (first_holds _ _ p) r.0, open_handlers l m handlers (second_holds _ _ p) r.1)

    pub open_block : (l m : Bool) (b : Block) → is_plain_block given b ≡ true → IsSuitedBlock cs plain l m false b → IsSuitedBlock cs plain l m true b
    open_block l m done p r = tt
    open_block l m (line_then ln s rest) p r = (open_statement l m s (first_holds _ _ p) r.0, open_block l m rest (second_holds _ _ p) r.1)

    open_otherwise : (l m : Bool) (rest : Otherwise) → is_plain_otherwise given rest ≡ true → IsSuitedOtherwise cs plain l m false rest → IsSuitedOtherwise cs plain l m true rest
    open_otherwise l m no_else p r = tt
    open_otherwise l m (else_do b) p r = open_block l m b p r
    open_otherwise l m (elif_then ln c b rest) p r =
        let q = second_holds _ _ p in
        (open_expression c (first_holds _ _ p) r.0, open_block l m b (first_holds _ _ q) r.1, open_otherwise l m rest (second_holds _ _ q) r.2)

    open_handlers : (l m : Bool) (handlers : Handlers) → are_plain_handlers given handlers ≡ true → AreSuitedHandlers cs plain l m false handlers → AreSuitedHandlers cs plain l m true handlers
    open_handlers l m no_handler p r = tt
    open_handlers l m (except_then ln x b rest) p r = (open_block l m b (first_holds _ _ p) r.0, open_handlers l m rest (second_holds _ _ p) r.1)
