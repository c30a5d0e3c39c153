-- What is suited can run.
use Rattle.std.proofs.Common.{◌≡◌, List, [], ◌∷◌, Option, Some, None, refl, sym, ap, ◌∙◌, arith}
use Rattle.std.specs.Prelude.{Bool, true, false, is_some}
use Rattle.std.proofs.lemmas.Bool.{false≢true}
use Rattle.kern_syntax.specs.Tree.{Bytes, Expression, integer, true_literal, false_literal, variable, element, group, unary, binary, compare, negation, conjunction, disjunction, call, method, Arguments, no_more, value_then, text_then, Statement, pass, break, continue, return, evaluate, assign, assign_element, augment, augment_element, assign_repeated, assign_list, if_then, while_do, for_range, parallel, sequential, record_as, try_do, Block, done, line_then, Otherwise, no_else, else_do, elif_then, Handlers, no_handler, except_then}
use Rattle.kern_calls.specs.declared.calls.Builtin.{Builtin}
use Rattle.kern_calls.specs.declared.calls.Builtin.TheVariants as B
use Rattle.kern_calls.specs.declared.calls.Operation.{Operation}
use Rattle.kern_calls.specs.declared.calls.Operation.TheVariants as P
use Rattle.kern_calls.specs.Calls.{builtin_named, method_named}
use Rattle.kern_calls.specs.Types.{Scope}
use Rattle.timeline_sem.specs.Expressions.{array_in}
use Rattle.code_forms.specs.ExpressionCode.{numbers_in}
use Rattle.code_forms.specs.Operations.{array_argument, takes_numbers}
use Rattle.code_forms.specs.Setting.{Setting}
use Rattle.code_forms.specs.Suited as S
use Rattle.code_forms.specs.Suited.{IsSuited, AreSuited, IsSuitedAlone, IfThereSuited, EachSuited, IsSuitedStatement, IsSuitedBlock, IsSuitedOtherwise, AreSuitedHandlers, IsAnArray, HasWhatItTakes, MethodHasWhatItTakes}
use Rattle.meaning_state.specs.Texts as T
use Rattle.meaning_steps.specs.Runnable.{has_text, BuiltinIsTold, CallIsTold, MethodIsTold, IsRunnable, AreRunnable}
use Rattle.meaning_steps.specs.RunnableStatements.{IfThereRunnable, EachRunnable, IsRunnableStatement, IsRunnableBlock, IsRunnableOtherwise, AreRunnableHandlers}

-- a text is found in the same way
same_text : (args : Arguments) → has_text args ≡ S.has_text args
same_text no_more = refl
same_text (value_then e rest) = same_text rest
same_text (text_then text rest) = refl

-- a call of the language's own has its text
builtin_told : (builtin : Builtin) (args : Arguments) → (S.builtin_takes_text builtin ≡ true → S.has_text args ≡ true) → BuiltinIsTold builtin args
builtin_told B.SetDataset args told = same_text args ∙ told refl
builtin_told B.NowMu args told = tt
builtin_told B.AtMu args told = tt
builtin_told B.DelayMu args told = tt
builtin_told B.Len args told = tt
builtin_told B.ToInt32 args told = tt
builtin_told B.ToInt64 args told = tt

call_told : (setting : Setting) (plain : List Bytes) (d : Bool) (f : Bytes) (args : Arguments) (array : Option Bytes) (builtin : Option Builtin) → HasWhatItTakes setting plain d f args array builtin → CallIsTold builtin args
call_told setting plain d f args array None has = tt
call_told setting plain d f args array (Some builtin) has = builtin_told builtin args has.1

-- a method takes a text in both ways of saying it
same_takes : (op : Operation) → T.operation_takes_text op ≡ S.operation_takes_text op
same_takes (P.On c) = refl
same_takes (P.Off c) = refl
same_takes (P.Pulse c) = refl
same_takes (P.Write c) = refl
same_takes (P.GateRising c) = refl
same_takes (P.GateFalling c) = refl
same_takes (P.GateBoth c) = refl
same_takes (P.Timestamp c) = refl
same_takes (P.Count c) = refl
same_takes P.Counter = refl
same_takes P.BreakRealtime = refl
same_takes P.Reset = refl
same_takes P.WaitUntil = refl
same_takes P.Playback = refl
same_takes P.PlaybackHandle = refl
same_takes P.GetHandle = refl
same_takes P.Erase = refl

method_told : (args : Arguments) (op : Option Operation) → MethodHasWhatItTakes args op → MethodIsTold op args
method_told args None has = tt
method_told args (Some op) has = λ takes. same_text args ∙ has.1 (sym (same_takes op) ∙ takes)

-- an array by its name can run
array_runs : (scope : Scope) (e : Expression) (x : Bytes) → array_in scope e ≡ Some x → IsRunnable e
array_runs scope (integer n) x is = absurd (false≢true (ap is_some is))
array_runs scope true_literal x is = tt
array_runs scope false_literal x is = tt
array_runs scope (variable y) x is = tt
array_runs scope (element y i) x is = absurd (false≢true (ap is_some is))
array_runs scope (group e) x is = array_runs scope e x is
array_runs scope (unary op e) x is = absurd (false≢true (ap is_some is))
array_runs scope (binary op a b) x is = absurd (false≢true (ap is_some is))
array_runs scope (compare op a b) x is = absurd (false≢true (ap is_some is))
array_runs scope (negation e) x is = absurd (false≢true (ap is_some is))
array_runs scope (conjunction a b) x is = absurd (false≢true (ap is_some is))
array_runs scope (disjunction a b) x is = absurd (false≢true (ap is_some is))
array_runs scope (call f args) x is = absurd (false≢true (ap is_some is))
array_runs scope (method o m args) x is = absurd (false≢true (ap is_some is))

-- arguments without a value can run
texts_run : (args : Arguments) → numbers_in args ≡ 0 → AreRunnable args
texts_run no_more none = tt
texts_run (value_then e rest) none = absurd (omega (arith, none))
texts_run (text_then text rest) none = texts_run rest none

-- and those with one that is an array
array_given : (setting : Setting) (args : Arguments) (x : Bytes) → numbers_in args ≡ 1 → array_argument setting args ≡ Some x → AreRunnable args
array_given setting no_more x one is = tt
array_given setting (value_then e rest) x one is = (array_runs setting.scope e x is, texts_run rest (omega (arith, one)))
array_given setting (text_then text rest) x one is = array_given setting rest x one is

some_array : (setting : Setting) (args : Arguments) (array : Option Bytes) → numbers_in args ≡ 1 → array_argument setting args ≡ array → IsAnArray setting array → AreRunnable args
some_array setting args None one is an = absurd an
some_array setting args (Some x) one is an = array_given setting args x one is

-- what a call takes can run, where its numbers are evaluated or where it takes an array
given_runs : (setting : Setting) (plain : List Bytes) (d : Bool) (f : Bytes) (args : Arguments) (builtin : Option Builtin) → HasWhatItTakes setting plain d f args (array_argument setting args) builtin → (takes_numbers (array_argument setting args) builtin ≡ true → AreRunnable args) → AreRunnable args
given_runs setting plain d f args builtin has run = by_test (takes_numbers (array_argument setting args) builtin) refl
  where
    by_array : (builtin : Option Builtin) → HasWhatItTakes setting plain d f args (array_argument setting args) builtin → takes_numbers (array_argument setting args) builtin ≡ false → AreRunnable args
    by_array None has fails = absurd (false≢true (sym fails ∙ always (array_argument setting args)))
      where
        always : (array : Option Bytes) → takes_numbers array None ≡ true
        always None = refl
        always (Some x) = refl
    by_array (Some B.SetDataset) has fails = some_array setting args (array_argument setting args) has.0 refl (has.2 fails)
    by_array (Some B.Len) has fails = some_array setting args (array_argument setting args) has.0 refl (has.2 fails)
    by_array (Some B.NowMu) has fails = texts_run args has.0
    by_array (Some B.AtMu) has fails = some_array setting args (array_argument setting args) has.0 refl (has.2 fails)
    by_array (Some B.DelayMu) has fails = some_array setting args (array_argument setting args) has.0 refl (has.2 fails)
    by_array (Some B.ToInt32) has fails = some_array setting args (array_argument setting args) has.0 refl (has.2 fails)
    by_array (Some B.ToInt64) has fails = some_array setting args (array_argument setting args) has.0 refl (has.2 fails)

    by_test : (b : Bool) → takes_numbers (array_argument setting args) builtin ≡ b → AreRunnable args
    by_test true is = run is
    by_test false is = by_array builtin has is

module _ (setting : Setting) (plain : List Bytes) where
  mutual
    -- an expression that is suited can run
    runs : (d : Bool) (e : Expression) → IsSuited setting plain d e → IsRunnable e
    runs d (integer n) s = s
    runs d true_literal s = tt
    runs d false_literal s = tt
    runs d (variable x) s = tt
    runs d (element x i) s = runs d i s.2
    runs d (group e) s = runs d e s
    runs d (unary op e) s = runs d e s
    runs d (binary op a b) s = (runs d a s.0, runs d b s.1)
    runs d (compare op a b) s = (runs d a s.0, runs d b s.1)
    runs d (negation e) s = runs d e s
    runs d (conjunction a b) s = (runs d a s.0, runs d b s.1)
    runs d (disjunction a b) s = (runs d a s.0, runs d b s.1)
    runs d (call f args) s =
        (call_told setting plain d f args (array_argument setting args) (builtin_named f) s.1, given_runs setting plain d f args (builtin_named f) s.1 (λ takes. all_run d args (s.2 takes)))
    runs d (method o m args) s = (method_told args (method_named o m) s.1, all_run d args s.2)

    -- and so can arguments
    all_run : (d : Bool) (args : Arguments) → AreSuited setting plain d args → AreRunnable args
    all_run d no_more s = tt
    all_run d (value_then e rest) s = (runs d e s.0, all_run d rest s.1)
    all_run d (text_then text rest) s = all_run d rest s

  -- an expression that may have no value
  alone_runs : (d : Bool) (e : Expression) → IsSuitedAlone setting plain d e → IsRunnable e
  alone_runs d (integer n) s = s
  alone_runs d true_literal s = tt
  alone_runs d false_literal s = tt
  alone_runs d (variable x) s = tt
  alone_runs d (element x i) s = runs d (element x i) s
  alone_runs d (group e) s = alone_runs d e s
  alone_runs d (unary op e) s = runs d e s
  alone_runs d (binary op a b) s = runs d (binary op a b) s
  alone_runs d (compare op a b) s = runs d (compare op a b) s
  alone_runs d (negation e) s = runs d e s
  alone_runs d (conjunction a b) s = runs d (conjunction a b) s
  alone_runs d (disjunction a b) s = runs d (disjunction a b) s
  alone_runs d (call f args) s =
      (call_told setting plain d f args (array_argument setting args) (builtin_named f) s.0, given_runs setting plain d f args (builtin_named f) s.0 (λ takes. all_run d args (s.1 takes)))
  alone_runs d (method o m args) s = (method_told args (method_named o m) s.0, all_run d args s.1)

  if_there_runs : (d : Bool) (e : Option Expression) → IfThereSuited setting plain d e → IfThereRunnable e
  if_there_runs d None s = tt
  if_there_runs d (Some e) s = runs d e s

  each_runs : (d : Bool) (es : List Expression) → EachSuited setting plain d es → EachRunnable es
  each_runs d [] s = tt
  each_runs d (e ∷ es) s = (runs d e s.0, each_runs d es s.1)

  mutual
    -- a statement that is suited can run
    statement_runs : (l r d : Bool) (s : Statement) → IsSuitedStatement setting plain l r d s → IsRunnableStatement s
    statement_runs l r d pass s = tt
    statement_runs l r d break s = tt
    statement_runs l r d continue s = tt
    statement_runs l r d (return e) s = if_there_runs d e s.1
    statement_runs l r d (evaluate e) s = alone_runs d e s
    statement_runs l r d (assign x e) s = runs d e s.1
    statement_runs l r d (assign_element x i e) s = (runs d i s.2, runs d e s.3)
    statement_runs l r d (augment x op e) s = runs d e s.1
    statement_runs l r d (augment_element x i op e) s = (runs d i s.2, runs d e s.3)
    statement_runs l r d (assign_repeated x e n) s = runs d e s.1
    statement_runs l r d (assign_list x es) s = each_runs d es s.1
    statement_runs l r d (if_then c b rest) s = (runs d c s.0, block_runs l r d b s.1, otherwise_runs l r d rest s.2)
    statement_runs l r d (while_do c b) s = (runs d c s.0, block_runs true r d b s.1)
    statement_runs l r d (for_range x from to b) s = (if_there_runs d from s.1, runs d to s.2, block_runs true r d b s.3)
    statement_runs l r d (parallel b) s = block_runs false false d b s
    statement_runs l r d (sequential b) s = block_runs l r d b s
    statement_runs l r d (record_as name b) s = block_runs false false true b s.1
    statement_runs l r d (try_do b handlers) s = (block_runs l r d b s.0, handlers_run l r d handlers s.1)

    -- the statements of a block
    pub block_runs : (l r d : Bool) (b : Block) → IsSuitedBlock setting plain l r d b → IsRunnableBlock b
    block_runs l r d done s = tt
    block_runs l r d (line_then line first rest) s = (statement_runs l r d first s.0, block_runs l r d rest s.1)

    -- the further branches of an `if`
    otherwise_runs : (l r d : Bool) (rest : Otherwise) → IsSuitedOtherwise setting plain l r d rest → IsRunnableOtherwise rest
    otherwise_runs l r d no_else s = tt
    otherwise_runs l r d (else_do b) s = block_runs l r d b s
    otherwise_runs l r d (elif_then line c b rest) s = (runs d c s.0, block_runs l r d b s.1, otherwise_runs l r d rest s.2)

    -- handlers
    handlers_run : (l r d : Bool) (handlers : Handlers) → AreSuitedHandlers setting plain l r d handlers → AreRunnableHandlers handlers
    handlers_run l r d no_handler s = tt
    handlers_run l r d (except_then line x b rest) s = (block_runs l r d b s.0, handlers_run l r d rest s.1)
