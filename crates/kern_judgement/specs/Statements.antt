-- Which statements are typed, and the names with their types behind each: a rule for each form.
use Rattle.std.specs.Prelude.{◌≡◌, ℕ, ◌≤◌, ◌<◌, List, [], ◌∷◌, ◌++◌, length, true, false, Option, Some, None}
use Rattle.kern_syntax.specs.declared.program.DeclaredType.{DeclaredType}
use Rattle.kern_syntax.specs.declared.statement.Augment.{Augment}
use Rattle.kern_syntax.specs.Tree.{Bytes, Expression, Statement, pass, evaluate, assign, assign_element}
use Rattle.kern_syntax.specs.Tree.{augment, augment_element, assign_repeated, assign_list, if_then, while_do}
use Rattle.kern_syntax.specs.Tree.{for_range, parallel, sequential, record_as, try_do, Block, done, line_then}
use Rattle.kern_syntax.specs.Tree.{Otherwise, no_else, else_do, elif_then, Handlers, no_handler, except_then}
use Rattle.kern_syntax.specs.Tree as T
use Rattle.kern_calls.specs.declared.types.ValueType.{ValueType}
use Rattle.kern_calls.specs.declared.types.ValueType.TheVariants as V
use Rattle.kern_calls.specs.Calls.{look_up}
use Rattle.kern_calls.specs.Types.{Names, wider_type}
use Rattle.kern_expression_types.specs.declared.place.Given.{Given}
use Rattle.kern_expression_types.specs.declared.place.Given.TheVariants.{Typed}
use Rattle.kern_expression_types.specs.Fits.{declared_wanted}
use Rattle.kern_expression_types.specs.Before.{Functions, is_in, is_taken, exceptions}
use Rattle.kern_types.specs.Statements.{most_names}
use Rattle.kern_judgement.specs.Fitting.{Standing, in_a_loop, in_parallel, in_a_record}
use Rattle.kern_judgement.specs.Fitting.{IsInteger, IsScalar, IsNoArray, Fits, Keeps}
use Rattle.kern_judgement.specs.Expressions.{HasType, IsAnInteger, AreIntegers}

module _ (functions : Functions) where
  -- a value of a type is assigned to a name: a new name goes behind the others
  -- with this type, where there is room, and one that is there keeps its own
  pub data Takes (x : Bytes) (t : ValueType) (names : Names) : (after : Names) → Type 0 where
    new : is_taken functions x ≡ false → look_up names x ≡ None → length names < most_names → Takes x t names (names ++ (x, t) ∷ [])
    kept : {held : ValueType} → is_taken functions x ≡ false → look_up names x ≡ Some held → Keeps held t → Takes x t names names

  -- what a `return` has, where its function gives this
  pub data Returns (here : Standing) (names : Names) : Option DeclaredType → Option Expression → Type 0 where
    nothing : Returns here names None None
    a_value : {declared : DeclaredType} {e : Expression} {g : Given} → HasType functions here names e g
        → Fits (declared_wanted declared) g → Returns here names (Some declared) (Some e)

  -- the type of a loop's variable, from its bounds
  pub data HasBounds (here : Standing) (names : Names) : Option Expression → Expression → ValueType → Type 0 where
    from_zero : {to : Expression} {t : ValueType} → HasType functions here names to (Typed t) → IsInteger t → HasBounds here names None to t
    between : {from to : Expression} {t u : ValueType} → HasType functions here names from (Typed t) → IsInteger t
        → HasType functions here names to (Typed u) → IsInteger u → HasBounds here names (Some from) to (wider_type t u)

  -- an array of this name is there
  abbrev pub IsArray : Names → Bytes → Type 0
  IsArray names x = (n : ℕ) × (look_up names x ≡ Some (V.Array n))

  mutual
    -- a statement is typed that stands here behind these names, and leaves those
    pub data IsTypedStatement : (here : Standing) (names : Names) → Statement → (after : Names) → Type 0 where
      of_pass : {here : Standing} {names : Names} → IsTypedStatement here names pass names
      of_break : {here : Standing} {names : Names} → here.in_loop ≡ true → IsTypedStatement here names T.break names
      of_continue : {here : Standing} {names : Names} → here.in_loop ≡ true → IsTypedStatement here names T.continue names
      of_return : {here : Standing} {names : Names} {e : Option Expression} → Returns here names here.result e → here.may_return ≡ true
          → IsTypedStatement here names (T.return e) names
      of_evaluate : {here : Standing} {names : Names} {e : Expression} {g : Given} → HasType functions here names e g → IsNoArray g
          → IsTypedStatement here names (evaluate e) names
      of_assign : {here : Standing} {names : Names} {x : Bytes} {e : Expression} {t : ValueType} {after : Names}
          → HasType functions here names e (Typed t) → IsScalar t → Takes x t names after → IsTypedStatement here names (assign x e) after
      of_assign_element : {here : Standing} {names : Names} {x : Bytes} {i e : Expression} → IsArray names x
          → IsAnInteger functions here names i → IsAnInteger functions here names e
          → IsTypedStatement here names (assign_element x i e) names
      -- the sum has to fit what the name holds
      of_augment : {here : Standing} {names : Names} {x : Bytes} {op : Augment} {e : Expression} {t u : ValueType}
          → look_up names x ≡ Some t → IsInteger t → HasType functions here names e (Typed u) → IsInteger u → Keeps t (wider_type t u)
          → IsTypedStatement here names (augment x op e) names
      of_augment_element : {here : Standing} {names : Names} {x : Bytes} {i : Expression} {op : Augment} {e : Expression}
          → IsArray names x → IsAnInteger functions here names i → IsAnInteger functions here names e
          → IsTypedStatement here names (augment_element x i op e) names
      of_assign_repeated : {here : Standing} {names : Names} {x : Bytes} {e : Expression} {n : ℕ} {after : Names}
          → IsAnInteger functions here names e → 1 ≤ n → n ≤ 512 → Takes x (V.Array n) names after
          → IsTypedStatement here names (assign_repeated x e n) after
      of_assign_list : {here : Standing} {names : Names} {x : Bytes} {es : List Expression} {after : Names}
          → AreIntegers functions here names es → 1 ≤ length es → length es ≤ 512 → Takes x (V.Array (length es)) names after
          → IsTypedStatement here names (assign_list x es) after
      of_if : {here : Standing} {names : Names} {condition : Expression} {body : Block} {rest : Otherwise} {between after : Names}
          → HasType functions here names condition (Typed V.Bool) → IsTypedBlock here names body between
          → AreTypedBranches here between rest after → IsTypedStatement here names (if_then condition body rest) after
      of_while : {here : Standing} {names : Names} {condition : Expression} {body : Block} {after : Names}
          → HasType functions here names condition (Typed V.Bool) → IsTypedBlock (in_a_loop here) names body after
          → IsTypedStatement here names (while_do condition body) after
      of_for : {here : Standing} {names : Names} {x : Bytes} {from : Option Expression} {to : Expression} {body : Block} {t : ValueType} {between after : Names}
          → HasBounds here names from to t → Takes x t names between → IsTypedBlock (in_a_loop here) between body after
          → IsTypedStatement here names (for_range x from to body) after
      of_parallel : {here : Standing} {names : Names} {body : Block} {after : Names} → IsTypedBlock (in_parallel here) names body after
          → IsTypedStatement here names (parallel body) after
      of_sequential : {here : Standing} {names : Names} {body : Block} {after : Names} → IsTypedBlock here names body after
          → IsTypedStatement here names (sequential body) after
      of_record : {here : Standing} {names : Names} {name : Bytes} {body : Block} {after : Names} → here.in_record ≡ false
          → IsTypedBlock (in_a_record here) names body after → IsTypedStatement here names (record_as name body) after
      of_try : {here : Standing} {names : Names} {body : Block} {handlers : Handlers} {between after : Names}
          → IsTypedBlock here names body between → AreTypedHandlers here between handlers after
          → IsTypedStatement here names (try_do body handlers) after

    -- the statements of a block, one behind the other
    pub data IsTypedBlock : (here : Standing) (names : Names) → Block → (after : Names) → Type 0 where
      of_done : {here : Standing} {names : Names} → IsTypedBlock here names done names
      of_line : {here : Standing} {names : Names} {line : ℕ} {s : Statement} {rest : Block} {between after : Names}
          → IsTypedStatement here names s between → IsTypedBlock here between rest after
          → IsTypedBlock here names (line_then line s rest) after

    -- the further branches of an `if`
    pub data AreTypedBranches : (here : Standing) (names : Names) → Otherwise → (after : Names) → Type 0 where
      of_no_else : {here : Standing} {names : Names} → AreTypedBranches here names no_else names
      of_else : {here : Standing} {names : Names} {body : Block} {after : Names} → IsTypedBlock here names body after
          → AreTypedBranches here names (else_do body) after
      of_elif : {here : Standing} {names : Names} {line : ℕ} {condition : Expression} {body : Block} {rest : Otherwise} {between after : Names}
          → HasType functions here names condition (Typed V.Bool) → IsTypedBlock here names body between
          → AreTypedBranches here between rest after → AreTypedBranches here names (elif_then line condition body rest) after

    -- the `except` branches of a `try`, each of an exception that there is
    pub data AreTypedHandlers : (here : Standing) (names : Names) → Handlers → (after : Names) → Type 0 where
      of_no_handler : {here : Standing} {names : Names} → AreTypedHandlers here names no_handler names
      of_except : {here : Standing} {names : Names} {line : ℕ} {exception : Bytes} {body : Block} {rest : Handlers} {between after : Names}
          → is_in exceptions exception ≡ true → IsTypedBlock here names body between → AreTypedHandlers here between rest after
          → AreTypedHandlers here names (except_then line exception body rest) after
