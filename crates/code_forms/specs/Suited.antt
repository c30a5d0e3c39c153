-- What a typed program gives the compiler: its names are there with the right kinds, its calls have what they take, and
-- nothing leaves a block that it may not leave.
use Rattle.std.specs.Prelude.{◌≡◌, ℕ, ◌<◌, ◌≤◌, ◌^◌, List, [], ◌∷◌, length, Bool}
use Rattle.std.specs.Prelude.{true, false, Option, Some, None, is_some, slice_get}
use Rattle.kern_syntax.specs.Tree.{Bytes, Expression, integer, true_literal, false_literal, variable, element}
use Rattle.kern_syntax.specs.Tree.{group, unary, binary, compare, negation, conjunction, disjunction, call, method}
use Rattle.kern_syntax.specs.Tree.{Arguments, no_more, value_then, text_then, Statement, pass, break, continue}
use Rattle.kern_syntax.specs.Tree.{return, evaluate, assign, assign_element, augment, augment_element}
use Rattle.kern_syntax.specs.Tree.{assign_repeated, assign_list, if_then, while_do, for_range, parallel, sequential}
use Rattle.kern_syntax.specs.Tree.{record_as, try_do, Block, done, line_then, Otherwise, no_else, else_do}
use Rattle.kern_syntax.specs.Tree.{elif_then, Handlers, no_handler, except_then, FunctionTree, ProgramTree}
use Rattle.kern_calls.specs.declared.types.ValueType.{ValueType}
use Rattle.kern_calls.specs.declared.types.ValueType.TheVariants as V
use Rattle.kern_types.specs.Plain.{is_in}
use Rattle.kern_calls.specs.declared.calls.Builtin.{Builtin}
use Rattle.kern_calls.specs.declared.calls.Builtin.TheVariants.{NowMu, SetDataset}
use Rattle.kern_calls.specs.declared.calls.Operation.{Operation}
use Rattle.kern_calls.specs.declared.calls.Operation.TheVariants.{On, Off, Write, Counter, BreakRealtime}
use Rattle.kern_calls.specs.declared.calls.Operation.TheVariants.{Reset, Playback, GetHandle, Erase}
use Rattle.kern_calls.specs.Calls.{look_up, builtin_named, builtin_is_live, method_named, is_live}
use Rattle.kern_calls.specs.Types.{Names, function_named, names_of}
use Rattle.code_forms.specs.ExpressionCode.{numbers_in}
use Rattle.code_forms.specs.Operations.{call_has_value, method_has_value, takes_numbers, array_argument}
use Rattle.code_forms.specs.Programs.{setting_of, plain_names}
use Rattle.code_forms.specs.Setting.{Setting}
use Rattle.code_forms.specs.Texts.{texts_of}

-- a type of one number
abbrev pub is_scalar : ValueType → Bool
is_scalar (V.Array n) = false
is_scalar t = true

-- a name of the function that is no array, and one that is an array of this length
abbrev pub IsScalarName : Setting → Bytes → Type 0
IsScalarName setting x = (t : ValueType) × (look_up setting.scope.names x ≡ Some t) × (is_scalar t ≡ true)

abbrev pub IsArrayName : Setting → Bytes → ℕ → Type 0
IsArrayName setting x n = look_up setting.scope.names x ≡ Some (V.Array n)

-- how many numbers a function of the language takes, and a method
abbrev pub builtin_numbers : Builtin → ℕ
builtin_numbers NowMu = 0
builtin_numbers builtin = 1

abbrev pub operation_numbers : Operation → ℕ
operation_numbers (On c) = 0
operation_numbers (Off c) = 0
operation_numbers (Write c) = 2
operation_numbers Counter = 0
operation_numbers BreakRealtime = 0
operation_numbers Reset = 0
operation_numbers Playback = 0
operation_numbers GetHandle = 0
operation_numbers Erase = 0
operation_numbers op = 1

-- whether a text is among what it takes
abbrev pub builtin_takes_text : Builtin → Bool
builtin_takes_text SetDataset = true
builtin_takes_text builtin = false

abbrev pub operation_takes_text : Operation → Bool
operation_takes_text Playback = true
operation_takes_text GetHandle = true
operation_takes_text Erase = true
operation_takes_text op = false

-- there is a text among arguments
abbrev pub has_text : Arguments → Bool
has_text no_more = false
has_text (value_then e rest) = has_text rest
has_text (text_then text rest) = true

-- an argument that is an array, of a length that an int64 holds
abbrev pub IsAnArray : Setting → Option Bytes → Type 0
IsAnArray setting None = ⊥
IsAnArray setting (Some x) = (n : ℕ) × IsArrayName setting x n × (n < 2 ^ 63)

-- a call by name has what it takes: numbers, or an array. A function
-- of the program is there, and is plain where a recording may be open
abbrev pub HasWhatItTakes : Setting → (plain : List Bytes) → (in_record : Bool) → (name : Bytes) → Arguments → (array : Option Bytes) → Option Builtin → Type 0
HasWhatItTakes setting plain d f args array None =
    (called : FunctionTree)
    × (function_named setting.scope.program f ≡ Some called)
    × (length called.parameters ≡ numbers_in args)
    × (d ≡ true → is_in plain f ≡ true)
HasWhatItTakes setting plain d f args array (Some builtin) =
    (numbers_in args ≡ builtin_numbers builtin)
    × (builtin_takes_text builtin ≡ true → has_text args ≡ true)
    × (takes_numbers array (Some builtin) ≡ false → IsAnArray setting array)

-- so does a method
abbrev pub MethodHasWhatItTakes : Arguments → Option Operation → Type 0
MethodHasWhatItTakes args None = ⊥
MethodHasWhatItTakes args (Some op) =
    (numbers_in args ≡ operation_numbers op) × (operation_takes_text op ≡ true → has_text args ≡ true)

-- a call of the language's own, and a method, that may not stand in a recording
abbrev pub call_is_live : Option Builtin → Bool
call_is_live None = false
call_is_live (Some builtin) = builtin_is_live builtin

abbrev pub method_is_live : Option Operation → Bool
method_is_live None = false
method_is_live (Some op) = is_live op

-- where a recording may be open a call isn't live
abbrev pub IsStill : (in_record live : Bool) → Type 0
IsStill d live = d ≡ true → live ≡ false

module _ (setting : Setting) (plain : List Bytes) where
  abbrev mutual
    -- an expression that has a value, where it may stand in a record block or not
    pub IsSuited : (in_record : Bool) → Expression → Type 0
    IsSuited d (integer n) = n < 2 ^ 63
    IsSuited d true_literal = Unit {0}
    IsSuited d false_literal = Unit {0}
    IsSuited d (variable x) = IsScalarName setting x
    IsSuited d (element x i) = (n : ℕ) × IsArrayName setting x n × IsSuited d i
    IsSuited d (group e) = IsSuited d e
    IsSuited d (unary op e) = IsSuited d e
    IsSuited d (binary op a b) = IsSuited d a × IsSuited d b
    IsSuited d (compare op a b) = IsSuited d a × IsSuited d b
    IsSuited d (negation e) = IsSuited d e
    IsSuited d (conjunction a b) = IsSuited d a × IsSuited d b
    IsSuited d (disjunction a b) = IsSuited d a × IsSuited d b
    IsSuited d (call f args) =
        (call_has_value setting f (builtin_named f) ≡ true)
        × HasWhatItTakes setting plain d f args (array_argument setting args) (builtin_named f)
        × (takes_numbers (array_argument setting args) (builtin_named f) ≡ true → AreSuited d args)
        × IsStill d (call_is_live (builtin_named f))
    IsSuited d (method o m args) =
        (method_has_value (method_named o m) ≡ true)
        × MethodHasWhatItTakes args (method_named o m)
        × AreSuited d args
        × IsStill d (method_is_live (method_named o m))

    -- arguments
    pub AreSuited : (in_record : Bool) → Arguments → Type 0
    AreSuited d no_more = Unit {0}
    AreSuited d (value_then e rest) = IsSuited d e × AreSuited d rest
    AreSuited d (text_then text rest) = AreSuited d rest

  -- an expression that may have no value
  abbrev pub IsSuitedAlone : (in_record : Bool) → Expression → Type 0
  IsSuitedAlone d (group e) = IsSuitedAlone d e
  IsSuitedAlone d (call f args) =
      HasWhatItTakes setting plain d f args (array_argument setting args) (builtin_named f)
      × (takes_numbers (array_argument setting args) (builtin_named f) ≡ true → AreSuited d args)
      × IsStill d (call_is_live (builtin_named f))
  IsSuitedAlone d (method o m args) =
      MethodHasWhatItTakes args (method_named o m)
      × AreSuited d args
      × IsStill d (method_is_live (method_named o m))
  IsSuitedAlone d e = IsSuited d e

  abbrev pub IfThereSuited : (in_record : Bool) → Option Expression → Type 0
  IfThereSuited d None = Unit {0}
  IfThereSuited d (Some e) = IsSuited d e

  abbrev pub EachSuited : (in_record : Bool) → List Expression → Type 0
  EachSuited d [] = Unit {0}
  EachSuited d (e ∷ es) = IsSuited d e × EachSuited d es

  abbrev mutual
    -- a statement, where it may leave a loop, where it may return, and where it stands in a record block or not
    pub IsSuitedStatement : (in_loop may_return in_record : Bool) → Statement → Type 0
    IsSuitedStatement l r d pass = Unit {0}
    IsSuitedStatement l r d break = l ≡ true
    IsSuitedStatement l r d continue = l ≡ true
    IsSuitedStatement l r d (return e) = (r ≡ true) × IfThereSuited d e × (is_some e ≡ setting.value)
    IsSuitedStatement l r d (evaluate e) = IsSuitedAlone d e
    IsSuitedStatement l r d (assign x e) = IsScalarName setting x × IsSuited d e
    IsSuitedStatement l r d (assign_element x i e) = (n : ℕ) × IsArrayName setting x n × IsSuited d i × IsSuited d e
    IsSuitedStatement l r d (augment x op e) = IsScalarName setting x × IsSuited d e
    IsSuitedStatement l r d (augment_element x i op e) = (n : ℕ) × IsArrayName setting x n × IsSuited d i × IsSuited d e
    IsSuitedStatement l r d (assign_repeated x e n) = IsArrayName setting x n × IsSuited d e
    IsSuitedStatement l r d (assign_list x es) = IsArrayName setting x (length es) × EachSuited d es
    IsSuitedStatement l r d (if_then c b rest) =
        IsSuited d c × IsSuitedBlock l r d b × IsSuitedOtherwise l r d rest
    IsSuitedStatement l r d (while_do c b) = IsSuited d c × IsSuitedBlock true r d b
    IsSuitedStatement l r d (for_range x from to b) =
        IsScalarName setting x × IfThereSuited d from × IsSuited d to × IsSuitedBlock true r d b
    IsSuitedStatement l r d (parallel b) = IsSuitedBlock false false d b
    IsSuitedStatement l r d (sequential b) = IsSuitedBlock l r d b
    IsSuitedStatement l r d (record_as name b) = (d ≡ false) × IsSuitedBlock false false true b
    IsSuitedStatement l r d (try_do b handlers) = IsSuitedBlock l r d b × AreSuitedHandlers l r d handlers

    -- the statements of a block
    pub IsSuitedBlock : (in_loop may_return in_record : Bool) → Block → Type 0
    IsSuitedBlock l r d done = Unit {0}
    IsSuitedBlock l r d (line_then line s rest) = IsSuitedStatement l r d s × IsSuitedBlock l r d rest

    -- the further branches of an `if`
    pub IsSuitedOtherwise : (in_loop may_return in_record : Bool) → Otherwise → Type 0
    IsSuitedOtherwise l r d no_else = Unit {0}
    IsSuitedOtherwise l r d (else_do b) = IsSuitedBlock l r d b
    IsSuitedOtherwise l r d (elif_then line c b rest) =
        IsSuited d c × IsSuitedBlock l r d b × IsSuitedOtherwise l r d rest

    -- handlers
    pub AreSuitedHandlers : (in_loop may_return in_record : Bool) → Handlers → Type 0
    AreSuitedHandlers l r d no_handler = Unit {0}
    AreSuitedHandlers l r d (except_then line x b rest) = IsSuitedBlock l r d b × AreSuitedHandlers l r d rest

-- a type of one number, or an array of 1 to 512 numbers
abbrev pub IsSized : ValueType → Type 0
IsSized (V.Array n) = (1 ≤ n) × (n ≤ 512)
IsSized t = Unit {0}

-- so are the types of some names
abbrev pub AreSized : Names → Type 0
AreSized [] = Unit {0}
AreSized (name ∷ names) = IsSized name.1 × AreSized names

-- a function has at most 64 names, each of a size, and at most 8 of them are parameters
pub record HasFewNames (program : ProgramTree) (f : FunctionTree) : Type 0 where
  pub sized : AreSized (names_of program f)
  pub few : length (names_of program f) ≤ 64
  pub parameters : length f.parameters ≤ 8

-- the functions of a program: each is suited, a plain one also where a recording is open, and each has few names
abbrev pub IsSuitedProgram : ProgramTree → Type 0
IsSuitedProgram program =
    (k : ℕ) (f : FunctionTree)
    → slice_get program k ≡ Some f
    → IsSuitedBlock (setting_of program (texts_of program) f) (plain_names [] program) false true false f.body
    × (is_in (plain_names [] program) f.name ≡ true → IsSuitedBlock (setting_of program (texts_of program) f) (plain_names [] program) false true true f.body)
    × HasFewNames program f
