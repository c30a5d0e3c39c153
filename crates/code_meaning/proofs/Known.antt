-- What the induction over the tree goes by: what is known of the code's texts and of the calls, and where a part stands.
use Rattle.std.proofs.Common.{◌≡◌, ℕ, ◌+◌, ◌≤◌, List, [], ◌∷◌, ◌++◌, length, reverse, slice_get, Some, ap, subst, arith, append-nil}
use Rattle.std.specs.Prelude.{Bool, true, false, ℤ, ⊤, is_some}
use Rattle.rtio_types.specs.declared.request.Reply.{Reply}
use Rattle.kern_syntax.specs.Tree.{Bytes, Arguments, no_more, value_then, text_then, FunctionTree}
use Rattle.kern_expression_types.specs.Before.{is_in}
use Rattle.kern_calls.specs.Types.{function_named}
use Rattle.timeline_sem.specs.Actions.{Action}
use Rattle.timeline_sem.specs.Expressions.{Callee, text_in}
use Rattle.timeline_sem.proofs.Keeps.{Keeps}
use Rattle.core_isa.specs.declared.code.Code.{Code}
use Rattle.core_isa.specs.declared.instr.Instr.TheVariants as I
use Rattle.code_forms.specs.Setting as C
use Rattle.code_forms.specs.Texts.{expression_texts, argument_texts}
use Rattle.code_follows.specs.Stands.{Local, holding, Setting, Fits64, AllFit64, result_operands}
use Rattle.code_follows.specs.Parts.{Moved, Follows, Stand, deeper}
use Rattle.code_follows.proofs.Compose.{moved}
use Rattle.code_forms.specs.Suited.{has_text}

-- these texts are all among those
abbrev pub TextsIn : (known texts : List Bytes) → Type 0
TextsIn known [] = Unit {0}
TextsIn known (text ∷ texts) = (is_in known text ≡ true) × TextsIn known texts

pub in_front : (known a b : List Bytes) → TextsIn known (a ++ b) → TextsIn known a
in_front known [] b t = tt
in_front known (x ∷ a) b t = (t.0, in_front known a b t.1)

pub in_back : (known a b : List Bytes) → TextsIn known (a ++ b) → TextsIn known b
in_back known [] b t = t
in_back known (x ∷ a) b t = in_back known a b t.1

-- the text of a call is among them, where there is one
pub its_text : (known : List Bytes) (args : Arguments) → has_text args ≡ true → TextsIn known (argument_texts args) → is_in known (text_in args) ≡ true
its_text known no_more e t = absurd (Rattle.std.proofs.lemmas.Bool.false≢true e)
its_text known (value_then x rest) e t = its_text known rest e (in_back known (expression_texts x) (argument_texts rest) t)
its_text known (text_then text rest) e t = t.0

-- what is known of the code: its texts, and what calls of the program's functions do, where so many further functions may
-- be active
pub record Known (given : List Reply) (code : Code) (cs : C.Setting) (plain : List Bytes) (callee : Callee) (room : ℕ) : Type 0 where
  pub named : (text : Bytes) → is_in cs.texts text ≡ true → slice_get code.names (C.index_of_text cs text) ≡ Some text
  pub calls : (f : Bytes) (called : FunctionTree)
      → function_named cs.scope.program f ≡ Some called
      → (numbers : List ℤ)
      → length called.parameters ≡ length numbers
      → AllFit64 numbers
      → (most : ℕ) (setting : Setting) (first : ℕ)
      → setting.room ≡ room
      → (setting.outside ≡ false → is_in plain f ≡ true)
      → Stand code.lines first (I.Call (C.index_of_function cs f) ∷ [])
      → Follows given code ⊤ most setting first (first + 1) (holding (reverse numbers)) Fits64 (λ v. holding (result_operands (is_some called.result) v)) (callee f numbers)
  pub moves : (f : Bytes) (numbers : List ℤ) → Keeps Moved Moved moved (callee f numbers)

-- where an expression stands: its names, the first slot that is free, how many further functions may be active, and whether
-- a recording may be open
pub record At (cs : C.Setting) (active first_free : ℕ) (in_record : Bool) (setting : Setting) : Type 0 where
  pub names : setting.names ≡ cs.scope.names
  pub free : C.slots_of_names setting.names + length setting.temporaries ≡ first_free
  pub limit : length setting.temporaries + 1 ≤ setting.limit
  pub room : setting.room ≡ active
  pub outside : setting.outside ≡ false → in_record ≡ true

-- the same with nothing more in temporary slots
pub at_deeper : (cs : C.Setting) (room free : ℕ) (d : Bool) (setting : Setting) → At cs room free d setting → At cs room free d (deeper [] setting)
at_deeper cs room free d setting at =
    let long : length (setting.temporaries ++ []) ≡ length setting.temporaries = ap length (append-nil setting.temporaries) in
    record { names = at.names; free = omega (arith, at.free, long); limit = omega (arith, at.limit, long); room = at.room; outside = at.outside }

-- a claim with another first place, or another place behind
module _ (given : List Reply) (code : Code) where
  pub follows_to : {A : Type 0} {premise : Type 0} {most : ℕ} {setting : Setting} {first past past' : ℕ} {inputs : Local} {good : A → Type 0} {results : A → Local} {m : Action A} → past ≡ past' → Follows given code premise most setting first past inputs good results m → Follows given code premise most setting first past' inputs good results m
  follows_to {premise = premise} {most = most} {setting = setting} {first = first} {inputs = inputs} {good = good} {results = results} {m = m} e f =
      subst (λ p. Follows given code premise most setting first p inputs good results m) e f

  pub follows_from : {A : Type 0} {premise : Type 0} {most : ℕ} {setting : Setting} {first first' past : ℕ} {inputs : Local} {good : A → Type 0} {results : A → Local} {m : Action A} → first ≡ first' → Follows given code premise most setting first past inputs good results m → Follows given code premise most setting first' past inputs good results m
  follows_from {premise = premise} {most = most} {setting = setting} {past = past} {inputs = inputs} {good = good} {results = results} {m = m} e f =
      subst (λ p. Follows given code premise most setting p past inputs good results m) e f
