-- The code of every function does what its body means, however many further functions may be active.
use Rattle.std.proofs.Common.{◌≡◌, ℕ, zero, suc, ◌+◌, List, [], ◌∷◌, ◌++◌, length, map, slice_get, Option, Some, refl, sym, ◌∙◌, ap, subst, arith, append_assoc, length-append}
use Rattle.std.specs.Prelude.{Bool, true, false, ℤ, ⊤, is_some, unwrap_or}
use Rattle.std.proofs.lemmas.Bool.{false≢true}
use Rattle.rtio_types.specs.declared.request.Reply.{Reply}
use Rattle.kern_syntax.specs.Tree.{Bytes, FunctionTree, ProgramTree, ParameterTree}
use Rattle.kern_calls.specs.Types.{Names, declared_type, function_named, names_of}
use Rattle.kern_expression_types.specs.Before.{is_in}
use Rattle.timeline_sem.specs.Actions.{take_unit, ◌>>◌}
use Rattle.timeline_sem.specs.Programs.{optional_body, function_call, call_room}
use Rattle.timeline_sem.specs.Statements.{block}
use Rattle.timeline_sem.proofs.KeepsWhole.{keeps_function_call}
use Rattle.core_isa.specs.declared.code.Code.{Code}
use Rattle.core_isa.specs.declared.code.CodeLine.{CodeLine}
use Rattle.core_isa.specs.declared.instr.Instr.TheVariants as I
use Rattle.core_isa.specs.Marks.{first_mark}
use Rattle.code_forms.specs.Setting as C
use Rattle.code_forms.specs.Lines.{straight}
use Rattle.code_forms.specs.Sizes.{block_size}
use Rattle.code_forms.specs.StatementCode.{block_code, no_result}
use Rattle.code_forms.specs.Programs.{body_inside, setting_of, function_code, function_size, functions_code, entry_of, entries_of, plain_names, code_of_program, block_slots}
use Rattle.code_forms.specs.Texts.{texts_of}
use Rattle.code_forms.proofs.StatementLengths.{length-block, functions_have_their_size}
use Rattle.code_follows.specs.Stands.{holding, Fits64, AllFit64, result_operands}
use Rattle.code_follows.specs.Parts.{Moved, Follows, Stand}
use Rattle.code_follows.specs.Functions.{body_of, Enters, end_instrs, called}
use Rattle.code_follows.specs.Lawful.{IsLawfulStart, RunsAsMeant}
use Rattle.code_follows.proofs.Calls.{follows_call, follows_overflow}
use Rattle.code_follows.proofs.Compose.{moved}
use Rattle.code_follows.proofs.Entering.{TakesFirst, enters}
use Rattle.code_follows.proofs.Lines.{LinesStand, first_part, second_part, straight_stands}
use Rattle.code_follows.proofs.Lists.{get_seam}
use Rattle.code_follows.proofs.NamesGrow.{scalar_declared, grows_after_block, takes_arguments, as_many}
use Rattle.code_follows.proofs.Whole.{runs_as_meant}
use Rattle.code_forms.specs.Suited.{IsSuitedProgram, IsSuitedBlock}
use Rattle.code_meaning.proofs.Known.{Known}
use Rattle.code_forms.proofs.Found.{function_place, same_name}
use Rattle.code_meaning.proofs.Lookups.{named_text, texts_of_function}
use Rattle.code_meaning.proofs.Places.{Placed}
use Rattle.code_meaning.proofs.Statements.{follows_block}

-- the lines of a list behind others
stand_after : (before ls : List CodeLine) → LinesStand (before ++ ls) (length before) ls
stand_after before [] = tt
stand_after before (l ∷ ls) =
    let long : length (before ++ l ∷ []) ≡ length before + 1 = length-append before (l ∷ []) in
    (get_seam before l ls, subst (λ p. LinesStand (before ++ l ∷ ls) p ls) long (subst (λ lines. LinesStand lines (length (before ++ l ∷ [])) ls) (append_assoc before (l ∷ []) ls) (stand_after (before ++ l ∷ []) ls)))

end_same : (value : Bool) → no_result value ++ I.Return ∷ [] ≡ end_instrs value
end_same true = refl
end_same false = refl

-- numbers that fit are the first values of a function's names, where there is one for each parameter
first_numbers : (ps : List ParameterTree) (more : Names) (args : List ℤ) → length ps ≡ length args → AllFit64 args → TakesFirst (map (λ p. (p.name, declared_type p.declared)) ps ++ more) args
first_numbers [] more [] e f = tt
first_numbers (p ∷ ps) more (a ∷ args) e f = (scalar_declared p.declared, f.0, first_numbers ps more args (omega (arith, e)) f.1)
first_numbers [] more (a ∷ args) e f = absurd (omega (arith, e))
first_numbers (p ∷ ps) more [] e f = absurd (omega (arith, e))

takes_numbers : (program : ProgramTree) (f : FunctionTree) (args : List ℤ) → length f.parameters ≡ length args → AllFit64 args → TakesFirst (names_of program f) args
takes_numbers program f args e fits =
    let first = map (λ p. (p.name, declared_type p.declared)) f.parameters in
    let g = grows_after_block program f.body first in
    subst (λ ns. TakesFirst ns args) (sym g.1) (first_numbers f.parameters g.0 args e fits)

module _ (program : ProgramTree) (suited : IsSuitedProgram program) where
  abbrev texts : List Bytes
  texts = texts_of program

  abbrev plain : List Bytes
  plain = plain_names [] program

  abbrev code : Code
  code = code_of_program program

  abbrev setting_for : FunctionTree → C.Setting
  setting_for f = setting_of program texts f

  -- a function of the program has its entry, and its code stands there
  function_from : (fs : List FunctionTree) (k : ℕ) (f : FunctionTree) (place : ℕ) → slice_get fs k ≡ Some f → LinesStand code.lines place (functions_code program texts place fs) → (p : ℕ) × (slice_get (entries_of program plain texts place fs) k ≡ Some (entry_of program plain p f)) × LinesStand code.lines p (function_code program texts p f)
  function_from [] k f place e s = absurd (false≢true (ap is_some e))
  function_from (g ∷ fs) zero f place e s =
      let same : g ≡ f = ap (λ o. unwrap_or o f) e in
      (place, ap (λ h. Some (entry_of program plain place h)) same, subst (λ h. LinesStand code.lines place (function_code program texts place h)) same (first_part code.lines place (function_code program texts place g) (functions_code program texts (place + function_size program texts g) fs) s))
  function_from (g ∷ fs) (suc k) f place e s =
      function_from fs k f (place + function_size program texts g) e (second_part code.lines place (function_size program texts g) (function_code program texts place g) (functions_code program texts (place + function_size program texts g) fs) (functions_have_their_size program texts place g) s)

  function_at : (k : ℕ) (f : FunctionTree) → slice_get program k ≡ Some f → (p : ℕ) × (slice_get code.functions k ≡ Some (entry_of program plain p f)) × LinesStand code.lines p (function_code program texts p f)
  function_at k f e = function_from program k f 0 e (stand_after [] code.lines)

  -- a function is suited where no recording is open, and a plain one also where one is
  suited_in : (k : ℕ) (f : FunctionTree) → slice_get program k ≡ Some f → (outside d : Bool) → (outside ≡ false → is_in plain f.name ≡ true) → d ≡ Rattle.std.specs.Prelude.not outside → IsSuitedBlock (setting_for f) plain false true d f.body
  suited_in k f e true d p is = subst (λ b. IsSuitedBlock (setting_for f) plain false true b f.body) (sym is) (suited k f e).0
  suited_in k f e false d p is = subst (λ b. IsSuitedBlock (setting_for f) plain false true b f.body) (sym is) ((suited k f e).1 (p refl))

  open_where : (outside : Bool) → outside ≡ false → Rattle.std.specs.Prelude.not outside ≡ true
  open_where outside e = ap Rattle.std.specs.Prelude.not e

  module _ (given : List Reply) where
    -- what is known of the code in a function
    abbrev KnownIn : ℕ → FunctionTree → Type 0
    KnownIn room f = Known given code (setting_for f) plain (function_call program room) room

    -- the body of a function, and its end
    body_follows : (room : ℕ) (f : FunctionTree) → KnownIn room f → (k p : ℕ) → slice_get program k ≡ Some f → LinesStand code.lines p (function_code program texts p f) → (outside : Bool) → (outside ≡ false → is_in plain f.name ≡ true) → (most : ℕ) → Follows given code ⊤ most (body_of (names_of program f) room (block_slots f.body) outside (is_some f.result)) p (p + block_size (setting_for f) 0 0 f.body) (holding []) (λ v. ⊤) (λ v. holding []) (block (record { program = program; names = names_of program f }) (function_call program room) f.body)
    body_follows room f known k p e lines outside plainly most =
        let cs = setting_for f in
        let d = Rattle.std.specs.Prelude.not outside in
        let cb = block_code cs (body_inside cs) p f.body in
        let ce = straight first_mark (no_result cs.value ++ I.Return ∷ []) in
        let sb = first_part code.lines p cb ce lines in
        let setting = body_of (names_of program f) room (block_slots f.body) outside (is_some f.result) in
        let placed : Placed cs room false true d (body_inside cs) setting = record { names = refl; value = refl; room = refl; free = omega arith; tries = refl; loop = tt; in_a_loop = λ e. absurd (false≢true e); may_return = λ e. refl; outside = open_where outside } in
        follows_block given code cs plain (function_call program room) room known f.body false true d (suited_in k f e outside d plainly refl) (texts_of_function program k f e) (body_inside cs) p sb most setting placed (omega arith)

    end_stands : (f : FunctionTree) (p : ℕ) → LinesStand code.lines p (function_code program texts p f) → Stand code.lines (p + block_size (setting_for f) 0 0 f.body) (end_instrs (is_some f.result))
    end_stands f p lines =
        let cs = setting_for f in
        let n = block_size cs 0 0 f.body in
        let cb = block_code cs (body_inside cs) p f.body in
        let is = no_result cs.value ++ I.Return ∷ [] in
        let ce = straight first_mark is in
        subst (λ is. Stand code.lines (p + n) is) (end_same cs.value) (straight_stands code.lines (p + n) first_mark is (second_part code.lines p n cb ce (length-block cs (body_inside cs) p f.body) lines))

    enters_at : (f : FunctionTree) (p : ℕ) (args : List ℤ) → length f.parameters ≡ length args → TakesFirst (names_of program f) args → Enters (names_of program f) (entry_of program plain p f) (block_slots f.body) args
    enters_at f p args e takes = enters (names_of program f) (entry_of program plain p f) (block_slots f.body) args e refl takes

    -- calls, by how many further functions may be active
    pub known_in : (room : ℕ) (f : FunctionTree) → KnownIn room f
    known_in zero f =
        record {
          named = λ text e. named_text texts text e;
          calls = λ name fn found numbers many fits most setting first is plainly stands.
              let k = function_place program name fn found in
              let at = function_at k.0 fn k.2 in
              let here : Stand code.lines first (I.Call k.0 ∷ []) = subst (λ o. Stand code.lines first (I.Call (unwrap_or o 0) ∷ [])) k.1 stands in
              follows_overflow given code setting first k.0 (entry_of program plain at.0 fn) numbers [] is at.1 here;
          moves = λ name numbers. keeps_function_call Moved Moved moved program zero name numbers;
        }
    known_in (suc room) f =
        record {
          named = λ text e. named_text texts text e;
          calls = λ name fn found numbers many fits most setting first is plainly stands.
              let k = function_place program name fn found in
              let at = function_at k.0 fn k.2 in
              let names = names_of program fn in
              let here : Stand code.lines first (I.Call k.0 ∷ []) = subst (λ o. Stand code.lines first (I.Call (unwrap_or o 0) ∷ [])) k.1 stands in
              let body = body_follows room fn (known_in room fn) k.0 at.0 k.2 at.2 setting.outside (λ e. subst (λ n. is_in plain n ≡ true) (same_name program name fn found) (plainly e)) most in
              let meant : (o : Option FunctionTree) → function_named program name ≡ o → o ≡ Some fn → take_unit >> called names numbers (block (record { program = program; names = names }) (function_call program room) fn.body) ≡ function_call program (suc room) name numbers = λ o e e'. ap (λ x. take_unit >> optional_body program (function_call program room) x numbers) (sym e' ∙ sym e) in
              subst (λ a. Follows given code ⊤ most setting first (first + 1) (holding (Rattle.std.specs.Prelude.reverse numbers)) Fits64 (λ v. holding (result_operands (is_some fn.result) v)) a) (meant _ refl found) (follows_call given code setting first k.0 room (block_slots fn.body) (at.0 + block_size (setting_for fn) 0 0 fn.body) setting.outside (is_some fn.result) names (entry_of program plain at.0 fn) numbers _ is (λ e. e) at.1 refl (enters_at fn at.0 numbers many (takes_numbers program fn numbers many fits)) here (end_stands fn at.0 at.2) body);
          moves = λ name numbers. keeps_function_call Moved Moved moved program (suc room) name numbers;
        }

  -- from any lawful start the code runs as is meant
  pub agrees : (f : FunctionTree) (function : ℕ) (args : List ℤ) (cursor : ℤ) (units : ℕ) (replies : List Reply) → IsLawfulStart program f function args cursor units replies → RunsAsMeant program code function args cursor units replies
  agrees f function args cursor units replies lawful =
      let at = function_at function f lawful.found in
      let n = block_size (setting_for f) 0 0 f.body in
      let many = as_many f.parameters args lawful.arguments in
      let body = body_follows replies call_room f (known_in replies call_room f) function at.0 lawful.found at.2 true (λ e. absurd (false≢true (sym e))) units in
      runs_as_meant replies code function (entry_of program plain at.0 f) at.1 args cursor units program f (block_slots f.body) (at.0 + n) (is_some f.result) lawful.found refl (enters_at replies f at.0 args many (takes_arguments program f args lawful.arguments)) (end_stands replies f at.0 at.2) lawful.cursor_fits lawful.numbers lawful.replies_fit body
