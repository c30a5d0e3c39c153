-- The functions of a checked program: how many there are, which one is main, and that the code of each can be put.
use Rattle.std.proofs.Common.{◌≡◌, ℕ, zero, suc, ◌+◌, ◌<◌, ◌≤◌, ◌^◌, List, [], ◌∷◌, ◌++◌, length, take, slice_get, Option, Some, None, refl, sym, ap, subst, arith, length-append}
use Rattle.std.specs.Prelude.{Bool, true, false, not, ◌||◌, nat_le, is_some, unwrap_or, codes, IsTrue}
use Rattle.std.proofs.lemmas.Bool.{false≢true, eqb-true}
use Rattle.std.proofs.lemmas.List.Sums.{sum_by-cons}
use Rattle.kern_syntax.specs.Grammatical.{AreLines, AreFunctions}
use Rattle.kern_syntax.specs.Nodes.{block_nodes, program_nodes}
use Rattle.kern_syntax.specs.Spellable.{AreSpellableLines, IsSpellableProgram}
use Rattle.kern_syntax.specs.Tree.{Bytes, FunctionTree, ProgramTree}
use Rattle.kern_calls.specs.Types.{Names, function_named, names_of}
use Rattle.kern_expression_types.specs.Before.{is_reserved}
use Rattle.kern_expression_types.specs.Verdicts.{Verdict, well, fault, ◌>>=◌, refuse_if, is_well}
use Rattle.kern_expression_types.specs.declared.fault.TypeKind.TheVariants as K
use Rattle.kern_types.specs.Checked.{IsChecked}
use Rattle.kern_types.specs.Plain.{with_plain}
use Rattle.kern_types.specs.Programs.{most_functions, parameters_verdict, body_place, body_functions, body_verdict, function_verdict, functions_verdict, program_verdict, has_main, place_of_function}
use Rattle.kern_types.specs.Statements.{block_verdict}
use Rattle.core_isa.specs.Marks.{first_mark}
use Rattle.code_forms.specs.Programs.{setting_of, block_slots, function_code, function_size, functions_code, plain_names}
use Rattle.code_forms.specs.Setting.{slots_of_names}
use Rattle.code_forms.specs.Texts.{block_texts, program_texts, texts_of}
use Rattle.code_forms.proofs.Found.{function_place, same_name}
use Rattle.code_forms.proofs.StatementLengths.{functions_have_their_size}
use Rattle.code_suited.proofs.Functions.{typed_is_suited}
use Rattle.code_suited.proofs.Inverted.{inverted, not_refused}
use Rattle.code_ranges.specs.Fits.{SettingFits}
use Rattle.code_ranges.specs.Laws.{IsFit, FunctionsAreReady}
use Rattle.code_ranges.specs.ReadyStatements.{HasSpace, BlockFits}
use Rattle.code_ranges.proofs.FewTexts.{block_few}
use Rattle.code_ranges.proofs.SpelledTexts.{texts_long}
use Rattle.code_ranges.proofs.StatementFits as S
use Rattle.code_ranges.proofs.StatementFits.{IsDeep, few_slots, spacious, block_fits}

well_is : (v : Verdict (Unit {0})) → IsTrue (is_well v) → v ≡ well tt
well_is (well a) h = refl
well_is (fault line kind) h = absurd (false≢true h)

not_false : (b : Bool) → not b ≡ false → b ≡ true
not_false true e = refl
not_false false e = absurd (false≢true (sym e))

module _ (program : ProgramTree) where
  -- a function's own verdict, and that of those behind it
  split : (earlier : ProgramTree) (plain : List Bytes) (f : FunctionTree) (rest : ProgramTree) → functions_verdict program earlier plain (f ∷ rest) ≡ well tt → (names : Names) × (function_verdict program earlier plain f ≡ well names) × (functions_verdict program (earlier ++ f ∷ []) (with_plain plain f) rest ≡ well tt)
  split earlier plain f rest e = inverted (function_verdict program earlier plain f) (λ z. functions_verdict program (earlier ++ f ∷ []) (with_plain plain f) rest) tt e

  -- it stands behind fewer than 256, and its body is without fault
  own : (earlier : ProgramTree) (plain : List Bytes) (f : FunctionTree) (names : Names) → function_verdict program earlier plain f ≡ well names → (nat_le most_functions (length earlier) ≡ false) × (body_verdict (body_functions program earlier plain f) f ≡ well names)
  own earlier plain f names e =
      let a = inverted (refuse_if (is_some (function_named earlier f.name) || is_reserved f.name) f.line K.Name) (λ z. refuse_if (nat_le most_functions (length earlier)) f.line K.Size >>= λ y. body_verdict (body_functions program earlier plain f) f) names e in
      let b = inverted (refuse_if (nat_le most_functions (length earlier)) f.line K.Size) (λ y. body_verdict (body_functions program earlier plain f) f) names a.2 in
      (not_refused (nat_le most_functions (length earlier)) f.line K.Size b.0 b.1, b.2)

  few_behind : (earlier : ProgramTree) (plain : List Bytes) (rest : ProgramTree) → length earlier ≤ 256 → functions_verdict program earlier plain rest ≡ well tt → length earlier + length rest ≤ 256
  few_behind earlier plain [] few e = omega (arith, few)
  few_behind earlier plain (f ∷ rest) few e =
      let s = split earlier plain f rest e in
      let not_all = (own earlier plain f s.0 s.1).0 in
      let less : length earlier < 256 = grind (arith, not_all) in
      let one : length (earlier ++ f ∷ []) ≡ length earlier + 1 = length-append earlier (f ∷ []) in
      omega (arith, one, few_behind (earlier ++ f ∷ []) (with_plain plain f) rest (omega (arith, one, less)) s.2)

  main_behind : (earlier : ProgramTree) (plain : List Bytes) (rest : ProgramTree) → functions_verdict program earlier plain rest ≡ well tt → has_main (function_named program (codes "main")) ≡ true
  main_behind earlier plain [] e = not_false (has_main (function_named program (codes "main"))) (not_refused (not (has_main (function_named program (codes "main")))) 1 K.NoMain tt e)
  main_behind earlier plain (f ∷ rest) e = main_behind (earlier ++ f ∷ []) (with_plain plain f) rest (split earlier plain f rest e).2

  texts_behind : (earlier : ProgramTree) (plain : List Bytes) (rest : ProgramTree) → functions_verdict program earlier plain rest ≡ well tt → length (program_texts rest) ≤ program_nodes rest
  texts_behind earlier plain [] e = omega arith
  texts_behind earlier plain (f ∷ rest) e =
      let s = split earlier plain f rest e in
      let functions = body_functions program earlier plain f in
      let a = inverted (parameters_verdict functions f.line f.parameters []) (λ ns. block_verdict functions f.body (body_place f) ns) s.0 (own earlier plain f s.0 s.1).1 in
      omega (arith, block_few functions f.body (body_place f) a.0 s.0 a.2, texts_behind (earlier ++ f ∷ []) (with_plain plain f) rest s.2, length-append (block_texts f.body) (program_texts rest), sum_by-cons (λ (h : FunctionTree). 1 + block_nodes h.body) f rest)

-- main is a function without parameters
has_one : (o : Option FunctionTree) → has_main o ≡ true → (f : FunctionTree) × (o ≡ Some f) × (length f.parameters ≡ 0)
has_one None e = absurd (false≢true e)
has_one (Some f) e = (f, refl, eqb-true (length f.parameters) 0 e)

pub main_is : (program : ProgramTree) → IsChecked program → (k : ℕ) × (f : FunctionTree) × (place_of_function program (codes "main") ≡ Some k) × (slice_get program k ≡ Some f) × (length f.parameters ≡ 0) × (f.name ≡ codes "main")
main_is program checked =
    let m = has_one (function_named program (codes "main")) (main_behind program [] [] program (well_is (program_verdict program) checked.typed)) in
    let p = function_place program (codes "main") m.0 m.1 in
    (p.0, m.0, p.1, p.2, m.2, sym (same_name program (codes "main") m.0 m.1))

pub few_functions : (program : ProgramTree) → IsChecked program → length program ≤ 256
few_functions program checked =
    let few = few_behind program [] [] program (omega arith) (well_is (program_verdict program) checked.typed) in
    omega (arith, few)

pub few_texts : (program : ProgramTree) → IsChecked program → length (texts_of program) ≤ program_nodes program
few_texts program checked =
    omega (arith, texts_long program, texts_behind program [] [] program (well_is (program_verdict program) checked.typed))

-- what holds of each function
grammatical_at : (fs : ProgramTree) (k : ℕ) (f : FunctionTree) → AreFunctions fs → slice_get fs k ≡ Some f → AreLines 15 f.body
grammatical_at [] k f g e = absurd (false≢true (ap is_some e))
grammatical_at (h ∷ fs) zero f g e =
    let same : h ≡ f = ap (λ o. unwrap_or o f) e in
    subst (λ x. AreLines 15 x.body) same g.0.1
grammatical_at (h ∷ fs) (suc k) f g e = grammatical_at fs k f g.1 e

spelled_at : (fs : ProgramTree) (k : ℕ) (f : FunctionTree) → IsSpellableProgram fs → slice_get fs k ≡ Some f → AreSpellableLines f.body
spelled_at [] k f s e = absurd (false≢true (ap is_some e))
spelled_at (h ∷ fs) zero f s e =
    let same : h ≡ f = ap (λ o. unwrap_or o f) e in
    subst (λ x. AreSpellableLines x.body) same s.0.2
spelled_at (h ∷ fs) (suc k) f s e = spelled_at fs k f s.1 e

-- the code of the functions before one, and its own, are part of the code
before_long : (program : ProgramTree) (texts : List Bytes) (fs : ProgramTree) (place k : ℕ) (f : FunctionTree) → slice_get fs k ≡ Some f → length (functions_code program texts place (take k fs)) + function_size program texts f ≤ length (functions_code program texts place fs)
before_long program texts [] place k f e = absurd (false≢true (ap is_some e))
before_long program texts (h ∷ fs) place zero f e =
    let same : h ≡ f = ap (λ o. unwrap_or o f) e in
    let size : function_size program texts h ≡ function_size program texts f = ap (function_size program texts) same in
    let first = function_code program texts place h in
    let others = functions_code program texts (place + function_size program texts h) fs in
    omega (arith, size, length-append first others, functions_have_their_size program texts place h)
before_long program texts (h ∷ fs) place (suc k) f e =
    let first = function_code program texts place h in
    let next = place + function_size program texts h in
    omega (arith, length-append first (functions_code program texts next fs), length-append first (functions_code program texts next (take k fs)), before_long program texts fs next k f e)

-- what the code of a function's body needs
pub record HasRoomy (program : ProgramTree) (f : FunctionTree) : Type 0 where
  pub setting : SettingFits (setting_of program (texts_of program) f)
  pub space : HasSpace first_mark (slots_of_names (names_of program f))
  pub fits : BlockFits (setting_of program (texts_of program) f) first_mark (slots_of_names (names_of program f)) f.body
  pub parameters : length f.parameters ≤ 8
  pub slots : slots_of_names (names_of program f) + block_slots f.body < 2 ^ 16

pub roomy_at : (program : ProgramTree) → IsFit program → (k : ℕ) (f : FunctionTree) → slice_get program k ≡ Some f → HasRoomy program f
roomy_at program fit k f e =
    let checked = fit.checked in
    let suited = typed_is_suited program checked.spellable checked.typed in
    let cs = setting_of program (texts_of program) f in
    let plain = plain_names [] program in
    let r = suited k f e in
    let names = r.2 in
    let g = grammatical_at program k f checked.grammatical.1 e in
    let s = spelled_at program k f checked.spellable e in
    let own_slots = few_slots (names_of program f) names.sized in
    let bound : slots_of_names (names_of program f) ≤ 32768 = omega (arith, own_slots, names.few) in
    let sound : SettingFits cs =
    record {
      functions = few_functions program checked;
      parameters = λ name h q. let p = function_place program name h q in (suited p.0 h p.2).2.parameters;
      slots = omega (arith, bound);
      texts = omega (arith, few_texts program checked, fit.nodes);
    } in
    let deep : IsDeep first_mark 15 = record { empty = refl; handlers = omega arith; recording = omega arith } in
    let few = S.block_few cs plain sound names.sized false true false 15 f.body r.0 g in
    record {
      setting = sound;
      space = spacious first_mark 15 (slots_of_names (names_of program f)) deep (omega (arith, bound));
      fits = block_fits cs plain sound names.sized false true false 15 first_mark (slots_of_names (names_of program f)) f.body r.0 g s deep (omega (arith, bound, few));
      parameters = names.parameters;
      slots = omega (arith, bound, few);
    }

-- each function is ready behind those before it
pub functions_are_ready : (program : ProgramTree) → IsFit program → FunctionsAreReady program
functions_are_ready program fit k f e =
    let h = roomy_at program fit k f e in
    let texts = texts_of program in
    let long = before_long program texts program 0 k f e in
    let most : length (functions_code program texts 0 program) ≤ 262144 = omega (arith, fit.short, fit.nodes) in
    let all : length (functions_code program texts 0 (take k program)) + function_size program texts f ≤ 262144 = omega (arith, long, most) in
    record {
      setting = h.setting;
      body = record { space = h.space; fits = h.fits; places = omega (arith, all) };
      parameters = h.parameters;
      slots = h.slots;
      lines = all;
    }
