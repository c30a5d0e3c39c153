-- The code of a checked program is in its ranges.
use Rattle.std.proofs.Common.{◌≡◌, ℕ, zero, suc, ◌+◌, ◌<◌, ◌≤◌, ◌^◌, List, [], ◌∷◌, ◌++◌, length, map, slice_get, Some, refl, sym, ◌∙◌, ap, subst, arith, length-append}
use Rattle.std.specs.Prelude.{Bool, true, false, ◌&&◌, nat_lt, nat_le, is_some, unwrap_or, codes}
use Rattle.std.specs.List.{list_all}
use Rattle.std.proofs.lemmas.Bool.{and_from, lt-ltb, le-leb, ltb-true, false≢true}
use Rattle.kern_syntax.specs.Tree.{Bytes, FunctionTree, ProgramTree}
use Rattle.kern_calls.specs.Types.{names_of}
use Rattle.kern_types.specs.Programs.{place_of_function}
use Rattle.core_isa.specs.declared.code.CodeFunction.{CodeFunction}
use Rattle.core_isa.specs.declared.instr.Instr.TheVariants as I
use Rattle.core_isa.specs.Marks.{first_mark}
use Rattle.core_image.specs.Accepted.{MainTakesNothing}
use Rattle.core_image.specs.Ranges.{IsInRange, rises_above, rises_from_zero, is_function}
use Rattle.code_forms.specs.Lines.{straight}
use Rattle.code_forms.specs.Programs.{setting_of, body_inside, block_slots, function_code, function_size, functions_code, entry_of, entries_of, plain_names, code_of_program}
use Rattle.code_forms.specs.Setting.{slots_of_names}
use Rattle.code_forms.specs.StatementCode.{no_result, block_code}
use Rattle.code_forms.specs.Texts.{texts_of}
use Rattle.code_forms.proofs.Found.{get_below}
use Rattle.code_forms.proofs.StatementLengths.{functions_have_their_size}
use Rattle.code_ranges.specs.Laws.{IsFit}
use Rattle.code_ranges.proofs.Functions.{main_is, few_functions, few_texts, HasRoomy, roomy_at}
use Rattle.code_ranges.proofs.SpelledTexts.{texts_named}
use Rattle.code_ranges.proofs.StatementRanges.{block_ranged}
use Rattle.code_ranges.proofs.Straight.{LinesFit, no_lines, both_fit, straight_fits}

-- what holds at each index
all_at : {A : Type 0} (p : A → Bool) (xs : List A) → ((k : ℕ) (x : A) → slice_get xs k ≡ Some x → p x ≡ true) → list_all p xs ≡ true
all_at p [] each = refl
all_at p (x ∷ xs) each = and_from (p x) (list_all p xs) (each zero x refl) (all_at p xs (λ k y e. each (suc k) y e))

-- the end of a function's code
end_ranged : (value : Bool) → LinesFit (straight first_mark (no_result value ++ I.Return ∷ []))
end_ranged true = straight_fits first_mark (no_result true ++ I.Return ∷ []) (record { operands = omega arith; handlers = omega arith; rec = omega arith }) (refl, (refl, tt))
end_ranged false = straight_fits first_mark (no_result false ++ I.Return ∷ []) (record { operands = omega arith; handlers = omega arith; rec = omega arith }) (refl, tt)

module _ (program : ProgramTree) (plain : List Bytes) where
  abbrev texts : List Bytes
  texts = texts_of program

  function_ranged : (place : ℕ) (f : FunctionTree) → HasRoomy program f → place + function_size program texts f < 2 ^ 32 → LinesFit (function_code program texts place f)
  function_ranged place f h p =
      let cs = setting_of program texts f in
      both_fit
      (block_code cs (body_inside cs) place f.body)
      (straight first_mark (no_result (is_some f.result) ++ I.Return ∷ []))
      (block_ranged cs h.setting (body_inside cs) place f.body h.space h.fits (record { again = omega arith; past = omega arith }) (omega (arith, p)))
      (end_ranged (is_some f.result))

  functions_ranged : (fs : ProgramTree) (place : ℕ) → ((k : ℕ) (f : FunctionTree) → slice_get fs k ≡ Some f → HasRoomy program f) → place + length (functions_code program texts place fs) < 2 ^ 32 → LinesFit (functions_code program texts place fs)
  functions_ranged [] place each p = no_lines
  functions_ranged (f ∷ fs) place each p =
      let own = function_code program texts place f in
      let next = place + function_size program texts f in
      let others = functions_code program texts next fs in
      let size = functions_have_their_size program texts place f in
      let long = length-append own others in
      both_fit
      own
      others
      (function_ranged place f (each zero f refl) (omega (arith, p, size, long)))
      (functions_ranged fs next (λ k g e. each (suc k) g e) (omega (arith, p, size, long)))

  -- the entries of the functions
  pub entries_long : (fs : ProgramTree) (place : ℕ) → length (entries_of program plain texts place fs) ≡ length fs
  entries_long [] place = refl
  entries_long (f ∷ fs) place = ap suc (entries_long fs (place + function_size program texts f))

  entries_rise : (fs : ProgramTree) (before place : ℕ) → before < place → rises_above before (map (λ g. g.first) (entries_of program plain texts place fs)) ≡ true
  entries_rise [] before place less = refl
  entries_rise (f ∷ fs) before place less =
      let next = place + function_size program texts f in
      and_from (nat_lt before place) (rises_above place (map (λ g. g.first) (entries_of program plain texts next fs))) (lt-ltb before place less) (entries_rise fs place next (omega arith))

  entries_begin : (fs : ProgramTree) → rises_from_zero (map (λ g. g.first) (entries_of program plain texts 0 fs)) ≡ true
  entries_begin [] = refl
  entries_begin (f ∷ fs) = entries_rise fs 0 (0 + function_size program texts f) (omega arith)

  enough_lines : (fs : ProgramTree) (place : ℕ) → length fs ≤ length (functions_code program texts place fs)
  enough_lines [] place = omega arith
  enough_lines (f ∷ fs) place =
      let own = function_code program texts place f in
      let next = place + function_size program texts f in
      omega (arith, functions_have_their_size program texts place f, length-append own (functions_code program texts next fs), enough_lines fs next)

  -- the function that an entry is of
  entry_is : (fs : ProgramTree) (place k : ℕ) (g : CodeFunction) → slice_get (entries_of program plain texts place fs) k ≡ Some g → (f : FunctionTree) × (slice_get fs k ≡ Some f) × (g.params ≡ length f.parameters) × (g.slots ≡ slots_of_names (names_of program f) + block_slots f.body)
  entry_is [] place k g e = absurd (false≢true (ap is_some e))
  entry_is (f ∷ fs) place zero g e =
      let same : g ≡ entry_of program plain place f = sym (ap (λ o. unwrap_or o g) e) in
      (f, refl, ap (λ x. x.params) same, ap (λ x. x.slots) same)
  entry_is (f ∷ fs) place (suc k) g e = entry_is fs (place + function_size program texts f) k g e

-- the functions' fields
functions_ranges : (program : ProgramTree) → IsFit program → list_all (is_function (length (code_of_program program).lines)) (code_of_program program).functions ≡ true
functions_ranges program fit =
    let code = code_of_program program in
    let lines = length code.lines in
    all_at (is_function lines) code.functions (λ k g e.
    let f = entry_is program (plain_names [] program) program 0 k g e in
    let h = roomy_at program fit k f.0 f.1 in
    let few : g.params ≤ 8 = omega (arith, f.2, h.parameters) in
    let small : g.slots < 65536 = omega (arith, f.3, h.slots) in
    let within = fit.order.within k g e in
    let room = fit.order.room k g e in
    and_from (nat_lt g.first lines) (nat_le g.params 8 && (nat_le g.params g.slots && nat_lt g.slots 65536)) (lt-ltb g.first lines within)
    (and_from (nat_le g.params 8) (nat_le g.params g.slots && nat_lt g.slots 65536) (le-leb g.params 8 few)
    (and_from (nat_le g.params g.slots) (nat_lt g.slots 65536) (le-leb g.params g.slots room) (lt-ltb g.slots 65536 small))))

-- the code is in its ranges
pub in_range : (program : ProgramTree) → IsFit program → IsInRange (code_of_program program)
in_range program fit =
    let checked = fit.checked in
    let plain = plain_names [] program in
    let long = entries_long program plain program 0 in
    let some = ltb-true 0 (length program) checked.grammatical.0 in
    let m = main_is program checked in
    let main : unwrap_or (place_of_function program (codes "main")) 0 ≡ m.0 = ap (λ o. unwrap_or o 0) m.2 in
    let below = get_below program m.0 m.1 m.3 in
    let few = few_functions program checked in
    let lines = functions_ranged program plain program 0 (λ k f e. roomy_at program fit k f e) (omega (arith, fit.short, fit.nodes)) in
    record {
      some_function = omega (arith, long, some);
      few_functions = omega (arith, long, few);
      main = omega (arith, long, main, below);
      few_names = omega (arith, few_texts program checked, fit.nodes);
      enough_lines = omega (arith, long, enough_lines program plain program 0);
      few_lines = omega (arith, fit.short, fit.nodes);
      names = texts_named program checked.spellable;
      rising = entries_begin program plain program;
      functions = functions_ranges program fit;
      lines = lines.all;
    }

-- its main function takes no arguments
pub main_takes_nothing : (program : ProgramTree) → IsFit program → MainTakesNothing (code_of_program program)
main_takes_nothing program fit g e =
    let m = main_is program fit.checked in
    let main : unwrap_or (place_of_function program (codes "main")) 0 ≡ m.0 = ap (λ o. unwrap_or o 0) m.2 in
    let f = entry_is program (plain_names [] program) program 0 (unwrap_or (place_of_function program (codes "main")) 0) g e in
    let there : slice_get program m.0 ≡ Some f.0 = subst (λ k. slice_get program k ≡ Some f.0) main f.1 in
    let same : f.0 ≡ m.1 = ap (λ o. unwrap_or o f.0) (sym there ∙ m.3) in
    let none : length f.0.parameters ≡ 0 = ap (λ (x : FunctionTree). length x.parameters) same ∙ m.4 in
    f.2 ∙ none
