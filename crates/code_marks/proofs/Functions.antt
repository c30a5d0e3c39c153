-- The code of every function of a checked program is marked rightly.
use Rattle.std.proofs.Common.{◌≡◌, ℕ, zero, suc, ◌+◌, ◌<◌, ◌≤◌, List, [], ◌∷◌, ◌++◌, length, Some, slice_get, refl, sym, ◌∙◌, ap, subst, arith, length-append, append_assoc, le-leb}
use Rattle.std.specs.Prelude.{Bool, true, false, cond, nat_lt, nat_le, is_some, unwrap_or, option_map, if◌then◌else◌}
use Rattle.std.specs.List.{count_by}
use Rattle.std.proofs.lemmas.Bool.{false≢true}
use Rattle.std.proofs.lemmas.List.Sums.{sum_by-cons}
use Rattle.kern_syntax.specs.Tree.{Bytes, FunctionTree, ProgramTree}
use Rattle.kern_calls.specs.Types.{function_named}
use Rattle.kern_expression_types.specs.Before.{is_in, with_member}
use Rattle.kern_types.specs.Checked.{IsChecked}
use Rattle.core_isa.specs.declared.code.Code.{Code}
use Rattle.core_isa.specs.declared.code.CodeFunction.{CodeFunction}
use Rattle.core_isa.specs.declared.code.CodeLine.{CodeLine}
use Rattle.core_isa.specs.declared.instr.Instr.TheVariants as I
use Rattle.core_isa.specs.Marks.{function_index, mark_at, first_mark, Marked}
use Rattle.code_forms.specs.Lines.{straight}
use Rattle.code_forms.specs.Programs.{body_inside, setting_of, function_code, function_size, functions_code, plain_names, entry_of, entries_of, code_of_program}
use Rattle.code_forms.specs.Setting.{index_of_function}
use Rattle.code_forms.specs.Sizes.{when, block_size}
use Rattle.code_forms.specs.StatementCode.{block_code, no_result}
use Rattle.code_forms.specs.Suited.{IsSuitedBlock, IsSuitedProgram}
use Rattle.code_forms.specs.Texts.{block_texts, program_texts, with_texts, texts_of}
use Rattle.code_forms.proofs.Found.{function_place, same_name}
use Rattle.code_forms.proofs.StatementLengths.{length-block, functions_have_their_size}
use Rattle.code_suited.proofs.Functions.{typed_is_suited}
use Rattle.code_marks.proofs.Held.{Callable, Held, HasTexts}
use Rattle.code_marks.proofs.Leaving.{end_fits}
use Rattle.code_marks.proofs.Parts.{HasMark, AreFit, StandWhere, StandIn, front_lines, back_lines, first_lines, second_lines, both_fit}
use Rattle.code_marks.proofs.Placed.{Placed}
use Rattle.code_marks.proofs.Statements.{block_part}

-- the lines of a list behind others
get_seam : (before : List CodeLine) (l : CodeLine) (ls : List CodeLine) → slice_get (before ++ l ∷ ls) (length before) ≡ Some l
get_seam [] l ls = refl
get_seam (x ∷ before) l ls = get_seam before l ls

stand_after : (before ls : List CodeLine) → StandWhere (before ++ ls) (λ p. Unit {0}) (length before) ls
stand_after before [] = tt
stand_after before (l ∷ ls) =
    let long : length (before ++ l ∷ []) ≡ length before + 1 = length-append before (l ∷ []) in
    (get_seam before l ls, tt, subst (λ p. StandWhere (before ++ l ∷ ls) (λ q. Unit {0}) p ls) long (subst (λ lines. StandWhere lines (λ q. Unit {0}) (length (before ++ l ∷ [])) ls) (append_assoc before (l ∷ []) ls) (stand_after (before ++ l ∷ []) ls)))

-- lines that stand at places of one function
stand_in : (code : Code) (k : ℕ) (place : ℕ) (ls : List CodeLine) → StandWhere code.lines (λ p. Unit {0}) place ls → ((q : ℕ) → place ≤ q → q < place + length ls → function_index code q ≡ k) → StandIn code k place ls
stand_in code k place [] s own = tt
stand_in code k place (l ∷ ls) s own =
    (s.0, own place (omega arith) (omega arith), stand_in code k (place + 1) ls s.2 (λ q more less. own q (omega (arith, more)) (omega (arith, less))))

-- a program's texts are few only where a function's are
function_texts : (fs : ProgramTree) (k : ℕ) (f : FunctionTree) → slice_get fs k ≡ Some f → length (block_texts f.body) ≤ length (program_texts fs)
function_texts [] k f e = absurd (false≢true (ap is_some e))
function_texts (g ∷ fs) zero f e =
    let same : g ≡ f = ap (λ o. unwrap_or o f) e in
    let own : length (block_texts g.body) ≤ length (program_texts (g ∷ fs)) = omega (arith, length-append (block_texts g.body) (program_texts fs)) in
    subst (λ h. length (block_texts h.body) ≤ length (program_texts (g ∷ fs))) same own
function_texts (g ∷ fs) (suc k) f e = omega (arith, function_texts fs k f e, length-append (block_texts g.body) (program_texts fs))

member_some : (known : List Bytes) (text : Bytes) → 1 ≤ length (with_member known text)
member_some [] text = omega arith
member_some (t ∷ known) text = by_test (is_in (t ∷ known) text)
  where
    by_test : (b : Bool) → 1 ≤ length (if b then t ∷ known else (t ∷ known) ++ text ∷ [])
    by_test true = omega arith
    by_test false = omega (arith, length-append (t ∷ known) (text ∷ []))

texts_stay : (known texts : List Bytes) → 1 ≤ length known → 1 ≤ length (with_texts known texts)
texts_stay known [] some = some
texts_stay known (t ∷ texts) some = texts_stay (with_member known t) texts (member_some known t)

texts_some : (known texts : List Bytes) → 1 ≤ length texts → 1 ≤ length (with_texts known texts)
texts_some known [] some = absurd (omega (arith, some))
texts_some known (t ∷ texts) some = texts_stay (with_member known t) texts (member_some known t)

module _ (program : ProgramTree) (suited : IsSuitedProgram program) where
  abbrev texts : List Bytes
  texts = texts_of program

  abbrev plain : List Bytes
  plain = plain_names [] program

  abbrev code : Code
  code = code_of_program program

  abbrev entry : ℕ → FunctionTree → CodeFunction
  entry place f = entry_of program plain place f

  abbrev entries : ℕ → List FunctionTree → List CodeFunction
  entries place fs = entries_of program plain texts place fs

  -- how many functions begin at a place or before
  abbrev begun : ℕ → List CodeFunction → ℕ
  begun q gs = count_by (λ g. nat_le g.first q) gs

  begun_more : (q : ℕ) (g : CodeFunction) (gs : List CodeFunction) (b : Bool) → nat_le g.first q ≡ b → begun q (g ∷ gs) ≡ cond b 1 0 + begun q gs
  begun_more q g gs b e = sum_by-cons (λ x. cond (nat_le x.first q) 1 0) g gs ∙ ap (λ t. cond t 1 0 + begun q gs) e

  none_begun : (fs : List FunctionTree) (place q : ℕ) → q < place → begun q (entries place fs) ≡ 0
  none_begun [] place q less = refl
  none_begun (f ∷ fs) place q less =
      let later : nat_le place q ≡ false = grind (arith, less) in
      omega (arith, begun_more q (entry place f) (entries (place + function_size program texts f) fs) false later, none_begun fs (place + function_size program texts f) q (omega (arith, less)))

  -- where a function of a list stands: its entry, its lines, and how many functions begin before each of its places
  record At (fs : List FunctionTree) (start k : ℕ) (f : FunctionTree) : Type 0 where
    place : ℕ
    behind : start ≤ place
    listed : slice_get (entries start fs) k ≡ Some (entry place f)
    lines : StandWhere code.lines (λ p. Unit {0}) place (function_code program texts place f)
    count : (q : ℕ) → place ≤ q → q < place + function_size program texts f → begun q (entries start fs) ≡ k + 1

  at_first : (g : FunctionTree) (fs : List FunctionTree) (start : ℕ) → StandWhere code.lines (λ p. Unit {0}) start (functions_code program texts start (g ∷ fs)) → At (g ∷ fs) start zero g
  at_first g fs start s =
      let n = function_size program texts g in
      let own = function_code program texts start g in
      record {
        place = start;
        behind = omega arith;
        listed = refl;
        lines = front_lines code.lines (λ p. Unit {0}) start own (functions_code program texts (start + n) fs) s;
        count = λ q more less. let here : nat_le start q ≡ true = le-leb start q more in omega (arith, begun_more q (entry start g) (entries (start + n) fs) true here, none_begun fs (start + n) q less);
      }

  at_next : (g : FunctionTree) (fs : List FunctionTree) (start k : ℕ) (f : FunctionTree) → At fs (start + function_size program texts g) k f → At (g ∷ fs) start (suc k) f
  at_next g fs start k f r =
      let n = function_size program texts g in
      record {
        place = r.place;
        behind = omega (arith, r.behind);
        listed = r.listed;
        lines = r.lines;
        count = λ q more less. let here : nat_le start q ≡ true = le-leb start q (omega (arith, r.behind, more)) in omega (arith, begun_more q (entry start g) (entries (start + n) fs) true here, r.count q more less);
      }

  rest_stands : (g : FunctionTree) (fs : List FunctionTree) (start : ℕ) → StandWhere code.lines (λ p. Unit {0}) start (functions_code program texts start (g ∷ fs)) → StandWhere code.lines (λ p. Unit {0}) (start + function_size program texts g) (functions_code program texts (start + function_size program texts g) fs)
  rest_stands g fs start s =
      let n = function_size program texts g in
      back_lines code.lines (λ p. Unit {0}) start n (function_code program texts start g) (functions_code program texts (start + n) fs) (functions_have_their_size program texts start g) s

  at_from : (fs : List FunctionTree) (start : ℕ) → StandWhere code.lines (λ p. Unit {0}) start (functions_code program texts start fs) → (k : ℕ) (f : FunctionTree) → slice_get fs k ≡ Some f → At fs start k f
  at_from [] start s k f e = absurd (false≢true (ap is_some e))
  at_from (g ∷ fs) start s zero f e =
      let same : g ≡ f = ap (λ o. unwrap_or o f) e in
      subst (At (g ∷ fs) start zero) same (at_first g fs start s)
  at_from (g ∷ fs) start s (suc k) f e =
      at_next g fs start k f (at_from fs (start + function_size program texts g) (rest_stands g fs start s) k f e)

  at : (k : ℕ) (f : FunctionTree) → slice_get program k ≡ Some f → At program 0 k f
  at k f e = at_from program 0 (stand_after [] code.lines) k f e

  -- a place of the code is one of a function's
  record Owner (fs : List FunctionTree) (start q : ℕ) : Type 0 where
    k : ℕ
    f : FunctionTree
    found : slice_get fs k ≡ Some f
    stands : At fs start k f
    more : stands.place ≤ q
    less : q < stands.place + function_size program texts f

  owner : (fs : List FunctionTree) (start q : ℕ) → StandWhere code.lines (λ p. Unit {0}) start (functions_code program texts start fs) → start ≤ q → q < start + length (functions_code program texts start fs) → Owner fs start q
  unfolding at_first at_next
  owner [] start q s more less = absurd (omega (arith, more, less))
  owner (g ∷ fs) start q s more less =
      let n = function_size program texts g in
      let own = function_code program texts start g in
      by_test (nat_lt q (start + n)) refl (λ later. owner fs (start + n) q (rest_stands g fs start s) later (omega (arith, less, length-append own (functions_code program texts (start + n) fs), functions_have_their_size program texts start g)))
    where
      by_test : (b : Bool) → nat_lt q (start + function_size program texts g) ≡ b → (start + function_size program texts g ≤ q → Owner fs (start + function_size program texts g) q) → Owner (g ∷ fs) start q
      by_test true e others = let own : q < start + function_size program texts g = grind (arith, e) in record { k = zero; f = g; found = refl; stands = at_first g fs start s; more = more; less = own }
      by_test false e others =
          let later : start + function_size program texts g ≤ q = grind (arith, e) in
          let r = others later in
          record { k = suc r.k; f = r.f; found = r.found; stands = at_next g fs start r.k r.f r.stands; more = r.more; less = r.less }

  -- what holds of a function
  held : (k : ℕ) (f : FunctionTree) → slice_get program k ≡ Some f → (place : ℕ) → Held code (entry place f) (setting_of program texts f) plain
  held k f e place =
      record {
        slots = omega arith;
        sized = (suited k f e).2.sized;
        texts = refl;
        value = refl;
        callable = callable;
      }
    where
      callable : (name : Bytes) (called : FunctionTree) → function_named program name ≡ Some called → Callable code (index_of_function (setting_of program texts f) name) called (is_in plain name)
      callable name called found =
          let there = function_place program name called found in
          let a = at there.0 called there.2 in
          let index : there.0 ≡ index_of_function (setting_of program texts f) name = ap (λ o. unwrap_or o 0) (sym there.1) in
          record {
            entry = entry a.place called;
            there = subst (λ i. slice_get code.functions i ≡ Some (entry a.place called)) index a.listed;
            params = refl;
            value = refl;
            plain = λ p. ap (is_in plain) (sym (same_name program name called found)) ∙ p;
          }

  -- a function is suited where a recording may be open if it is plain, and else where none is
  suited_body : (k : ℕ) (f : FunctionTree) → slice_get program k ≡ Some f → (d : Bool) → is_in plain f.name ≡ d → IsSuitedBlock (setting_of program texts f) plain false true d f.body
  suited_body k f e true p = (suited k f e).1 p
  suited_body k f e false p = (suited k f e).0

  has_texts : (k : ℕ) (f : FunctionTree) → slice_get program k ≡ Some f → HasTexts (setting_of program texts f) (block_texts f.body)
  has_texts k f e some = texts_some [] (program_texts program) (omega (arith, some, function_texts program k f e))

  -- the code of a function is marked rightly
  function_fits : (k : ℕ) (f : FunctionTree) → slice_get program k ≡ Some f → (a : At program 0 k f) → HasMark code k a.place first_mark × AreFit code k (entry a.place f) a.place (a.place + function_size program texts f)
  function_fits k f e a =
      let cs = setting_of program texts f in
      let g = entry a.place f in
      let n = block_size cs 0 0 f.body in
      let body = block_code cs (body_inside cs) a.place f.body in
      let end = straight first_mark (no_result cs.value ++ I.Return ∷ []) in
      let s : StandIn code k a.place (function_code program texts a.place f) = stand_in code k a.place (function_code program texts a.place f) a.lines (λ q more less. let begins : begun q code.functions ≡ k + 1 = a.count q more (omega (arith, less, functions_have_their_size program texts a.place f)) in omega (arith, begins)) in
      let closed = end_fits code k g (a.place + n) cs.value first_mark refl refl refl refl (second_lines code k a.place n body end (length-block cs (body_inside cs) a.place f.body) s) in
      let d = is_in plain f.name in
      let placed : Placed code k g false true d (body_inside cs) (a.place + n) = record { bare = refl; outside = λ q. (refl, q); may_return = λ q. refl; bounded = omega arith; loop = λ q. absurd (false≢true q) } in
      let part = block_part code k g cs plain (held k f e a.place) f.body false true d (suited_body k f e d refl) (has_texts k f e) (body_inside cs) a.place (omega arith) placed (first_lines code k a.place body end s) closed.0 in
      let all = both_fit code k g a.place (a.place + n) (a.place + n + (when cs.value + 1)) part.1 closed.1 in
      let same : a.place + n + (when cs.value + 1) ≡ a.place + function_size program texts f = omega arith in
      (part.0, subst (AreFit code k g a.place) same all)

  -- so every place of the code is right
  pub all_marked : Marked code
  all_marked q within =
      let o = owner program 0 q (stand_after [] code.lines) (omega arith) (omega (arith, within)) in
      let r = function_fits o.k o.f o.found o.stands in
      let fit = r.1 q o.more o.less in
      let g = entry o.stands.place o.f in
      record {
        function = g;
        line = fit.line;
        in_function = ap (slice_get code.functions) fit.same ∙ o.stands.listed;
        at_place = fit.stands;
        right = record {
          first = λ e. let same : Some fit.line.mark ≡ Some first_mark = sym (ap (option_map (λ l. l.mark)) fit.stands) ∙ (ap (mark_at code) (sym e) ∙ r.0.marked) in ap (λ m. unwrap_or m first_mark) same;
          exist = fit.exist;
          live = fit.live;
          follow = fit.follow;
        };
      }

-- the code of a checked program is marked
pub checked_is_marked : (program : ProgramTree) → IsChecked program → Marked (code_of_program program)
checked_is_marked program checked = all_marked program (typed_is_suited program checked.spellable checked.typed)
