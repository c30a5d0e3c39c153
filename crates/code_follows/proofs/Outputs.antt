-- Outputs, and requests whose reply is looked at.
use Rattle.std.proofs.Common.{◌≡◌, ℕ, suc, ◌+◌, List, [], ◌∷◌, Option, Some, None, refl, sym, ◌∙◌, ap, subst, arith}
use Rattle.std.specs.Prelude.{ℤ, ⊤, is_some, IsTrue}
use Rattle.std.proofs.lemmas.Bool.{false≢true}
use Rattle.rtio_types.specs.declared.event.Event.{Event}
use Rattle.rtio_types.specs.declared.request.Request.{Request}
use Rattle.rtio_types.specs.declared.request.Request.TheVariants as Q
use Rattle.rtio_types.specs.declared.request.Reply.{Reply}
use Rattle.rtio_types.specs.Requests.{fits_request}
use Rattle.rtio_types.specs.Replies.{number_in}
use Rattle.timeline_sem.specs.Actions.{State, budget, Action, skip, stop, request, ◌>>=◌}
use Rattle.timeline_sem.specs.Timeline.{submit_or_collect, output, event_at, with_event, append_event}
use Rattle.timeline_sem.specs.Laws.{final}
use Rattle.timeline_sem.proofs.Keeps.{keeps_output, keeps_request, keeps_bind}
use Rattle.core_isa.specs.declared.code.Code.{Code}
use Rattle.core_isa.specs.declared.instr.Instr.{Instr}
use Rattle.core_isa.specs.declared.instr.Instr.TheVariants as I
use Rattle.core_isa.specs.Machine.{OpenRecording, Machine, Next, goes, next, push, unit_then, request_then}
use Rattle.core_isa.specs.Steps as S
use Rattle.core_isa.specs.Steps.{act}
use Rattle.core_isa.specs.WellAsked.{RepliesFit}
use Rattle.code_follows.specs.Stands.{Around, Opening, Local, Setting, SlotsAdd, machine_at, recording_of, Fits64, Agrees, Comes, EndsWith}
use Rattle.code_follows.specs.Parts.{Moved, Follows, Stand}
use Rattle.code_follows.proofs.Compose.{moved, moved_same, moves_of}
use Rattle.code_follows.proofs.Requests.{comes_here, ends_here, ends_unit, ends_request}
use Rattle.code_follows.proofs.Instructions.{follows_one, number_fits}
use Rattle.code_follows.proofs.Records.{keeps_of}

moves_request : {A : Type 0} (q : Request) (f : Reply → Action A) → ((r : Reply) (t : State) → Moved t (final (f r t))) → (s : State) → Moved s (final ((request q >>= f) s))
moves_request q f k =
    moves_of (keeps_bind Moved Moved moved (keeps_request Moved Moved moved q) (λ r. keeps_of (f r) (k r)))

module _ (given : List Reply) (code : Code) where
  module _ (setting : Setting) (around : Around) (below own : List ℤ) (free : List ℤ) (place count : ℕ) (slots : SlotsAdd around own free) where
    with_collected : {s : State} (c : Option (List Event)) → is_some c ≡ is_some around.opening → Agrees given around.names around.opening s → Agrees given around.names around.opening (record s { collected = c })
    with_collected c e g =
        record { shapes = g.shapes; collects = e; cursor = g.cursor; replies = g.replies; numbers = g.numbers }

    -- an output where nothing is recorded, and where a recording is open
    pub ends_output : (s : State) (event : Event) (o : Option Opening) (c : Option (List Event)) → around.opening ≡ o → s.collected ≡ c → Agrees given around.names around.opening s → RepliesFit (final (submit_or_collect c event s)).asked given → EndsWith given code setting (unit_then (S.submit_or_collect (recording_of o c) event) (machine_at around s (record { operands = below; temporaries = own }) free place count)) around (place + 1) (λ v. ⊤) (λ v. record { operands = below; temporaries = own }) (submit_or_collect c event s)
    ends_output s event None None eo ec agrees fit =
        ends_request given code setting around (place + 1) (λ v. ⊤) (λ v. record { operands = below; temporaries = own }) (record { operands = below; temporaries = own }) free place count slots s (Q.Out event) (λ reply. next) (λ reply. skip) agrees (λ r. moved_same) fit (λ r t a less here. (tt, comes_here given code free count slots a.agrees))
    ends_output s event (Some o) (Some events) eo ec agrees fit =
        ends_unit given code setting around (place + 1) (λ v. ⊤) (λ v. record { operands = below; temporaries = own }) (record { operands = below; temporaries = own }) free place count slots s s.units (S.submit_or_collect (recording_of (Some o) (Some events)) event) (append_event event) agrees (λ n e.
        let t = record s { units = n } in
        let t' = record t { collected = with_event event t.collected } in
        let m = machine_at around t (record { operands = below; temporaries = own }) free place count in
        let more = with_event event (Some events) in
        let open_now : recording_of around.opening (with_event event s.collected) ≡ recording_of (Some o) more = ap (λ k. recording_of k (with_event event s.collected)) eo ∙ ap (λ k. recording_of (Some o) (with_event event k)) ec in
        let same : next (record m { recording = recording_of (Some o) more }) ≡ goes (machine_at around t' (record { operands = below; temporaries = own }) free (place + 1) count) = ap (λ r. next (record m { recording = r })) (sym open_now) in
        let still : is_some (with_event event s.collected) ≡ is_some around.opening = ap (λ k. is_some (with_event event k)) ec ∙ sym (ap is_some eo) in
        let a' : Agrees given around.names around.opening t' = record { shapes = agrees.shapes; collects = still; cursor = agrees.cursor; replies = agrees.replies; numbers = agrees.numbers } in
        (tt, subst (λ x. Comes given code x around t' (record { operands = below; temporaries = own }) (place + 1)) (sym same) (comes_here given code free count slots a')))
    ends_output s event None (Some events) eo ec agrees fit =
        absurd (false≢true (sym (ap is_some eo) ∙ sym agrees.collects ∙ ap is_some ec))
    ends_output s event (Some o) None eo ec agrees fit =
        absurd (false≢true (sym (ap is_some ec) ∙ agrees.collects ∙ ap is_some eo))

  -- an output
  pub follows_out : {premise : Type 0} {most : ℕ} {setting : Setting} {first : ℕ} (below own : List ℤ) (channel address : ℕ) (v : ℤ) → Stand code.lines first (I.Out channel address ∷ []) → Follows given code premise most setting first (first + 1) (record { operands = v ∷ below; temporaries = own }) (λ a. ⊤) (λ a. record { operands = below; temporaries = own }) (output channel address v)
  follows_out {setting = setting} {first = first} below own channel address v stands =
      follows_one given code (I.Out channel address) stands (moves_of (keeps_output Moved Moved moved channel address v)) (λ around s free count p suits agrees slots few fit. ends_output setting around below own free first count slots s (event_at s.cursor channel address v) around.opening s.collected refl refl agrees fit)

  -- a request that pushes its number, and what follows with a unit less
  pub follows_ask : {A : Type 0} {premise : Type 0} {n : ℕ} {setting : Setting} {first past : ℕ} {operands : List ℤ} (below own : List ℤ) {good : A → Type 0} {results : A → Local} (i : Instr) (q : Request) (f : Reply → Action A) → Stand code.lines first (i ∷ []) → ((around : Around) (s : State) (free : List ℤ) (count : ℕ) → act code i (machine_at around s (record { operands = operands; temporaries = own }) free first count) ≡ S.ask_number q (machine_at around s (record { operands = below; temporaries = own }) free first count)) → ((r : Reply) → Follows given code (premise × IsTrue (fits_request q r) × Fits64 (number_in r)) n setting (first + 1) past (record { operands = number_in r ∷ below; temporaries = own }) good results (f r)) → Follows given code premise (suc n) setting first past (record { operands = operands; temporaries = own }) good results (request q >>= f)
  follows_ask {setting = setting} {first = first} {past = past} below own {good} {results} i q f stands same fr =
      follows_one given code i stands (moves_request q f (λ r. (fr r).moves)) (λ around s free count p suits agrees slots few fit. subst (λ x. EndsWith given code setting x around past good results ((request q >>= f) s)) (sym (same around s free count)) (ends_request given code setting around past good results (record { operands = below; temporaries = own }) free first count slots s q (λ reply. push (number_in reply)) f agrees (λ r. (fr r).moves) fit (λ r t a less here. (fr r).follows around t free count (p, a.fits, number_fits r a.numbers) suits a.agrees slots (omega (arith, less, few)) here)))

  pub follows_no_units_to_ask : {A : Type 0} {premise : Type 0} {setting : Setting} {first past : ℕ} {operands : List ℤ} (below own : List ℤ) {good : A → Type 0} {results : A → Local} (i : Instr) (q : Request) → Stand code.lines first (i ∷ []) → ((around : Around) (s : State) (free : List ℤ) (count : ℕ) → act code i (machine_at around s (record { operands = operands; temporaries = own }) free first count) ≡ S.ask_number q (machine_at around s (record { operands = below; temporaries = own }) free first count)) → Follows given code premise 0 setting first past (record { operands = operands; temporaries = own }) good results (stop budget)
  follows_no_units_to_ask {setting = setting} {first = first} {past = past} below own {good} {results} i q stands same =
      follows_one given code i stands moved_same (λ around s free count p suits agrees slots few fit.
      let none : s.units ≡ 0 = omega (arith, few) in
      let m = machine_at around s (record { operands = below; temporaries = own }) free first count in
      subst (λ x. EndsWith given code setting x around past good results (stop budget s)) (sym (same around s free count ∙ ap (λ u. Rattle.core_isa.specs.Machine.unit_of u (Rattle.core_isa.specs.Machine.ask_then q (λ reply. push (number_in reply))) m) none)) (ends_here given code Rattle.core_isa.specs.Machine.budget (record { operands = below; temporaries = own }) free first count agrees))
