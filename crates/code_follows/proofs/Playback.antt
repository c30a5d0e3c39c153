-- Playing a recording.
use Rattle.std.proofs.Common.{◌≡◌, ℕ, ◌+◌, List, [], ◌∷◌, slice_get, Some, refl, sym, ◌∙◌, ap, subst}
use Rattle.std.specs.Prelude.{ℤ, ⊤}
use Rattle.std.specs.Int.{w64}
use Rattle.std.proofs.lemmas.Int.{SFits-int_wrap}
use Rattle.rtio_types.specs.declared.event.Event.{Event}
use Rattle.rtio_types.specs.declared.request.Request.{Request}
use Rattle.rtio_types.specs.declared.request.Request.TheVariants as Q
use Rattle.rtio_types.specs.declared.request.Reply.{Reply}
use Rattle.rtio_types.specs.declared.request.Reply.TheVariants as R
use Rattle.rtio_types.specs.Time.{later, shifted}
use Rattle.timeline_sem.specs.Actions.{State, Completion, normal, early, Action, skip, request, go_on as then_act}
use Rattle.timeline_sem.specs.Timeline.{delay, play_events, play_reply, play}
use Rattle.timeline_sem.specs.Laws.{final}
use Rattle.timeline_sem.proofs.Keeps.{keeps_play, keeps_play_events, keeps_delay, keeps_then, keeps_play_reply}
use Rattle.core_isa.specs.declared.code.Code.{Code}
use Rattle.core_isa.specs.declared.instr.Instr.{Instr}
use Rattle.core_isa.specs.declared.instr.Instr.TheVariants as I
use Rattle.core_isa.specs.Machine.{request_then}
use Rattle.core_isa.specs.Steps as S
use Rattle.core_isa.specs.Steps.{act, on_some}
use Rattle.core_isa.specs.WellAsked.{RepliesFit}
use Rattle.code_follows.specs.Stands.{Around, holding, Setting, SlotsAdd, machine_at, Agrees, EndsWith}
use Rattle.code_follows.specs.Parts.{Moved, Follows, Stand}
use Rattle.code_follows.proofs.Compose.{moved, moves_of}
use Rattle.code_follows.proofs.Requests.{comes_here, ends_request}
use Rattle.code_follows.proofs.Instructions.{follows_one, with_cursor}

-- what is done behind a request is done behind a part that begins with it
behind : {A B C : Type 0} (c : Completion A) (n : Action B) (k : Action C) → then_act c (λ r s. then_act (n s) (λ b. k)) ≡ then_act (then_act (then_act c (λ r. skip)) (λ a. n)) (λ b. k)
behind (normal a s) n k = refl
behind (early reason s) n k = refl

module _ (given : List Reply) (code : Code) where
  module _ (setting : Setting) (around : Around) (free : List ℤ) (place count : ℕ) (slots : SlotsAdd around [] free) where
    -- the events, and then the length
    ends_events : (events : List Event) (long t : ℤ) (s : State) → Agrees given around.names around.opening s → s.cursor ≡ t → RepliesFit (final (then_act (play_events events t s) (λ a. delay long))).asked given → EndsWith given code setting (S.play_events events long (machine_at around s (holding []) free place count)) around (place + 1) (λ v. ⊤) (λ v. holding []) (then_act (play_events events t s) (λ a. delay long))
    ends_events [] long t s agrees e fit =
        (tt, comes_here given code free count slots (with_cursor given code (later s.cursor long) (SFits-int_wrap w64 _) agrees))
    ends_events (event ∷ rest) long t s agrees e fit =
        let q = Q.Out (shifted event t) in
        let n = play_events rest t in
        let k = delay long in
        let same = behind (request q s) n k in
        let f : Reply → Action ⊤ = λ r s'. then_act (n s') (λ a. k) in
        subst (λ q'. EndsWith given code setting (request_then q' (λ reply. S.play_events rest long) (machine_at around s (holding []) free place count)) around (place + 1) (λ v. ⊤) (λ v. holding []) (then_act (play_events (event ∷ rest) t s) (λ a. k))) (ap (λ c. Q.Out (shifted event c)) (sym e)) (subst (λ c. EndsWith given code setting (request_then q (λ reply. S.play_events rest long) (machine_at around s (holding []) free place count)) around (place + 1) (λ v. ⊤) (λ v. holding []) c) same (ends_request given code setting around (place + 1) (λ v. ⊤) (λ v. holding []) (holding []) free place count slots s q (λ reply. S.play_events rest long) f agrees (λ r s'. moves_of (keeps_then Moved Moved moved (keeps_play_events Moved Moved moved rest t) (keeps_delay Moved Moved moved long)) s') (subst (λ c. RepliesFit (final c).asked given) (sym same) fit) (λ r s' a less here. ends_events rest long t s' a.agrees (a.cursor ∙ e) here)))

    -- what a reply brings
    ends_played : (reply : Reply) (s : State) → Agrees given around.names around.opening s → RepliesFit (final (play_reply reply s)).asked given → EndsWith given code setting (S.play_reply reply (machine_at around s (holding []) free place count)) around (place + 1) (λ v. ⊤) (λ v. holding []) (play_reply reply s)
    ends_played (R.Trace recording) s agrees fit = ends_events recording.events recording.length s.cursor s agrees refl fit
    ends_played (R.Time x) s agrees fit = (tt, comes_here given code free count slots agrees)
    ends_played _ s agrees fit = (tt, comes_here given code free count slots agrees)

  -- a playback
  pub follows_played : {premise : Type 0} {most : ℕ} {setting : Setting} {first : ℕ} {operands : List ℤ} (i : Instr) (q : Request) → Stand code.lines first (i ∷ []) → ((around : Around) (s : State) (free : List ℤ) (count : ℕ) → act code i (machine_at around s (holding operands) free first count) ≡ S.play q (machine_at around s (holding []) free first count)) → Follows given code premise most setting first (first + 1) (holding operands) (λ v. ⊤) (λ v. holding []) (play q)
  follows_played {setting} {first} i q stands same =
      follows_one given code i stands (moves_of (keeps_play Moved Moved moved q)) (λ around s free count p suits agrees slots few fit. subst (λ n. EndsWith given code setting n around (first + 1) (λ v. ⊤) (λ v. holding []) (play q s)) (sym (same around s free count)) (ends_request given code setting around (first + 1) (λ v. ⊤) (λ v. holding []) (holding []) free first count slots s q S.play_reply play_reply agrees (λ r t. moves_of (keeps_play_reply Moved Moved moved r) t) fit (λ r t a left here. ends_played setting around free first count slots r t a.agrees here)))

  pub follows_playback : {premise : Type 0} {most : ℕ} {setting : Setting} {first : ℕ} (n : ℕ) (name : List ℕ) → slice_get code.names n ≡ Some name → Stand code.lines first (I.Play n ∷ []) → Follows given code premise most setting first (first + 1) (holding []) (λ v. ⊤) (λ v. holding []) (play (Q.Fetch name))
  follows_playback {first} n name named stands =
      follows_played (I.Play n) (Q.Fetch name) stands (λ around s free count. ap (λ o. on_some o (λ k. S.play (Q.Fetch k) (machine_at around s (holding []) free first count))) named)

  pub follows_playback_handle : {premise : Type 0} {most : ℕ} {setting : Setting} {first : ℕ} (h : ℤ) → Stand code.lines first (I.PlayHandle ∷ []) → Follows given code premise most setting first (first + 1) (holding (h ∷ [])) (λ v. ⊤) (λ v. holding []) (play (Q.FetchHandle h))
  follows_playback_handle h stands = follows_played I.PlayHandle (Q.FetchHandle h) stands (λ around s free count. refl)
