-- Where lines tell where code asks and begins, an end has a place.
use Rattle.std.proofs.Common.{◌≡◌, ℕ, suc, ◌-◌, ◌≤◌, ◌⊎◌, inl, inr, List, [], ◌∷◌, ◌++◌, length, Some, None, refl, sym, ap, ◌∙◌, subst, arith}
use Rattle.std.specs.Prelude.{slice_get}
use Rattle.rtio_types.specs.declared.request.Request.{Request}
use Rattle.rtio_types.specs.declared.request.Reply.{Reply}
use Rattle.core_isa.specs.declared.code.Code.{Code}
use Rattle.core_isa.specs.Machine.{Next, unanswered}
use Rattle.core_isa.specs.Runs.{boot, counted}
use Rattle.core_cpu.specs.Standing.{HasEntry, Start as Beginning}
use Rattle.core_session.specs.Sessions.{Answered, replies_of, requests_of}
use Rattle.kernel_places.specs.declared.place.Place.{Place}
use Rattle.kernel_places.specs.Ends.{LacksLine, TellWhere, last_of, line_at}
use Rattle.kernel_places.specs.Laws.{EndsAreTold}
use Rattle.kernel_places.specs.Places.{AreAskedAt, AsksAt}
use Rattle.kernel_places.proofs.Acts.{step_leaves}
use Rattle.kernel_places.proofs.Leaving.{Keeps, Leaves}
use Rattle.kernel_places.proofs.Stepping.{EndsBy, ends_by}

-- the last of some places, of which there are two at least
last_behind : (one two : Place) (rest : List Place) → last_of (one ∷ two ∷ rest) ≡ last_of (two ∷ rest)
last_behind one two rest =
    let long : length (one ∷ two ∷ rest) - 1 ≡ suc (length (two ∷ rest) - 1) = omega arith in
    ap (λ (i : ℕ). slice_get (one ∷ two ∷ rest) i) long

module _ (code : Code) (start : Beginning) where
  -- a request was asked at the last place
  record AskedLast (places : List Place) : Type 0 where
    pub place : Place
    pub last : last_of places ≡ Some place
    pub replies : List Reply
    pub requests : List Request
    pub asks : AsksAt code start replies requests place

  -- either none was answered, or the last one was asked at the last place
  last_asked : (before answered : List Answered) (places : List Place) → AreAskedAt code start before answered places
      → (answered ≡ []) ⊎ AskedLast places
  last_asked before [] places at = inl refl
  last_asked before (a ∷ answered) [] at = absurd at
  last_asked before (a ∷ []) (place ∷ []) at =
      let only : length (place ∷ []) - 1 ≡ 0 = omega arith in
      inr (record {
        place = place;
        last = ap (λ (i : ℕ). slice_get (place ∷ []) i) only;
        replies = replies_of before;
        requests = requests_of before ++ a.request ∷ [];
        asks = at.0;
      })
  last_asked before (a ∷ []) (place ∷ next ∷ places) at = absurd at.1
  last_asked before (a ∷ b ∷ answered) (place ∷ []) at = absurd at.1
  last_asked before (a ∷ b ∷ answered) (place ∷ next ∷ places) at =
      further (last_asked (before ++ a ∷ []) (b ∷ answered) (next ∷ places) at.1)
    where
      further : ((b ∷ answered ≡ []) ⊎ AskedLast (next ∷ places)) → (a ∷ b ∷ answered ≡ []) ⊎ AskedLast (place ∷ next ∷ places)
      further (inl none) = absurd (let no : b ∷ answered ≡ [] = none in cc)
      further (inr it) =
          inr (record {
            place = it.place;
            last = last_behind place next places ∙ it.last;
            replies = it.replies;
            requests = it.requests;
            asks = it.asks;
          })

  module _ (lines : List ℕ) (tell : TellWhere code lines) where
    -- the instruction that asked has a line
    asked_on_line : (replies : List Reply) (requests : List Request) (place : Place) → AsksAt code start replies requests place → 1 ≤ line_at lines place.at
    asked_on_line replies requests place asks =
        let by : EndsBy code (boot asks.entry start.args start.cursor start.units replies) unanswered asks.machine =
        ends_by code asks.bound (boot asks.entry start.args start.cursor start.units replies) unanswered asks.machine asks.stops
        in
        let keeps : Keeps (counted by.before) asks.machine = subst (λ (x : Next). Leaves (counted by.before) x) by.ends_so (step_leaves code by.before) in
        subst (λ (p : ℕ). 1 ≤ line_at lines p) (sym keeps.0 ∙ asks.at) (tell.asks by.before asks.machine by.ends_so)

    -- so it can't be that no line tells where a run stopped
    pub none_lacks : (answered : List Answered) (asked : List Place)
        → HasEntry code start.function start.args
        → AreAskedAt code start [] answered asked
        → LacksLine code lines start (replies_of answered) (last_of asked)
        → ⊥
    none_lacks answered asked entry at lacks = by_last (last_asked [] answered asked at)
      where
        by_last : ((answered ≡ []) ⊎ AskedLast asked) → ⊥
        by_last (inl none) =
            let bare : line_at lines entry.entry.first ≡ 0 =
            lacks.behind entry.entry 0 (boot entry.entry start.args start.cursor start.units (replies_of answered)) entry.found refl (ap replies_of none)
            in
            let own : 1 ≤ line_at lines entry.entry.first = tell.begins start.function entry.entry entry.found in
            omega (arith, bare, own)
        by_last (inr it) =
            let bare : line_at lines it.place.at ≡ 0 = lacks.asks it.place it.last in
            let own : 1 ≤ line_at lines it.place.at = asked_on_line it.replies it.requests it.place it.asks in
            omega (arith, bare, own)

pub ends_are_told : (code : Code) (lines : List ℕ) → TellWhere code lines → EndsAreTold code lines
ends_are_told code lines tell start answered asked (Some place) entry at stops = (place, refl, stops)
ends_are_told code lines tell start answered asked None entry at stops =
    absurd (none_lacks code start lines tell answered asked entry at stops)
