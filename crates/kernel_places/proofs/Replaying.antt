-- What a processor that runs again has come to behind some of the entries.
use Rattle.std.proofs.Common.{◌≡◌, ℕ, suc, ◌+◌, ◌-◌, ◌<◌, ◌≤◌, List, [], ◌∷◌, ◌++◌, length, drop, get_or, Option, Some, refl, sym, ap, subst, ◌∙◌, append-nil, append_assoc, add-one, drop-cons, false, arith, length-append}
use Rattle.std.specs.Prelude.{slice_get}
use Rattle.std.proofs.Math.Seq.{get_or-append_seam}
use Rattle.std.proofs.lemmas.List.{map-append, drop_all}
use Rattle.std.proofs.lemmas.Option.{slice_get-get_or}
use Rattle.rtio_types.specs.declared.request.Request.{Request}
use Rattle.rtio_types.specs.declared.request.Reply.{Reply}
use Rattle.rtio_core.specs.declared.data.Act.{Act}
use Rattle.rtio_core.specs.declared.data.Act.TheVariants as A
use Rattle.rtio_core.specs.declared.data.Entry.{Entry}
use Rattle.core_isa.specs.declared.code.Code.{Code}
use Rattle.core_isa.specs.Machine.{Machine}
use Rattle.core_cpu.specs.Moments.{Moment, is_asking, proceed, with_history}
use Rattle.core_cpu.specs.Standing.{Stands, Start as Beginning}
use Rattle.core_cpu.specs.declared.phase.Phase.{Phase}
use Rattle.core_cpu.specs.declared.phase.Phase.TheVariants.{Ready}
use Rattle.core_session.specs.Sessions.{Answered, requests_of, replies_of}
use Rattle.kernel_places.specs.declared.place.Place.{Place}
use Rattle.kernel_places.specs.Behind.{AsksAtCount, ComesFrom, IsBehind}
use Rattle.kernel_places.specs.Ends.{last_of}
use Rattle.kernel_places.specs.Places.{AreAskedAt, Asks, AsksEach, IsAtBeginning, answered_in}

-- the last of some places
last_push : (places : List Place) (place : Place) → last_of (places ++ place ∷ []) ≡ Some place
last_push places place =
    let long : length (places ++ place ∷ []) ≡ length places + 1 = length-append places (place ∷ []) in
    let last : length (places ++ place ∷ []) - 1 ≡ length places = omega arith in
    ap (λ (i : ℕ). slice_get (places ++ place ∷ []) i) last
    ∙ slice_get-get_or (places ++ place ∷ []) (length places) place (omega (arith, long))
    ∙ ap (λ (p : Place). Some p) (get_or-append_seam places place [] place)

-- behind these answered requests, with these entries to come: once the places of the others are there, those of all are
pub record Behind (code : Code) (start : Beginning) (now : Moment) (whole rest : List Entry) (places : List Place) : Type 0 where
  pub before : List Answered
  pub all : before ++ answered_in rest ≡ answered_in whole
  pub stands : Stands start (requests_of before) (replies_of before) now
  pub comes : ComesFrom start (replies_of before) (last_of places) now
  pub asks : AsksEach code start before (answered_in rest)
  pub joins : (more : List Place) → AreAskedAt code start before (answered_in rest) more → AreAskedAt code start [] (answered_in whole) (places ++ more)

pub record SoFar (first now : Moment) (whole rest : List Entry) (places : List Place) : Type 0 where
  pub code : now.code ≡ first.code
  pub idle : is_asking now.phase ≡ false
  pub behind : (start : Beginning) → IsAtBeginning start first → AsksEach first.code start [] (answered_in whole) → Behind first.code start now whole rest places

-- a run that has begun no instruction
stands_first : (start : Beginning) (now : Moment) → IsAtBeginning start now → Stands start [] [] now
stands_first start now b =
    record {
      entry = b.entry;
      found = b.found;
      units = b.units;
      count = 0;
      leads = λ more.
          ap (λ (m : Machine). proceed Ready (with_history m more [])) (sym b.machine)
          ∙ ap (λ (p : Phase). proceed p (with_history now.machine more [])) (sym b.ready);
    }

-- at the beginning
pub at_first : (first : Moment) (whole : List Entry) → is_asking first.phase ≡ false → SoFar first first whole whole []
at_first first whole idle =
    record {
      code = refl;
      idle = idle;
      behind = λ start b asks. record { before = []; all = refl; stands = stands_first start first b; comes = (refl, b); asks = asks; joins = λ more there. there };
    }

-- at the end
module _ (first now : Moment) (whole : List Entry) (places : List Place) (so : SoFar first now whole [] places) (start : Beginning) (b : IsAtBeginning start first) (asks : AsksEach first.code start [] (answered_in whole)) where
  pub at_last : AreAskedAt first.code start [] (answered_in whole) places
  at_last =
      subst (λ (p : List Place). AreAskedAt first.code start [] (answered_in whole) p) (append-nil places) ((so.behind start b asks).joins [] tt)

  pub behind_last : IsBehind start (replies_of (answered_in whole)) (last_of places) now
  behind_last =
      let all : Behind first.code start now whole [] places = so.behind start b asks in
      let same : all.before ≡ answered_in whole = sym (append-nil all.before) ∙ all.all in
      record {
        idle = so.idle;
        requests = requests_of all.before;
        stands = subst (λ (l : List Answered). Stands start (requests_of all.before) (replies_of l) now) same all.stands;
        comes = subst (λ (l : List Answered). ComesFrom start (replies_of l) (last_of places) now) same all.comes;
      }

-- an entry that is no answered request
pub passed : (first now : Moment) (whole : List Entry) (entry : Entry) (rest : List Entry) (places : List Place)
    → answered_in (entry ∷ rest) ≡ answered_in rest
    → SoFar first now whole (entry ∷ rest) places
    → SoFar first now whole rest places
passed first now whole entry rest places same so =
    record {
      code = so.code;
      idle = so.idle;
      behind = λ start begins asks. let b = so.behind start begins asks in
          record {
            before = b.before;
            all = ap (λ (l : List Answered). b.before ++ l) (sym same) ∙ b.all;
            stands = b.stands;
            comes = b.comes;
            asks = subst (λ (l : List Answered). AsksEach first.code start b.before l) same b.asks;
            joins = λ more there. b.joins more (subst (λ (l : List Answered). AreAskedAt first.code start b.before l more) (sym same) there);
          };
    }

-- an answered request comes next
module _ (first now : Moment) (whole : List Entry) (entry : Entry) (rest : List Entry) (places : List Place) (request : Request) (reply : Reply) (at : ℕ) (is : entry.act ≡ A.Asked request reply at) where
  abbrev a : Answered
  a = record { request = request; reply = reply; at = at }

  shown : answered_in (entry ∷ rest) ≡ a ∷ answered_in rest
  shown = ap (λ (act : Act). answered_in (record { chair = entry.chair; act = act } ∷ rest)) is

  each_shown : (start : Beginning) (before : List Answered) → AsksEach first.code start before (answered_in (entry ∷ rest)) → AsksEach first.code start before (a ∷ answered_in rest)
  each_shown start before asks = subst (λ (l : List Answered). AsksEach first.code start before l) shown asks

  pub it_asks : SoFar first now whole (entry ∷ rest) places
      → (start : Beginning) → IsAtBeginning start first → AsksEach first.code start [] (answered_in whole)
      → (start' : Beginning) × (asked : List Request) × (request' : Request) × (replies : List Reply)
      × Stands start' asked replies now × Asks now.code start' replies (asked ++ request' ∷ [])
  it_asks so start begins asks =
      let b = so.behind start begins asks in
      let each = each_shown start b.before b.asks in (
        start,
        requests_of b.before,
        request,
        replies_of b.before,
        b.stands,
        subst (λ (c : Code). Asks c start (replies_of b.before) (requests_of b.before ++ request ∷ [])) (sym so.code) each.0,
      )

  pub one_more : (after : Moment) (place : Place)
      → SoFar first now whole (entry ∷ rest) places
      → after.code ≡ now.code
      → is_asking after.phase ≡ false
      → ((start : Beginning) (asked : List Request) (request' : Request) (replies : List Reply) → Stands start asked replies now → Asks now.code start replies (asked ++ request' ∷ [])
      → AsksAtCount now.code start replies (asked ++ request' ∷ []) place after.machine.steps × Stands start (asked ++ request' ∷ []) (replies ++ reply ∷ []) after)
      → SoFar first after whole rest (places ++ place ∷ [])
  one_more after place so same idle found =
      record {
        code = same ∙ so.code;
        idle = idle;
        behind = λ start begins asks. on start (so.behind start begins asks);
      }
    where
      on : (start : Beginning) → Behind first.code start now whole (entry ∷ rest) places → Behind first.code start after whole rest (places ++ place ∷ [])
      on start b =
          let each = each_shown start b.before b.asks in
          let asks = subst (λ (c : Code). Asks c start (replies_of b.before) (requests_of b.before ++ request ∷ [])) (sym so.code) each.0 in
          let there = found start (requests_of b.before) request (replies_of b.before) b.stands asks in
          let told : AsksAtCount after.code start (replies_of b.before) (requests_of b.before ++ request ∷ []) place after.machine.steps =
          subst (λ (c : Code). AsksAtCount c start (replies_of b.before) (requests_of b.before ++ request ∷ []) place after.machine.steps) (sym same) there.0
          in
          let at' : AsksAtCount first.code start (replies_of b.before) (requests_of b.before ++ request ∷ []) place after.machine.steps =
          subst (λ (c : Code). AsksAtCount c start (replies_of b.before) (requests_of b.before ++ request ∷ []) place after.machine.steps) so.code there.0
          in
          let requests : requests_of (b.before ++ a ∷ []) ≡ requests_of b.before ++ request ∷ [] = map-append (λ (x : Answered). x.request) b.before (a ∷ []) in
          let replies : replies_of (b.before ++ a ∷ []) ≡ replies_of b.before ++ reply ∷ [] = map-append (λ (x : Answered). x.reply) b.before (a ∷ []) in
          let stands' : Stands start (requests_of (b.before ++ a ∷ [])) (replies_of b.before ++ reply ∷ []) after =
          subst (λ (q : List Request). Stands start q (replies_of b.before ++ reply ∷ []) after) (sym requests) there.1
          in
          let comes : ComesFrom start (replies_of (b.before ++ a ∷ [])) (Some place) after =
          (replies_of b.before, reply, requests_of b.before ++ request ∷ [], replies, told)
          in
          record {
            before = b.before ++ a ∷ [];
            all = append_assoc b.before (a ∷ []) (answered_in rest) ∙ ap (λ (l : List Answered). b.before ++ l) (sym shown) ∙ b.all;
            stands = subst (λ (r : List Reply). Stands start (requests_of (b.before ++ a ∷ [])) r after) (sym replies) stands';
            comes = subst (λ (o : Option Place). ComesFrom start (replies_of (b.before ++ a ∷ [])) o after) (sym (last_push places place)) comes;
            asks = each.1;
            joins = λ more others.
                let all = b.joins (place ∷ more) (subst (λ (l : List Answered). AreAskedAt first.code start b.before l (place ∷ more)) (sym shown) (at'.0, others)) in
                subst (λ (p : List Place). AreAskedAt first.code start [] (answered_in whole) p) (sym (append_assoc places (place ∷ []) more)) all;
          }

-- the entries from an index on
pub rest_at : (entries : List Entry) (i : ℕ) (entry : Entry) → i < length entries → entry ≡ get_or entries i entry → drop i entries ≡ entry ∷ drop (i + 1) entries
rest_at entries i entry within is = rw (add-one i, drop-cons entries i entry within) (ap (λ (e : Entry). e ∷ drop (suc i) entries) (sym is))

pub so_far_at : (first now : Moment) (whole : List Entry) (i : ℕ) (entry : Entry) (places : List Place) → i < length whole → entry ≡ get_or whole i entry
    → SoFar first now whole (drop i whole) places → SoFar first now whole (entry ∷ drop (i + 1) whole) places
so_far_at first now whole i entry places within is so = subst (λ (l : List Entry). SoFar first now whole l places) (rest_at whole i entry within is) so

pub at_end : (first now : Moment) (whole : List Entry) (i : ℕ) (places : List Place) → length whole ≤ i → SoFar first now whole (drop i whole) places → SoFar first now whole [] places
at_end first now whole i places over so = subst (λ (l : List Entry). SoFar first now whole l places) (drop_all i whole over) so
