-- A processor that goes on step by step behind the last reply.
use Rattle.std.proofs.Common.{◌≡◌, ℕ, ◌-◌, ◌<◌, ◌==◌, List, ◌++◌, true, false, Option, Some, refl, sym, ap, ◌∙◌, subst}
use Rattle.std.specs.Prelude.{◌^◌, option_to_list, if◌then◌else◌}
use Rattle.rtio_types.specs.declared.request.Request.{Request}
use Rattle.rtio_types.specs.declared.request.Reply.{Reply}
use Rattle.core_isa.specs.Runs.{Ran, Runs, boot, step}
use Rattle.core_isa.specs.declared.code.Code.{Code}
use Rattle.core_cpu.specs.Moments.{Moment, is_playing, is_ready, proceed, with_history}
use Rattle.core_cpu.specs.Roots.{root_place}
use Rattle.core_cpu.specs.Standing.{Start as Beginning}
use Rattle.kernel_places.specs.declared.place.Place.{Place}
use Rattle.kernel_places.specs.Behind.{IsBehind}
use Rattle.kernel_places.specs.Ends.{StopsFrom, line_at}
use Rattle.kernel_places.proofs.Tail.{Tail, begins, goes_on, lined, plays_on, stops_from}

-- it has come on from the first moment, and the last place with a line is found
pub record Going (first now : Moment) (lines : List ℕ) (asked end : Option Place) : Type 0 where
  pub code : now.code ≡ first.code
  pub playing : is_playing now.phase ≡ false
  pub tail : (start : Beginning) (replies : List Reply) (ran : Ran) (behind : IsBehind start replies asked first)
      → Runs first.code start.function start.args start.cursor start.units replies ran
      → ran.count < 2 ^ 64 - 1
      → Tail first.code lines (boot behind.stands.entry start.args start.cursor start.units replies) asked now end

pub renamed : (first now now' : Moment) (lines : List ℕ) (asked end end' : Option Place) → now' ≡ now → end' ≡ end → Going first now lines asked end → Going first now' lines asked end'
renamed first now now' lines asked end end' same same' going =
    subst (λ (m : Moment). Going first m lines asked end') (sym same) (subst (λ (o : Option Place). Going first now lines asked o) (sym same') going)

module _ (first : Moment) (lines : List ℕ) (asked : Option Place) where
  tail_first : (start : Beginning) (replies : List Reply) (ran : Ran) (behind : IsBehind start replies asked first)
      → Runs first.code start.function start.args start.cursor start.units replies ran
      → ran.count < 2 ^ 64 - 1
      → Tail first.code lines (boot behind.stands.entry start.args start.cursor start.units replies) asked first (lined lines asked)
  tail_first start replies ran behind runs short =
      begins lines start replies first behind.stands.entry behind.stands.found asked behind ran runs short

  -- no recording is played
  pub going_first : is_playing first.phase ≡ false → Going first first lines asked (lined lines asked)
  going_first playing = record { code = refl; playing = playing; tail = tail_first }

  -- the recording that is played goes on
  pub going_played : (now : Moment) (asks : Option Request)
      → now.code ≡ first.code
      → ((more : List Reply) (before : List Request) → proceed first.phase (with_history first.machine more before) ≡ proceed now.phase (with_history now.machine more (before ++ option_to_list asks)))
      → is_playing now.phase ≡ false
      → Going first now lines asked (lined lines asked)
  going_played now asks code goes playing =
      record {
        code = code;
        playing = playing;
        tail = λ start replies ran behind runs short.
            plays_on first.code lines (boot behind.stands.entry start.args start.cursor start.units replies) asked first now (lined lines asked) asks goes
            (tail_first start replies ran behind runs short);
      }

  -- an instruction more
  pub going_on : (old now : Moment) (end : Option Place) (asks : Option Request) (place : Place)
      → Going first old lines asked end
      → is_ready old.phase ≡ true
      → now.code ≡ old.code
      → ((more : List Reply) (before : List Request) → step old.code (with_history old.machine more before) ≡ proceed now.phase (with_history now.machine more (before ++ option_to_list asks)))
      → is_playing now.phase ≡ false
      → place.at ≡ old.machine.top.place
      → place.root ≡ root_place old.machine
      → Going first now lines asked (if line_at lines place.at == 0 then end else Some place)
  going_on old now end asks place so ready code goes playing at under =
      record {
        code = code ∙ so.code;
        playing = playing;
        tail = λ start replies ran behind runs short.
            goes_on first.code lines (boot behind.stands.entry start.args start.cursor start.units replies) asked old now end asks ready
            (λ more before. ap (λ (c : Code). step c (with_history old.machine more before)) (sym so.code) ∙ goes more before)
            (so.tail start replies ran behind runs short)
            place at under;
      }

  -- no more
  pub going_ends : (now : Moment) (end : Option Place) → Going first now lines asked end → is_ready now.phase ≡ false
      → (start : Beginning) (replies : List Reply) (ran : Ran)
      → IsBehind start replies asked first
      → Runs first.code start.function start.args start.cursor start.units replies ran
      → ran.count < 2 ^ 64 - 1
      → StopsFrom first.code lines start replies asked end
  going_ends now end so ready start replies ran behind runs short =
      stops_from first.code lines start replies asked behind.stands.entry now end behind.stands.found
      (so.tail start replies ran behind runs short) ready so.playing
