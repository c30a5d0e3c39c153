use Rattle.std.proofs.Common.{◌≡◌, ℕ, List, ap, refl, subst, sym, ◌∙◌}
use Rattle.std.specs.Prelude.{Err, Result}
use Rattle.top_calls.specs.declared.answer.Answer.{Answer}
use Rattle.top_calls.specs.declared.stop.Stop.{Stop}
use Rattle.top_calls.specs.declared.stop.Stop.TheVariants.{ReadFault, TooLong}
use Rattle.top_calls.specs.Statuses.{stop_line, stop_status}
use Rattle.top_calls.specs.Streams.{IsKept, Stream, stream}
use Rattle.top_calls.specs.Tellings.{IsTold, IsWritten}
use Rattle.top_calls.proofs.telling.tell.Goals as goal

stop-told : {K E : Type 0} (usage : List ℕ) (said : Result Answer Stop) (seen stop : Stop) (out : Stream K) (err : Stream E) (status : ℕ) → said ≡ Err seen → seen ≡ stop
    → IsWritten (stop_line usage stop) (stop_status stop) err status → IsKept out → IsTold usage said out err status
stop-told usage said seen stop out err status is seen_is written kept =
    subst (λ (s : Result Answer Stop). IsTold usage s out err status) (sym (is ∙ ap Err seen_is)) (written, kept)

pub returns-in-Err-ReadFault : goal.returns-in-Err-ReadFault
returns-in-Err-ReadFault g c =
    let seen = rw c.in-Err-ReadFault.is at c.in-Err-ReadFault.field-0-is in
    stop-told c.args.usage.now c.args.said c.in-Err-ReadFault.field-0 ReadFault (stream g.K.Sink.held g.K.Sink.faults c.args.out.now c.args.out.now) _ _
    c.in-Err-ReadFault.is seen c.told-in-Err-ReadFault.ensures refl

pub returns-in-Err-TooLong : goal.returns-in-Err-TooLong
returns-in-Err-TooLong g c =
    let seen = rw c.in-Err-TooLong.is at c.in-Err-TooLong.field-0-is in
    stop-told c.args.usage.now c.args.said c.in-Err-TooLong.field-0 TooLong (stream g.K.Sink.held g.K.Sink.faults c.args.out.now c.args.out.now) _ _
    c.in-Err-TooLong.is seen c.told-in-Err-TooLong.ensures refl
