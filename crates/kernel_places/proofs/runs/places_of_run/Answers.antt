use Rattle.std.proofs.Common.{◌≡◌, List, Option, sym, ap, ◌∙◌, subst}
use Rattle.rtio_types.specs.declared.request.Reply.{Reply}
use Rattle.core_isa.specs.Runs.{Runs}
use Rattle.core_isa.specs.declared.code.Code.{Code}
use Rattle.core_session.specs.Sessions.{replies_of}
use Rattle.kernel_places.specs.declared.place.Place.{Place}
use Rattle.kernel_places.specs.Behind.{IsBehind}
use Rattle.kernel_places.specs.Ends.{StopsFrom, last_of}
use Rattle.kernel_places.specs.Places.{answered_in}
use Rattle.kernel_places.proofs.runs.places_of_run.Goals as goal

pub returns-clause-end : goal.returns-clause-end
returns-clause-end c = λ seeks start ran begins asks runs short.
    let now = c.places_asked.new.cpu in
    let lines = c.args.lines.now in
    let replies : List Reply = replies_of (answered_in c.args.session.now) in
    let last : Option Place = last_of c.in_ok-asked.asked.items in
    let code : now.code ≡ c.args.cpu.code = c.in_ok-asked.ensures.code in
    let same : c.copied.result ≡ last = c.copied.ensures ∙ c.last.ensures.value ∙ ap last_of c.deref.ensures.value in
    subst (λ (o : Option Place). StopsFrom c.args.cpu.code lines start replies o c.in_ok-end.end) same
    (subst (λ (k : Code). StopsFrom k lines start replies c.copied.result c.in_ok-end.end) code
    (c.in_ok-end.ensures.sought seeks start replies ran
    (subst (λ (o : Option Place). IsBehind start replies o now) (sym same) (c.in_ok-asked.ensures.behind start begins asks))
    (subst (λ (k : Code). Runs k start.function start.args start.cursor start.units replies ran) (sym code) runs)
    short))
