use Rattle.std.proofs.Common.{rules, ◌≡◌, ◌++◌, codes, OnOk, string_bytes, subst}
use Rattle.std.specs.Fmt.{signed_decimal}
use Rattle.trace_report.specs.Requests.{reply_text}
use Rattle.trace_report.proofs.Joined.{joined}
use Rattle.trace_report.proofs.words.write_request.Goals as goal

pub returns-in-FetchHandle : goal.returns-in-FetchHandle
returns-in-FetchHandle c =
    let before = string_bytes c.args.text.now in
    let number = signed_decimal c.in-FetchHandle.handle in
    let reply = reply_text c.args.reply.now in
    let written : OnOk c.write_numbered.result (string_bytes c.write_numbered.new.text ≡ ((((before ++ codes " ") ++ codes "fetch_handle") ++ codes " ") ++ number) ++ reply) = search rules in
    rw c.in-FetchHandle.is (subst (λ t. OnOk c.write_numbered.result (string_bytes c.write_numbered.new.text ≡ t)) (joined before (codes " ") (codes "fetch_handle") (codes " ") number reply) written)
