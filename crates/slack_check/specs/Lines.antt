-- The line of a verdict, as bytes.
use Rattle.std.specs.Prelude.{ℕ, List, ◌++◌, codes, decimal}
use Rattle.std.specs.Fmt.{signed_decimal}
use Rattle.slack_meaning.specs.declared.verdict.OpenKind.{OpenKind}
use Rattle.slack_meaning.specs.declared.verdict.OpenKind.TheVariants as K
use Rattle.slack_meaning.specs.declared.verdict.Verdict.{Verdict}
use Rattle.slack_meaning.specs.declared.verdict.Verdict.TheVariants.{Yes, No, Open}

-- why a run can't go on
abbrev pub why_text : OpenKind → List ℕ
why_text K.Reading = codes "Reading"
why_text K.Edge = codes "Edge"
why_text K.Handle = codes "Handle"
why_text K.Kept = codes "Kept"
why_text K.Names = codes "Names"
why_text K.Span = codes "Span"
why_text K.Far = codes "Far"

-- how many outputs were asked for; how many came before one that may come too late, its least stamp, its channel, and
-- the limit that may reach its cycle; or how many requests came before the run stopped, and why
abbrev pub slack_line : Verdict → List ℕ
slack_line (Yes outs) = codes "slack yes " ++ decimal outs ++ codes "\n"
slack_line (No number event limit) =
    codes "slack no "
    ++ decimal number
    ++ codes " "
    ++ signed_decimal event.stamp
    ++ codes " "
    ++ decimal event.channel
    ++ codes " "
    ++ decimal limit
    ++ codes "\n"
slack_line (Open requests why) = codes "slack open " ++ decimal requests ++ codes " " ++ why_text why ++ codes "\n"
