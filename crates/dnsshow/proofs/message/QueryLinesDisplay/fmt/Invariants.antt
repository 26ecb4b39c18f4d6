use Rattle.std.proofs.Common.{◌++◌, take}
use Rattle.std.specs.Prelude.{codes}
use Rattle.std.specs.List.{flat_map}
use Rattle.std.specs.Fmt.{HasWritten, IsPlainFormatter}
use Rattle.dns_message.specs.Views.{query_view}
use Rattle.dnsshow.specs.MessageCalls.{query_text}
use Rattle.dnsshow.proofs.message.QueryLinesDisplay.fmt.Given as goal

-- the lines of the first questions so far
abbrev pub invariant-loop-query : goal.invariant-loop-query
invariant-loop-query g l =
    IsPlainFormatter l.initial.f → HasWritten g.W.Write.write_str_gives l.initial.f
    (flat_map (λ query. codes "\n" ++ query_text (query_view query)) (take l.query-index l.queries)) l.f
