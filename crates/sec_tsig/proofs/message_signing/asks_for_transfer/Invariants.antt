use Rattle.std.proofs.Common.{◌≡◌, drop}
use Rattle.std.specs.List.{list_any}
use Rattle.sec_tsig.specs.MessageSigning.{is_transfer}
use Rattle.sec_tsig.proofs.message_signing.asks_for_transfer.Given as goal

-- those that are left decide
abbrev pub invariant-loop-query : goal.invariant-loop-query
invariant-loop-query l = list_any is_transfer (drop l.query-index l.queries) ≡ list_any is_transfer l.queries
