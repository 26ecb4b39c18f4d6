-- What contracts see of a set of records.
use Rattle.std.specs.Prelude.{ℕ, List}
use Rattle.dns_rdata.specs.declared.rdata.RData.{RData}
use Rattle.dns_message.specs.declared.record.Record.{Record}

-- its owner, its type, its TTL, and its records in the order in which they were put to it
pub record Rrset : Type 0 where
  pub name : List (List ℕ)
  pub rtype : ℕ
  pub ttl : ℕ
  pub records : List (Record RData)
