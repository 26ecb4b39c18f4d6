-- What contracts see of the parts of a set that is signed.
use Rattle.std.specs.Prelude.{None}
use Rattle.dns_grammar.specs.Messages.{ResourceRecord}
use Rattle.sec_sign.specs.declared.signed_set.SignedHead.{SignedHead}

-- what comes before the data of a record
abbrev pub head_of : SignedHead → ResourceRecord
head_of head = record {
  start = 0;
  name = head.owner.now;
  rtype = head.rtype;
  dns_class = head.dns_class;
  ttl = head.original_ttl;
  rdata = None;
}
