use Rattle.std.proofs.Common.{◌≡◌, filter}
use Rattle.dnsrows.specs.Signing.{is_same}
use Rattle.dnsrows.proofs.signing.set_among.Given as goal

abbrev pub invariant-records : goal.invariant-records
invariant-records l = l.set ≡ record {
  name = l.fn.name;
  rtype = l.fn.rtype;
  ttl = l.fn.ttl;
  records = filter (is_same l.fn.name l.fn.rtype) l.yielded;
}
