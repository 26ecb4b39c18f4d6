use Rattle.std.proofs.Common.{◌≡◌, ◌-◌, ◌≤◌, length}
use Rattle.dns_wire.specs.Reading.{octets, place}
use Rattle.dns_grammar.specs.Fields.{strings_at}
use Rattle.dns_rdata.proofs.Strings.{strings_after}
use Rattle.dns_rdata.proofs.txt.read_strings.Given as goal

-- the strings so far, and those that are left, are all of them
abbrev pub invariant-strings : goal.invariant-strings
invariant-strings l = record {
  left : strings_after l.strings.items (strings_at (l.end - place l.reader) (octets l.reader) (place l.reader) l.end)
      ≡ strings_at (l.end - place l.fn.reader) (octets l.fn.reader) (place l.fn.reader) l.end;
  inside : place l.reader ≤ l.end;
  end : l.end ≤ length (octets l.reader);
  same : octets l.reader ≡ octets l.fn.reader;
}

abbrev pub decreases-strings : goal.decreases-strings
decreases-strings l = l.end - place l.reader
