use Rattle.std.proofs.Common.{◌≡◌, ◌-◌, ◌≤◌, length}
use Rattle.dns_wire.specs.Reading.{octets, place}
use Rattle.dns_grammar.specs.Fields.{strings_at}
use Rattle.dns_names.specs.Skipping.{without_value}
use Rattle.dns_grammar.proofs.check.skip_strings.Given as goal

-- the strings that are left end where all of them do
abbrev pub invariant-strings : goal.invariant-strings
invariant-strings l = record {
  left : without_value (strings_at (l.end - place l.reader) (octets l.reader) (place l.reader) l.end)
      ≡ without_value (strings_at (l.end - place l.fn.reader) (octets l.fn.reader) (place l.fn.reader) l.end);
  inside : place l.reader ≤ l.end;
  end : l.end ≤ length (octets l.reader);
  forward : place l.fn.reader ≤ place l.reader;
  same : octets l.reader ≡ octets l.fn.reader;
}

abbrev pub decreases-strings : goal.decreases-strings
decreases-strings l = l.end - place l.reader
