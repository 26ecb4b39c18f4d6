use Rattle.std.proofs.Common.{◌≡◌, ◌++◌, length, map}
use Rattle.std.specs.Str.{IsUtf8}
use Rattle.dns_text.specs.Words.{lines}
use Rattle.std.specs.String.{string_bytes}
use Rattle.dnsrows.proofs.scripts.text_lines.Given as goal

-- the lines so far and those that are left are all of them
abbrev pub invariant-lines : goal.invariant-lines
invariant-lines l = record {
  utf8 : IsUtf8 l.rest;
  left : map string_bytes l.found.items ++ lines l.rest ≡ lines l.text;
}

abbrev pub decreases-lines : goal.decreases-lines
decreases-lines l = length l.rest
