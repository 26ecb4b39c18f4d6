use Rattle.std.proofs.Common.{◌≡◌, ◌+◌, ◌≤◌, length}
use Rattle.dns_text.specs.Words.{lines}
use Rattle.dns_script.specs.Scripts.{add_lines}
use Rattle.dns_script.proofs.script.read_script.Given as goal

-- the lines so far and those that are left are all of them
abbrev pub invariant-lines : goal.invariant-lines
invariant-lines g l = record {
  numbered : l.number + length (lines l.rest) ≡ length (lines l.octets) + 1;
  few : l.number + length l.rest ≤ length l.octets + 1;
  left : add_lines g.L.Lines.kind l.number l.said (lines l.rest)
      ≡ add_lines g.L.Lines.kind 1 g.L.Lines.kind.nothing_said (lines l.octets);
}

abbrev pub decreases-lines : goal.decreases-lines
decreases-lines g l = length l.rest
