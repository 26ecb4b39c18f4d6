use Rattle.std.proofs.Common.{◌≡◌, ◌+◌, ◌<◌, ◌≤◌, ℕ, get_or, bit_or}
use Rattle.dns_types.proofs.type_form.merge_at.Given as goal

abbrev pub invariant-loop-i : goal.invariant-loop-i
invariant-loop-i l = record {
  before : (k : ℕ) → k < l.start → get_or l.octets k 0 ≡ get_or l.initial.octets k 0;
  merged : (k : ℕ) → k < l.i → get_or l.octets (l.start + k) 0
      ≡ bit_or (get_or l.initial.octets (l.start + k) 0) (get_or l.bits k 0);
  behind : (k : ℕ) → l.i ≤ k → get_or l.octets (l.start + k) 0 ≡ get_or l.initial.octets (l.start + k) 0;
}
