use Rattle.std.proofs.Common.{◌≡◌, ◌≤◌, map, take, length}
use Rattle.std.specs.Prelude.{filter}
use Rattle.sec_codes.specs.Algorithms.{number}
use Rattle.sec_codes.specs.AlgorithmSets.{seven, has}
use Rattle.sec_codes.proofs.supported_algorithms.SupportedAlgorithmsPutting.put.Given as goal

abbrev pub invariant-members : goal.invariant-members
invariant-members g l = record {
  inside : l.count ≤ l.algorithm-index;
  kept : take l.count l.numbers ≡ map number (filter (has l.self) (take l.algorithm-index seven));
  room : length l.numbers ≡ 7;
}
