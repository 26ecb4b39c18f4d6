use Rattle.sec_keydata.proofs.TagSums.{HasSum}
use Rattle.sec_keydata.proofs.key_tag.octet_sum.Given as goal

abbrev pub invariant-loop-place : goal.invariant-loop-place
invariant-loop-place l = HasSum l.octets l.place l.sum
