use Rattle.sec_sigdata.proofs.tsig_algorithm.md5_name.Goals as goal

pub returns : goal.returns
returns c = let is = c.in-Ok.ensures in cc (
  is.0,
  c.label.ensures,
  c.label-2.ensures,
  c.label-3.ensures,
  c.label-4.ensures,
)
