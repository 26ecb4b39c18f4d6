-- Numbers of classes (IANA, DNS CLASSes). Another module cites them as `classes.IN`.
use Rattle.std.specs.Prelude.{ℕ}

abbrev pub IN : ℕ
IN = 1

abbrev pub CH : ℕ
CH = 3

abbrev pub HS : ℕ
HS = 4

abbrev pub NONE : ℕ
NONE = 254

abbrev pub ANY : ℕ
ANY = 255
