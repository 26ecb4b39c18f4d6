use Rattle.std.specs.Io.KnownBytes.{Keeps}
use Rattle.dns_io.proofs.standard.read_uninterrupted.Given as goal

-- nothing was moved yet
abbrev pub invariant-tries : goal.invariant-tries
invariant-tries g l = Keeps (g.R.Read.remaining l.initial.reader) (g.R.Read.remaining l.reader)
