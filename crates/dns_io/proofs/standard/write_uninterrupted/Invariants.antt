use Rattle.std.specs.Io.KnownBytes.{Keeps}
use Rattle.dns_io.proofs.standard.write_uninterrupted.Given as goal

-- nothing was moved yet
abbrev pub invariant-tries : goal.invariant-tries
invariant-tries g l = Keeps (g.W.Write.contents l.initial.writer) (g.W.Write.contents l.writer)
