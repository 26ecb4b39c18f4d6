use Rattle.std.proofs.Common.{take}
use Rattle.std.specs.List.{flat_map}
use Rattle.sec_digest.specs.Hmac.{Feeds}
use Rattle.value_tests.proofs.hashes.mac_of_pieces.Given as goal

-- the pieces so far are taken in
abbrev pub invariant-loop-piece : goal.invariant-loop-piece
invariant-loop-piece l = Feeds l.hmac l.fn.hash l.key (flat_map (λ piece. piece.now) (take l.piece-index l.pieces))
