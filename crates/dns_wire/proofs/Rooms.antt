-- A room that has room for octets, and one that has none.
use Rattle.std.proofs.Common.{◌≡◌, ℕ, ◌<◌, ◌≤◌, true, false, ltb, List, ◌++◌, length, drop, refl}
use Rattle.std.proofs.lemmas.Bool.{le-ltb, lt-ltb}
use Rattle.dns_wire.specs.Rooms.{filled}

pub filled_up : (room octets : List ℕ) → length octets ≤ length room
    → filled room octets ≡ octets ++ drop (length octets) room
filled_up room octets le =
    let enough : ltb (length room) (length octets) ≡ false = le-ltb _ _ le in
    rw enough refl

pub not_filled : (room octets : List ℕ) → length room < length octets → filled room octets ≡ room
not_filled room octets lt =
    let short : ltb (length room) (length octets) ≡ true = lt-ltb _ _ lt in
    rw short refl
