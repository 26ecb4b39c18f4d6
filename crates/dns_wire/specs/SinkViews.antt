-- What the sinks of this crate have taken in.
use Rattle.std.specs.Prelude.{◌≡◌, Bool, true, false, ℕ, ◌^◌, ◌<◌, ◌≤◌, List, ◌++◌, length, drop}
use Rattle.dns_wire.specs.declared.counter.Counter.{Counter}
use Rattle.dns_wire.specs.Rooms.{counted}
use Rattle.dns_wire.specs.Writing.{Output}
use Rattle.dns_wire.specs.declared.encoder_sink.EncoderSink.{EncoderSink}
use Rattle.dns_wire.specs.declared.grower.Grower.{Grower}
use Rattle.dns_wire.specs.declared.slice_writer.SliceWriter.{SliceWriter}

-- so many octets were taken in, or as many as a usize counts
abbrev pub Counts : Counter → List ℕ → Type 0
Counts counter m = counter.len ≡ counted m

-- Behind the first octets stand those that were taken in; or, where there was no memory for all of them, others.
abbrev pub GrownBy : Bool → List ℕ → List ℕ → List ℕ → Type 0
GrownBy false octets first m = octets ≡ first ++ m
GrownBy true octets first m = (some : List ℕ) × (octets ≡ first ++ some)

abbrev pub HasGrown : Grower → List ℕ → List ℕ → Type 0
HasGrown grower first m = GrownBy grower.is_full grower.octets.items first m

-- The room of the caller's slice, known by its ghost name and its octets before, has the octets that were taken in in
-- its first places, where there is room for them all; and they are so many, where their number is a usize.
abbrev pub IsWritten : SliceWriter → ℕ × List ℕ → List ℕ → Type 0
IsWritten writer room m =
    (writer.room.ghost_name ≡ room.0) × (length m < 2 ^ 64 → writer.len ≡ length m)
    × (length m ≤ length room.1 → writer.room.now ≡ m ++ drop (length m) room.1)
    × (length writer.room.now ≡ length room.1)

-- The same of an encoder.
abbrev pub EncodedBy : Bool → Output → Output → List ℕ → Type 0
EncodedBy false now first m = now ≡ record first { octets = first.octets ++ m }
EncodedBy true now first m = (some : List ℕ) × (now ≡ record first { octets = first.octets ++ some })

-- the encoder, known by its ghost name and what it was before, has these octets behind those
abbrev pub HasEncoded : EncoderSink → ℕ × Output → List ℕ → Type 0
HasEncoded sink first m = (sink.encoder.ghost_name ≡ first.0) × EncodedBy sink.is_full sink.encoder.now first.1 m
