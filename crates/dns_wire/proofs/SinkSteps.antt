-- What a sink that holds a borrow leaves behind it.
use Rattle.std.proofs.Common.{◌≡◌, inl, inr, ℕ, List, [], ◌++◌, length, take, Bool, true, false, Result, Ok, Err, is_ok}
use Rattle.std.proofs.Common.{refl, ap, ◌∙◌}
use Rattle.std.proofs.lemmas.Bool.{true≢false}
use Rattle.std.proofs.lemmas.List.{take_at}
use Rattle.dns_wire.specs.declared.error.EmitError.{EmitError}
use Rattle.dns_wire.specs.declared.error.EmitError.TheVariants.{OutOfMemory}
use Rattle.dns_wire.specs.declared.counter.Counter.{Counter}
use Rattle.dns_wire.specs.declared.encoder_sink.EncoderSink.{EncoderSink}
use Rattle.dns_wire.specs.declared.slice_writer.SliceWriter.{SliceWriter}
use Rattle.dns_wire.specs.SinkViews.{Counts, EncodedBy, HasEncoded, IsWritten}
use Rattle.dns_wire.specs.Sinks.{Puts}
use Rattle.dns_wire.specs.Rooms.{counted, FitsRoom, FillsStart, Measures}
use Rattle.dns_wire.specs.Growing.{Grows}
use Rattle.dns_wire.specs.Writing.{Output}

-- the room of a writer that was made for it
pub written_start : (result : Result (Unit {0}) EmitError) (first last : SliceWriter) (name : ℕ) (room final : List ℕ)
    (written : Result (List ℕ) EmitError)
    → IsWritten first (name, room) [] → Puts IsWritten result first last written → FitsRoom written room
    → (last.room.ghost_name ≡ name → final ≡ last.room.now) → FillsStart result room final written
written_start (Ok _) first last name room final (Ok octets) made puts fits left =
    let has = puts (name, room) [] made in
    left has.0 ∙ has.2 fits
written_start (Ok _) first last name room final (Err e) made puts fits left = absurd puts
written_start (Err e) first last name room final (Ok octets) made puts fits left =
    true≢false (ap is_ok puts.1)
written_start (Err e) first last name room final (Err x) made puts fits left = absurd fits

-- some octets are behind those that were there
grown : (is_full : Bool) (now first : Output) (m : List ℕ) → EncodedBy is_full now first m
    → (some : List ℕ) × (now ≡ record first { octets = first.octets ++ some })
grown false now first m has = (m, has)
grown true now first m has = has

not_full : (is_full : Bool) (now first : Output) (m : List ℕ) → is_full ≡ false → EncodedBy is_full now first m
    → now ≡ record first { octets = first.octets ++ m }
not_full false now first m is has = has
not_full true now first m is has = absurd (true≢false is)

-- the encoder of a sink that was made for it, where there was no memory
pub appended_some : (result : Result (Unit {0}) EmitError) (first last : EncoderSink) (name : ℕ) (old final : Output)
    (written : Result (List ℕ) EmitError)
    → HasEncoded first (name, old) [] → Puts HasEncoded result first last written
    → (last.encoder.ghost_name ≡ name → final ≡ last.encoder.now) → Grows (Err OutOfMemory) old final written
appended_some (Ok _) first last name old final (Ok octets) made puts left =
    let has = puts (name, old) [] made in
    let some = grown last.is_full last.encoder.now old octets has.1 in
    (some.0, left has.0 ∙ some.1, inl refl)
appended_some (Ok _) first last name old final (Err e) made puts left = absurd puts
appended_some (Err e) first last name old final written made puts left =
    let has = puts.0.1 (name, old) [] made in
    let some = grown last.is_full last.encoder.now old puts.0.0 has.1 in
    (some.0, left has.0 ∙ some.1, inl refl)

-- the encoder of a sink that was made for it, where there was memory
pub appended_all : (result : Result (Unit {0}) EmitError) (first last : EncoderSink) (name : ℕ) (old final : Output)
    (written : Result (List ℕ) EmitError)
    → last.is_full ≡ false → HasEncoded first (name, old) [] → Puts HasEncoded result first last written
    → (last.encoder.ghost_name ≡ name → final ≡ last.encoder.now) → Grows result old final written
appended_all (Ok _) first last name old final (Ok octets) room made puts left =
    let has = puts (name, old) [] made in
    left has.0 ∙ not_full last.is_full last.encoder.now old octets room has.1
appended_all (Ok _) first last name old final (Err e) room made puts left = absurd puts
appended_all (Err e) first last name old final written room made puts left =
    let has = puts.0.1 (name, old) [] made in
    (puts.0.0, left has.0 ∙ not_full last.is_full last.encoder.now old puts.0.0 room has.1, inr puts.1)

-- cut back to its length
pub cut_back : (old new : Output) (some : List ℕ) → new ≡ record old { octets = old.octets ++ some }
    → record new { octets = take (length old.octets) new.octets } ≡ old
cut_back old new some h =
    ap (λ (o : Output). record o { octets = take (length old.octets) o.octets }) h
    ∙ ap (λ (o : List ℕ). record old { octets = o }) (take_at old.octets some (length old.octets) refl)

-- what a counter counted
pub measured : (first last : Counter) (n : ℕ) (u : Unit {0}) (written : Result (List ℕ) EmitError) → Counts first []
    → Puts (λ (counter : Counter) (purpose : Unit {0}) (m : List ℕ). Counts counter m) (Ok u) first last written
    → ((m : List ℕ) → Counts last m → n ≡ counted m) → Measures (Ok n) written
measured first last n u (Ok octets) made puts len = len octets (puts tt [] made)
measured first last n u (Err e) made puts len = absurd puts
