-- The row of transaction signatures, which each table knows.
use Rattle.std.specs.Prelude.{◌≡◌, ℕ, List, [], ◌∷◌}
use Rattle.dns_wire.specs.declared.error.EmitError.TheVariants.{MacTooLong, OtherTooLong}
use Rattle.dns_grammar.specs.Fields.{Two, Number, Time, Counted, KeptName, Field, Table, any, row_of}
use Rattle.dns_grammar.specs.RecordData.{tsig_type}

-- a transaction signature (RFC 8945 4.2): algorithm name, time signed, fudge, MAC, original ID, error, other data
abbrev pub tsig_row : List Field
tsig_row =
    any KeptName
    ∷ any Time
    ∷ any (Number Two)
    ∷ any (Counted Two MacTooLong)
    ∷ any (Number Two)
    ∷ any (Number Two)
    ∷ any (Counted Two OtherTooLong)
    ∷ []

-- the table knows transaction signatures
pub record IsTable (table : Table) : Type 0 where
  pub tsig : row_of table tsig_type ≡ tsig_row
