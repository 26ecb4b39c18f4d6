-- The last additional record read into memory, where it is a transaction signature.
use Rattle.std.proofs.Common.{◌≡◌, ◌⊎◌, inl, inr, sym, ℕ, Bool, true, false, cond, eqb, ◌&&◌, List, Option, Some, None}
use Rattle.std.proofs.Common.{Result, Ok, Err, refl, ap, ◌∙◌}
use Rattle.dns_wire.specs.declared.error.DecodeError.{DecodeError}
use Rattle.dns_wire.specs.declared.error.DecodeError.TheVariants.{OutOfMemory}
use Rattle.dns_wire.specs.Reading.{◌>>=◌}
use Rattle.dns_grammar.specs.Fields.{Value}
use Rattle.dns_grammar.specs.RecordData.{tsig_type, one_type_data_at, rdata_at}
use Rattle.dns_grammar.specs.Tables.{tsig_row}
use Rattle.dns_grammar.specs.Messages.{RecordHead, ResourceRecord, with_data, head_at, record_at}
use Rattle.dns_rdata.specs.RDataTable.{rdata_table}
use Rattle.dns_message.specs.MessageReading.{unplaced_at}

-- the record with these data
abbrev pub signature : RecordHead → List Value → ResourceRecord
signature h values = record {
  start = 0;
  name = h.name;
  rtype = tsig_type;
  dns_class = h.dns_class;
  ttl = h.ttl;
  rdata = Some values;
}

abbrev some_data : Result (List Value × ℕ) DecodeError → Result (Option (List Value) × ℕ) DecodeError
some_data read = read >>= λ values. Ok (Some values.0, values.1)

abbrev as_tsig : RecordHead → Option (List Value) × ℕ → Result (ResourceRecord × ℕ) DecodeError
as_tsig h rdata = Ok (record (with_data h rdata.0) { rtype = tsig_type }, rdata.1)

abbrev with_values : RecordHead → List Value × ℕ → Result (ResourceRecord × ℕ) DecodeError
with_values h values = Ok (signature h values.0, values.1)

-- data of type TSIG are not empty
never_empty : (h : RecordHead) (r : ℕ) (none : Bool) (read : Result (List Value × ℕ) DecodeError)
    → unplaced_at (cond (none && false) (Ok (None, r)) (some_data read) >>= as_tsig h) ≡ (read >>= with_values h)
never_empty h r true (Ok x) = refl
never_empty h r true (Err e) = refl
never_empty h r false (Ok x) = refl
never_empty h r false (Err e) = refl

by_data : (m : List ℕ) (p : ℕ) (h : RecordHead) (r : ℕ) → head_at m p ≡ Ok (h, r) → h.rtype ≡ tsig_type
    → unplaced_at (record_at rdata_table true m p) ≡ (one_type_data_at tsig_row m r h.data_length >>= with_values h)
unfolding record_at rdata_at
by_data m p h r head is =
    rw (head, is) (never_empty h r (eqb h.data_length 0) (one_type_data_at tsig_row m r h.data_length))

-- the same, the octets and the place being known by other names
module _ (m : List ℕ) (p : ℕ) (k : List ℕ) (at : ℕ) (l : List ℕ) (h : RecordHead) (r : ℕ) where
  pub tsig_read : (values : List Value) (q : ℕ) → k ≡ m → at ≡ p → head_at k at ≡ Ok (h, r) → h.rtype ≡ tsig_type
      → l ≡ k
      → one_type_data_at tsig_row l r h.data_length ≡ Ok (values, q)
      → unplaced_at (record_at rdata_table true m p) ≡ Ok (signature h values, q)
  tsig_read values q same here head is again read =
      by_data m p h r ((λ i. head_at (sym same i) (sym here i)) ∙ head) is
      ∙ ap (λ (x : List ℕ). one_type_data_at tsig_row x r h.data_length >>= with_values h) (sym (again ∙ same))
      ∙ ap (λ x. x >>= with_values h) read

  pub tsig_unread : (e : DecodeError) → k ≡ m → at ≡ p → head_at k at ≡ Ok (h, r) → h.rtype ≡ tsig_type → l ≡ k
      → (e ≡ OutOfMemory) ⊎ (one_type_data_at tsig_row l r h.data_length ≡ Err e)
      → (e ≡ OutOfMemory) ⊎ (unplaced_at (record_at rdata_table true m p) ≡ Err e)
  tsig_unread e same here head is again (inl memory) = inl memory
  tsig_unread e same here head is again (inr fails) =
      inr (by_data m p h r ((λ i. head_at (sym same i) (sym here i)) ∙ head) is
      ∙ ap (λ (x : List ℕ). one_type_data_at tsig_row x r h.data_length >>= with_values h) (sym (again ∙ same))
      ∙ ap (λ x. x >>= with_values h) fails)
