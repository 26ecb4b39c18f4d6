-- The fields of an RRSIG before its signature, as they are read at the place where its record starts.
use Rattle.std.proofs.Common.{◌≡◌, ℕ, ◌+◌, Bool, true, false, eqb, ltb, List, [], ◌∷◌, ◌++◌, length, slice_range}
use Rattle.std.proofs.Common.{Option, Some, None, option_map, Result, Ok, Err, refl, sym, ap, ◌∙◌, eq-eqb, if◌then◌else◌}
use Rattle.std.proofs.lemmas.Bool.{eqb-true}
use Rattle.dns_wire.specs.declared.error.DecodeError.{DecodeError}
use Rattle.dns_wire.specs.declared.error.DecodeError.TheVariants.{InsufficientBytes}
use Rattle.dns_wire.specs.Reading.{◌>>=◌}
use Rattle.dns_types.specs.TypeNumbers as types
use Rattle.dns_grammar.specs.Fields.{Field, Value, Str, Rest, any, value_at, no_fault, fields_at}
use Rattle.dns_grammar.specs.RecordData.{is_empty_at, filled_by, fields_filling, one_type_data_at, rdata_at}
use Rattle.dns_grammar.specs.Messages.{RecordHead, ResourceRecord, head_at, placed, with_data, record_at}
use Rattle.sec_codes.specs.Algorithms.{number, algorithm_numbered}
use Rattle.sec_sigdata.specs.declared.sig_input.SigInput.{SigInput}
use Rattle.sec_sigdata.specs.SignatureRows.{sig_row}
use Rattle.sec_sigdata.specs.Signatures.{input_row, input_values}
use Rattle.dns_rdata.specs.RDataTable.{rdata_table}
use Rattle.message_walk.specs.Places.{record_from}
use Rattle.sec_sigdata.specs.Signatures.{SigData}
use Rattle.sec_sign.specs.MessageSignatures.{rrsig_from_values}
use Rattle.rrsig_input.specs.SignedSets.{input_read}

abbrev input_from : Option SigData → Option SigInput
input_from = option_map (λ rrsig. rrsig.input)

-- ---- the head

-- what is read of a record behind its head
abbrev after_head : List ℕ → RecordHead → ℕ → Result (ResourceRecord × ℕ) DecodeError
after_head m head q =
    placed true head.rtype >>= λ _. rdata_at rdata_table m q head.data_length head.rtype
    >>= λ rdata. Ok (with_data head rdata.0, rdata.1)

behind_head : (m : List ℕ) (p : ℕ) (head : RecordHead) (q : ℕ) → head_at m p ≡ Ok (head, q)
    → record_from m p ≡ after_head m head q
unfolding record_at
behind_head m p head q read = rw read refl

pub no_head : (m : List ℕ) (p : ℕ) (fault : DecodeError) → head_at m p ≡ Err fault
    → None ≡ input_read (record_from m p)
unfolding record_at
no_head m p fault read = rw read refl

other_read : (head : RecordHead) (test : Result (Unit {0}) DecodeError)
    (given : Result (Option (List Value) × ℕ) DecodeError) → eqb head.rtype types.RRSIG ≡ false
    → None ≡ input_read (test >>= λ _. given >>= λ rdata. Ok (with_data head rdata.0, rdata.1))
other_read head (Err fault) given other = refl
other_read head (Ok u) (Err fault) other = refl
other_read head (Ok u) (Ok rdata) other = rw other refl

-- a record of another type
pub other_type : (m : List ℕ) (p : ℕ) (head : RecordHead) (q : ℕ) → head_at m p ≡ Ok (head, q)
    → eqb head.rtype types.RRSIG ≡ false
    → None ≡ input_read (record_from m p)
other_type m p head q read other =
    other_read head (placed true head.rtype) (rdata_at rdata_table m q head.data_length head.rtype) other
    ∙ ap input_read (sym (behind_head m p head q read))

-- ---- the data

-- the fields before the signature of data that are read
abbrev data_input : Result (Option (List Value) × ℕ) DecodeError → Option SigInput
data_input (Ok rdata) = input_from (rrsig_from_values rdata.0)
data_input (Err _) = None

rrsig_read : (head : RecordHead) (given : Result (Option (List Value) × ℕ) DecodeError)
    → eqb head.rtype types.RRSIG ≡ true
    → data_input given ≡ input_read (given >>= λ rdata. Ok (with_data head rdata.0, rdata.1))
rrsig_read head (Err fault) is = refl
rrsig_read head (Ok rdata) is = rw is refl

rrsig_type : (m : List ℕ) (p : ℕ) (head : RecordHead) (q : ℕ) → head_at m p ≡ Ok (head, q)
    → eqb head.rtype types.RRSIG ≡ true
    → data_input (rdata_at rdata_table m q head.data_length types.RRSIG) ≡ input_read (record_from m p)
rrsig_type m p head q read is =
    rrsig_read head (rdata_at rdata_table m q head.data_length types.RRSIG) is
    ∙ ap (λ (t : ℕ). input_read (placed true t >>= λ _. rdata_at rdata_table m q head.data_length t
    >>= λ rdata. Ok (with_data head rdata.0, rdata.1))) (sym (eqb-true head.rtype types.RRSIG is))
    ∙ ap input_read (sym (behind_head m p head q read))

-- the place behind the data of one type
abbrev pub end_of_data : List ℕ → ℕ → ℕ → Result ℕ DecodeError
end_of_data m q len =
    if ltb (length m) (q + len) then Err InsufficientBytes else if eqb len 0 then Err InsufficientBytes else Ok (q + len)

no_data_in : (m : List ℕ) (q len : ℕ) (fault : DecodeError) (empty past none : Bool)
    → is_empty_at m q len types.RRSIG ≡ empty → ltb (length m) (q + len) ≡ past → eqb len 0 ≡ none
    → end_of_data m q len ≡ Err fault
    → None ≡ data_input (rdata_at rdata_table m q len types.RRSIG)
unfolding rdata_at one_type_data_at
no_data_in m q len fault true past none is longer zero at = rw is refl
no_data_in m q len fault false true none is longer zero at = rw (is, longer) refl
no_data_in m q len fault false false true is longer zero at = rw (is, longer, zero) refl
no_data_in m q len fault false false false is longer zero at =
    let at : Ok (q + len) ≡ Err fault = rw (longer, zero) at at in absurd cc

-- no data, or fewer octets than they have
pub no_data : (m : List ℕ) (p : ℕ) (head : RecordHead) (q : ℕ) (fault : DecodeError) → head_at m p ≡ Ok (head, q)
    → eqb head.rtype types.RRSIG ≡ true
    → end_of_data m q head.data_length ≡ Err fault
    → None ≡ input_read (record_from m p)
no_data m p head q fault read is at =
    no_data_in m q head.data_length fault _ _ _ refl refl refl at ∙ rrsig_type m p head q read is

-- ---- the fields

-- values, and what is left up to the end of the data
abbrev with_rest : List ℕ → ℕ → List Value × ℕ → Result (List Value × ℕ) DecodeError
with_rest m e values = Ok (values.0 ++ Str (slice_range m values.1 e) ∷ [], e)

rest_behind : (m : List ℕ) (e : ℕ) (value : Value) (read : Result (List Value × ℕ) DecodeError)
    → ((read >>= with_rest m e) >>= λ values. Ok (value ∷ values.0, values.1))
    ≡ ((read >>= λ values. Ok (value ∷ values.0, values.1)) >>= with_rest m e)
rest_behind m e value (Ok values) = refl
rest_behind m e value (Err fault) = refl

rest_tested : (m : List ℕ) (e : ℕ) (value : Value) (test : Result (Unit {0}) DecodeError)
    (long read : Result (List Value × ℕ) DecodeError) → long ≡ (read >>= with_rest m e)
    → (test >>= λ _. long >>= λ values. Ok (value ∷ values.0, values.1))
    ≡ ((test >>= λ _. read >>= λ values. Ok (value ∷ values.0, values.1)) >>= with_rest m e)
rest_tested m e value (Ok u) long read same =
    ap (λ (l : Result (List Value × ℕ) DecodeError). l >>= λ values. Ok (value ∷ values.0, values.1)) same
    ∙ rest_behind m e value read
rest_tested m e value (Err fault) long read same = refl

rest_read : (m : List ℕ) (e : ℕ) (field : Field) (fields : List Field) (first : Result (Value × ℕ) DecodeError)
    → ((q : ℕ) → fields_at (fields ++ any Rest ∷ []) m q e ≡ (fields_at fields m q e >>= with_rest m e))
    → (first >>= λ value. no_fault (field.fault value.0) >>= λ _. fields_at (fields ++ any Rest ∷ []) m value.1 e
    >>= λ values. Ok (value.0 ∷ values.0, values.1))
    ≡ ((first >>= λ value. no_fault (field.fault value.0) >>= λ _. fields_at fields m value.1 e
    >>= λ values. Ok (value.0 ∷ values.0, values.1)) >>= with_rest m e)
rest_read m e field fields (Ok value) later =
    rest_tested m e value.0 (no_fault (field.fault value.0)) _ _ (later value.1)
rest_read m e field fields (Err fault) later = refl

rest_last : (fields : List Field) (m : List ℕ) (p e : ℕ)
    → fields_at (fields ++ any Rest ∷ []) m p e ≡ (fields_at fields m p e >>= with_rest m e)
rest_last [] m p e = refl
rest_last (field ∷ fields) m p e =
    rest_read m e field fields (value_at field.kind m p e) (λ q. rest_last fields m q e)

sig_fields : (m : List ℕ) (p e : ℕ) → fields_at sig_row m p e ≡ (fields_at input_row m p e >>= with_rest m e)
sig_fields m p e = rest_last input_row m p e

abbrev ended : ℕ → List Value → Result (List Value × ℕ) DecodeError
ended e values = Ok (values, e)

abbrev some_values : List Value × ℕ → Result (Option (List Value) × ℕ) DecodeError
some_values values = Ok (Some values.0, values.1)

-- data that are filled up to their end
abbrev filled_data : ℕ → ℕ → Result (List Value × ℕ) DecodeError → Result (Option (List Value) × ℕ) DecodeError
filled_data q e read = ((read >>= filled_by q e) >>= ended e) >>= some_values

data_read : (m : List ℕ) (q len e : ℕ) (past none : Bool) → ltb (length m) (q + len) ≡ past → eqb len 0 ≡ none
    → end_of_data m q len ≡ Ok e
    → rdata_at rdata_table m q len types.RRSIG ≡ filled_data q e (fields_at input_row m q e >>= with_rest m e)
unfolding rdata_at one_type_data_at fields_filling
data_read m q len e true none longer zero at = let at : Err InsufficientBytes ≡ Ok e = rw longer at at in absurd cc
data_read m q len e false true longer zero at =
    let at : Err InsufficientBytes ≡ Ok e = rw (longer, zero) at at in absurd cc
data_read m q len e false false longer zero at =
    let at : Ok (q + len) ≡ Ok e = rw (longer, zero) at at in
    let end : q + len ≡ e = cc in
    rw (zero, longer) (ap (filled_data q (q + len)) (sig_fields m q (q + len))
    ∙ ap (λ (k : ℕ). filled_data q k (fields_at input_row m q k >>= with_rest m k)) end)

pub fields_fault : (m : List ℕ) (p : ℕ) (head : RecordHead) (q e : ℕ) (fault : DecodeError)
    → head_at m p ≡ Ok (head, q) → eqb head.rtype types.RRSIG ≡ true → end_of_data m q head.data_length ≡ Ok e
    → fields_at input_row m q e ≡ Err fault
    → None ≡ input_read (record_from m p)
fields_fault m p head q e fault read is at fields =
    sym (ap data_input (data_read m q head.data_length e _ _ refl refl at
    ∙ ap (λ (r : Result (List Value × ℕ) DecodeError). filled_data q e (r >>= with_rest m e)) fields))
    ∙ rrsig_type m p head q read is

-- the fields by their values, where the algorithm is that of its number
by_values : (input : SigInput) (sig : List ℕ) → input.algorithm ≡ algorithm_numbered (number input.algorithm)
    → Some input ≡ input_from (rrsig_from_values (Some (input_values input ++ Str sig ∷ [])))
by_values input sig by_number = λ i.
    Some record {
      type_covered = input.type_covered;
      algorithm = by_number i;
      num_labels = input.num_labels;
      original_ttl = input.original_ttl;
      sig_expiration = input.sig_expiration;
      sig_inception = input.sig_inception;
      key_tag = input.key_tag;
      signer_name = input.signer_name;
    }

filled_to_end : (q e : ℕ) (values : List Value) → data_input (filled_data q e (Ok (values, e)))
    ≡ input_from (rrsig_from_values (Some values))
filled_to_end q e values = let same : eqb e e ≡ true = eq-eqb e e refl in rw same refl

pub fields_read : (m : List ℕ) (p : ℕ) (head : RecordHead) (q e r : ℕ) (input : SigInput)
    → head_at m p ≡ Ok (head, q) → eqb head.rtype types.RRSIG ≡ true → end_of_data m q head.data_length ≡ Ok e
    → fields_at input_row m q e ≡ Ok (input_values input, r)
    → input.algorithm ≡ algorithm_numbered (number input.algorithm)
    → Some input ≡ input_read (record_from m p)
fields_read m p head q e r input read is at fields by_number =
    by_values input (slice_range m r e) by_number
    ∙ sym (ap data_input (data_read m q head.data_length e _ _ refl refl at
    ∙ ap (λ (x : Result (List Value × ℕ) DecodeError). filled_data q e (x >>= with_rest m e)) fields)
    ∙ filled_to_end q e (input_values input ++ Str (slice_range m r e) ∷ []))
    ∙ rrsig_type m p head q read is

pub ruleset early_exits = (no_head, other_type)
