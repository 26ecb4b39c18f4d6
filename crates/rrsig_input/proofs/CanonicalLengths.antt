-- Why a record that was read has no canonical data: only that they are too many.
use Rattle.std.proofs.Common.{◌≡◌, ℕ, Bool, true, false, cond, ltb, List, [], ◌∷◌, ◌++◌, Option, Some, None, Result, Ok, Err}
use Rattle.std.proofs.Common.{refl, ap, subst, ◌∙◌}
use Rattle.std.specs.List.{AllByRecursion}
use Rattle.dns_wire.specs.declared.error.EmitError.{EmitError}
use Rattle.dns_wire.specs.declared.error.EmitError.TheVariants.{DataTooLong}
use Rattle.dns_wire.specs.Joining.{joined}
use Rattle.dns_wire.specs.Octets.{AreOctets}
use Rattle.dns_wire.proofs.FieldLaws.{bind_ok, is_ok_same}
use Rattle.dns_grammar.specs.Fields.{Field, Kind, LoweredName, Named, Value, fields_octets, row_of, value_octets}
use Rattle.dns_grammar.specs.Messages.{Message, ResourceRecord, head_at, message_at, placed, record_at}
use Rattle.dns_grammar.specs.RecordData.{canon, fitting, plain, rdata_at, rdata_octets}
use Rattle.dns_grammar.proofs.ReadAgain.{read_data_again}
use Rattle.dns_rdata.specs.RDataTable.{rdata_table}
use Rattle.dns_rdata.proofs.TableLaws.{rest_last}
use Rattle.dns_message.specs.declared.section.Section.{Section}
use Rattle.message_walk.specs.Places.{record_from, section_records}
use Rattle.sec_sign.specs.Ascending.{ascending}
use Rattle.sec_sign.specs.Sets.{SetName, for_each, members, set_octets, set_of, same_set}
use Rattle.rrsig_input.proofs.MessageSteps.{IsRead, are_read, section_read}

-- ---- what is written as it is, is written in canonical form

one_value : (kind : Kind) (value : Value) (x : List ℕ) → value_octets false kind value ≡ Ok x
    → (y : List ℕ) × (value_octets true kind value ≡ Ok y)
one_value LoweredName (Named n) x h = (_, refl)
one_value kind value x h = (x, h)

abbrev AlsoCanonical : List Field → List Value → Type 0
AlsoCanonical fields values = (x : List ℕ) → fields_octets false fields values ≡ Ok x
    → (y : List ℕ) × (fields_octets true fields values ≡ Ok y)

one_more : (field : Field) (fields : List Field) (value : Value) (values : List Value) → AlsoCanonical fields values
    → AlsoCanonical (field ∷ fields) (value ∷ values)
one_more field fields value values later x h =
    at (value_octets false field.kind value) refl (fields_octets false fields values) refl h
  where
    at : (first : Result (List ℕ) EmitError) → value_octets false field.kind value ≡ first
        → (rest : Result (List ℕ) EmitError) → fields_octets false fields values ≡ rest → joined first rest ≡ Ok x
        → (y : List ℕ) × (fields_octets true (field ∷ fields) (value ∷ values) ≡ Ok y)
    at (Ok p) e (Ok q) f h =
        let one = one_value field.kind value p e in
        let others = later q f in
        (one.0 ++ others.0, rw (one.1, others.1) refl)
    at (Ok p) e (Err cause) f h = absurd cc
    at (Err cause) e rest f h = absurd cc

also_canonical : (fields : List Field) (values : List Value) → AlsoCanonical fields values
also_canonical [] [] x h = ([], refl)
also_canonical [] (value ∷ values) x h = absurd cc
also_canonical (field ∷ fields) [] x h = absurd cc
also_canonical (field ∷ fields) (value ∷ values) x h =
    one_more field fields value values (also_canonical fields values) x h

data_canonical : (rtype : ℕ) (rdata : Option (List Value)) (x : List ℕ) → plain rdata_table rtype rdata ≡ Ok x
    → (y : List ℕ) × (rdata_octets true (row_of rdata_table rtype) rdata ≡ Ok y)
data_canonical rtype None x h = ([], refl)
data_canonical rtype (Some values) x h = also_canonical (row_of rdata_table rtype) values x h

-- ---- one record

only_too_long : (written : Result (List ℕ) EmitError) (y : List ℕ) (cause : EmitError) → written ≡ Ok y
    → fitting written ≡ Err cause → cause ≡ DataTooLong
only_too_long (Err other) y cause is h = absurd cc
only_too_long (Ok octets) y cause is h = at (ltb 65535 _) h
  where
    at : (b : Bool) → cond b (Err DataTooLong) (Ok octets) ≡ Err cause → cause ≡ DataTooLong
    at true h = cc
    at false h = absurd cc

abbrev FailsByLength : ResourceRecord → Type 0
FailsByLength rr = (cause : EmitError) → canon rdata_table rr.rtype rr.rdata ≡ Err cause → cause ≡ DataTooLong

read_fails : (m : List ℕ) (p : ℕ) (read : ResourceRecord × ℕ) → AreOctets m → record_from m p ≡ Ok read
    → FailsByLength read.0
unfolding record_at
read_fails m p read octets h =
    let head = bind_ok (head_at m p) _ read h in
    let test = bind_ok (placed true head.0.0.rtype) _ read head.2 in
    let given = bind_ok (rdata_at rdata_table m head.0.1 head.0.0.data_length head.0.0.rtype) _ read test.2 in
    let again = read_data_again rdata_table m head.0.1 head.0.0.data_length head.0.0.rtype given.0.0 given.0.1
    (rest_last head.0.0.rtype) octets given.1 in
    let made = data_canonical head.0.0.rtype given.0.0 again.0 again.1 in
    subst (λ (x : ResourceRecord × ℕ). FailsByLength x.0) (is_ok_same _ read given.2)
    (λ cause fails. only_too_long _ made.0 cause made.1 fails)

-- ---- a set

each_fails : (m : List ℕ) (set : SetName) (rrs : List ResourceRecord) (cause : EmitError) → AreOctets m
    → AllByRecursion (IsRead m) rrs
    → for_each (λ rr. canon rdata_table rr.rtype rr.rdata) (members set_of set rrs) ≡ Err cause → cause ≡ DataTooLong
each_fails m set [] cause octets read h = absurd cc
each_fails m set (rr ∷ rrs) cause octets read h =
    at (same_set (set_of rr) set) refl (canon rdata_table rr.rtype rr.rdata) refl
    (for_each (λ rr. canon rdata_table rr.rtype rr.rdata) (members set_of set rrs)) refl
    (each_fails m set rrs cause octets read.1) h
  where
    others : Result (List (List ℕ)) EmitError
    others = for_each (λ rr. canon rdata_table rr.rtype rr.rdata) (members set_of set rrs)

    first_fails : canon rdata_table rr.rtype rr.rdata ≡ Err cause → cause ≡ DataTooLong
    first_fails = read_fails m rr.start (rr, read.0.end) octets read.0.is cause

    at : (b : Bool) → same_set (set_of rr) set ≡ b
        → (first : Result (List ℕ) EmitError) → canon rdata_table rr.rtype rr.rdata ≡ first
        → (rest : Result (List (List ℕ)) EmitError)
        → for_each (λ rr. canon rdata_table rr.rtype rr.rdata) (members set_of set rrs) ≡ rest
        → (for_each (λ rr. canon rdata_table rr.rtype rr.rdata) (members set_of set rrs) ≡ Err cause
        → cause ≡ DataTooLong)
        → for_each (λ rr. canon rdata_table rr.rtype rr.rdata) (members set_of set (rr ∷ rrs)) ≡ Err cause
        → cause ≡ DataTooLong
    at false b first e rest f later h = later (rw b at h)
    at true b (Err other) e rest f later h =
        let h : Err other ≡ Err cause = rw (b, e) at h in
        let same : other ≡ cause = cc in
        first_fails (e ∙ ap (λ (c : EmitError). let no : Result (List ℕ) EmitError = Err c in no) same)
    at true b (Ok c) e (Err other) f later h =
        let h : Err other ≡ Err cause = rw (b, e, f) at h in
        let same : other ≡ cause = cc in
        later (f ∙ ap (λ (c : EmitError). let no : Result (List (List ℕ)) EmitError = Err c in no) same)
    at true b (Ok c) e (Ok cs) f later h =
        let h : Ok (c ∷ cs) ≡ Err cause = rw (b, e, f) at h in
        absurd cc

pub set_fails_by_length : (m : List ℕ) (message : Message) (end : ℕ) (section : Section) (set : SetName) (cause : EmitError)
    → AreOctets m → message_at rdata_table m ≡ Ok (message, end)
    → set_octets set (section_records section message) ≡ Err cause → cause ≡ DataTooLong
set_fails_by_length m message end section set cause octets is h =
    at (for_each (λ rr. canon rdata_table rr.rtype rr.rdata) (members set_of set (section_records section message))) refl h
  where
    at : (each : Result (List (List ℕ)) EmitError)
        → for_each (λ rr. canon rdata_table rr.rtype rr.rdata) (members set_of set (section_records section message))
        ≡ each
        → set_octets set (section_records section message) ≡ Err cause → cause ≡ DataTooLong
    at (Err other) e h =
        let h : Err other ≡ Err cause = rw e at h in
        let same : other ≡ cause = cc in
        each_fails m set (section_records section message) cause octets
        (section_read m section message (are_read m message end is))
        (e ∙ ap (λ (c : EmitError). let no : Result (List (List ℕ)) EmitError = Err c in no) same)
    at (Ok cs) e h = let h : Ok (ascending cs) ≡ Err cause = rw e at h in absurd cc
