-- The records of a set, put one behind the other.
use Rattle.std.proofs.Common.{◌≡◌, ℕ, ◌+◌, ◌*◌, ◌≤◌, ◌<◌, Bool, true, false, ltb, cond, List, [], ◌∷◌, ◌++◌, length}
use Rattle.std.proofs.Common.{map, take, get_or, Result, Ok, Err, refl, sym, ap, ◌∙◌, subst, arith, length-append}
use Rattle.std.specs.Result.{result_unwrap_or}
use Rattle.std.proofs.lemmas.Bool.{ltb-false}
use Rattle.std.proofs.lemmas.List.{take_more, take_all, map_push, flat_map_more}
use Rattle.std.proofs.lemmas.List.Concat.{flat_map-cons}
use Rattle.dns_wire.specs.declared.error.DecodeError.{DecodeError}
use Rattle.dns_wire.specs.declared.error.EmitError.{EmitError}
use Rattle.dns_wire.specs.declared.error.EmitError.TheVariants.{DataTooLong}
use Rattle.dns_wire.specs.Sinks.{Takes}
use Rattle.dns_wire.proofs.PutLaws.{takes_both}
use Rattle.dns_names.specs.Names.{wire}
use Rattle.dns_names.specs.NameLaws.{length-wire-low}
use Rattle.dns_grammar.specs.Messages.{ResourceRecord}
use Rattle.dns_grammar.specs.Fields.{row_of}
use Rattle.dns_grammar.specs.RecordData.{fitting, rdata_octets}
use Rattle.dns_rdata.specs.RDataTable.{rdata_table}
use Rattle.message_walk.specs.Places.{data_of, if_short, record_from}
use Rattle.sec_sigdata.specs.declared.sig_input.SigInput.{SigInput}
use Rattle.sec_sign.specs.Signed.{header_octets, record_octets, records_octets, signed_head, signed_octets}
use Rattle.rrsig_input.specs.SignedSets.{data_from}
use Rattle.rrsig_input.proofs.Headers.{header_length, record_length}

module _ (head : ResourceRecord) (d : ℕ → List ℕ) (xs : List ℕ) where
  -- the records at the first n places
  abbrev pub first_records : ℕ → List ℕ
  first_records n = records_octets head (map d (take n xs))

  one_more : (i : ℕ) → i < length xs → first_records (i + 1) ≡ first_records i ++ record_octets head (d (get_or xs i 0))
  one_more i lt =
      ap (λ (l : List ℕ). records_octets head (map d l)) (take_more xs i 0 lt)
      ∙ ap (records_octets head) (map_push d (take i xs) (get_or xs i 0))
      ∙ sym (flat_map_more (record_octets head) [] (map d (take i xs)) (d (get_or xs i 0)))

  pub all_of_them : first_records (length xs) ≡ records_octets head (map d xs)
  all_of_them = ap (λ (l : List ℕ). records_octets head (map d l)) (take_all (length xs) xs (omega arith))

  -- one more is put
  pub one_put : {Sink Purpose : Type 0} (has_taken : Sink → Purpose → List ℕ → Type 0) (i x : ℕ) (c : List ℕ)
      (old now new : Sink) → i < length xs → x ≡ get_or xs i 0 → c ≡ d x
      → Takes has_taken old now (first_records i) → Takes has_taken now new (record_octets head c)
      → Takes has_taken old new (first_records (i + 1))
  one_put has_taken i x c old now new lt is made before put =
      let same : first_records i ++ record_octets head c ≡ first_records (i + 1) =
      ap (λ (l : List ℕ). first_records i ++ record_octets head l) (made ∙ ap d is) ∙ sym (one_more i lt) in
      subst (λ (l : List ℕ). Takes has_taken old new l) same
      (takes_both has_taken old now new (first_records i) (record_octets head c) before put)

pub ruleset records_steps = (one_put, all_of_them)

-- ---- how many octets they are

-- data that fit a record
sized : (b : Bool) (octets : List ℕ) → ltb 65535 (length octets) ≡ b
    → length (result_unwrap_or (if_short (cond b (Err DataTooLong) (Ok octets))) []) ≤ 65535
sized true octets is = omega arith
sized false octets is = ltb-false _ _ is

fit : (written : Result (List ℕ) EmitError) → length (result_unwrap_or (if_short (fitting written)) []) ≤ 65535
fit (Ok octets) = sized (ltb 65535 (length octets)) octets refl
fit (Err cause) = omega arith

read_fits : (read : Result (ResourceRecord × ℕ) DecodeError) → length (result_unwrap_or (data_of read) []) ≤ 65535
read_fits (Ok read) = fit (rdata_octets true (row_of rdata_table read.0.rtype) read.0.rdata)
read_fits (Err cause) = omega arith

data_fits : (m : List ℕ) (p : ℕ) → length (data_from m p) ≤ 65535
data_fits m p = read_fits (record_from m p)

records_bound : (head : ResourceRecord) (m places : List ℕ) → length (wire head.name) ≤ 255
    → length (records_octets head (map (data_from m) places)) ≤ length places * 65800
records_bound head m [] le = omega arith
records_bound head m (p ∷ places) le =
    let first = record_octets head (data_from m p) in
    let others = records_octets head (map (data_from m) places) in
    let whole : length (records_octets head (map (data_from m) (p ∷ places))) ≡ length first + length others =
    ap length (flat_map-cons (record_octets head) (data_from m p) (map (data_from m) places))
    ∙ length-append first others in
    omega (
      arith,
      whole,
      record_length head (data_from m p),
      data_fits m p,
      records_bound head m places le,
    )

-- a set of a message has fewer octets than a usize counts
pub set_is_countable : (owner : List (List ℕ)) (input : SigInput) (k : ℕ) (m places : List ℕ)
    → length (wire owner) ≤ 255 → length (wire input.signer_name) ≤ 255 → length places ≤ 65536
    → length (signed_octets owner input k (map (data_from m) places)) < 18446744073709551616
unfolding signed_octets
set_is_countable owner input k m places owned signed few =
    let head = signed_head owner k input in
    let short : length (wire head.name) ≤ 255 = omega (arith, length-wire-low owner) in
    omega (
      arith,
      header_length input,
      length-append (header_octets input) (records_octets head (map (data_from m) places)),
      records_bound head m places short,
    )
