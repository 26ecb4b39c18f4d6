-- What is written of data is read back.
use Rattle.std.proofs.Common.{◌≡◌, ℕ, ◌^◌, ◌<◌, ltb, Bool, true, false, None, List, [], ◌∷◌, ◌++◌, length}
use Rattle.std.proofs.Common.{append-nil, length-append, Ok, refl, ap, sym, ◌∙◌, arith}
use Rattle.std.proofs.lemmas.Bool.{lt-ltb}
use Rattle.std.specs.Int.{w8, w16, to_be_bytes}
use Rattle.std.specs.Prelude.{IsTrue}
use Rattle.dns_names.specs.Names.{wire, IsName}
use Rattle.dns_names.specs.NameLaws.{length_lt-wire}
use Rattle.dns_types.specs.TypeSets.{is_bitmap}
use Rattle.sec_digest.specs.declared.nsec3_hash.Nsec3HashAlgorithm.{Nsec3HashAlgorithm}
use Rattle.sec_digest.specs.declared.nsec3_hash.Nsec3HashAlgorithm.TheVariants.{SHA1}
use Rattle.dns_wire.specs.Joining.{joined}
use Rattle.dns_grammar.specs.Fields.{Field, Value, Num, Str, One, Rest, any, value_octets, fields_octets}
use Rattle.sec_sigdata.specs.SignatureRows.{bitmap_fault, hash_algorithm_fault, nsec3_flags_fault, sig_row, nsec_row}
use Rattle.sec_sigdata.specs.SignatureRows.{nsec3_row, nsec3param_row}
use Rattle.dns_grammar.specs.Laws.{HoldsAll, AreReadBack}
use Rattle.dns_wire.proofs.PutLaws.{joined_nil, joined_more}
use Rattle.dns_grammar.proofs.ReadAgain.{written_row}
use Rattle.dns_grammar.proofs.ReadBack.{with_count}
use Rattle.sec_sigdata.specs.Signatures.{SigData, input_row, input_values, sig_values, InputFits}
use Rattle.sec_sigdata.specs.HashParameters.{HashData, hash_number, opt_out_flags, hash_values}
use Rattle.sec_sigdata.specs.Nsec.{NsecData, nsec_values}
use Rattle.sec_sigdata.specs.Nsec3.{Nsec3Data, nsec3_values}

pub signatures_back : (sig : SigData) → InputFits sig.input → AreReadBack sig_row (sig_values sig)
signatures_back sig fits =
    let holds : HoldsAll sig_row (sig_values sig) = (
      fits.type_covered,
      refl,
      (
        fits.algorithm,
        refl,
        (
          fits.num_labels,
          refl,
          (
            fits.original_ttl,
            refl,
            (
              fits.sig_expiration,
              refl,
              (
                fits.sig_inception,
                refl,
                (fits.key_tag, refl, (fits.signer_name, refl, (tt, refl, tt))),
              ),
            ),
          ),
        ),
      ),
    ) in
    (_, refl, λ front back. written_row sig_row refl (sig_values sig) _ front back holds (omega arith) refl)

-- what is written of hash parameters
hash_octets : HashData → List ℕ
hash_octets hash = to_be_bytes w8 (hash_number hash.hash_algorithm)
    ++ (to_be_bytes w8 (opt_out_flags hash.opt_out)
    ++ (to_be_bytes w16 hash.iterations ++ (with_count One hash.salt ++ [])))

number_fits : (algorithm : Nsec3HashAlgorithm) → hash_number algorithm < 2 ^ 8
number_fits SHA1 = omega arith

number_known : (algorithm : Nsec3HashAlgorithm) → hash_algorithm_fault (Num (hash_number algorithm)) ≡ None
number_known SHA1 = refl

flags_fit : (opt_out : Bool) → opt_out_flags opt_out < 2 ^ 8
flags_fit true = omega arith
flags_fit false = omega arith

flags_known : (opt_out : Bool) → nsec3_flags_fault (Num (opt_out_flags opt_out)) ≡ None
flags_known true = refl
flags_known false = refl

pub parameters_back : (hash : HashData) → hash.iterations < 2 ^ 16 → length hash.salt < 2 ^ 8
    → AreReadBack nsec3param_row (hash_values hash)
unfolding hash_octets
parameters_back hash small short =
    let test : ltb (length hash.salt) (2 ^ 8) ≡ true = lt-ltb _ _ short in
    let written : fields_octets false nsec3param_row (hash_values hash) ≡ Ok (hash_octets hash) = rw test refl in
    let holds : HoldsAll nsec3param_row (hash_values hash) = (
      number_fits hash.hash_algorithm,
      number_known hash.hash_algorithm,
      (flags_fit hash.opt_out, flags_known hash.opt_out, (small, refl, (tt, refl, tt))),
    ) in (
      hash_octets hash,
      written,
      λ front back. written_row nsec3param_row refl (hash_values hash)
          (hash_octets hash) front back holds (omega arith) written,
    )

-- ---- NSEC and NSEC3

bitmap_known : (x : List ℕ) → IsTrue (is_bitmap x) → bitmap_fault (Str x) ≡ None
bitmap_known x is = rw is refl

pub nsec_back : (nsec : NsecData) → IsName nsec.next_domain_name → IsTrue (is_bitmap nsec.types)
    → AreReadBack nsec_row (nsec_values nsec)
nsec_back nsec name bitmap =
    let long = length_lt-wire nsec.next_domain_name in (
      _,
      refl,
      λ front back. written_row nsec_row refl (nsec_values nsec) _ front back
          (name, refl, (tt, bitmap_known nsec.types bitmap, tt))
          (omega (arith, long, length-append (wire nsec.next_domain_name) (nsec.types ++ []))) refl,
    )

-- what is written of an NSEC3
nsec3_octets : Nsec3Data → List ℕ
nsec3_octets nsec3 =
    to_be_bytes w8 (hash_number nsec3.hash.hash_algorithm)
    ++ (to_be_bytes w8 (opt_out_flags nsec3.hash.opt_out)
    ++ (to_be_bytes w16 nsec3.hash.iterations ++ (with_count One nsec3.hash.salt
    ++ (with_count One nsec3.next_hashed_owner_name ++ (nsec3.types ++ [])))))

pub nsec3_back : (nsec3 : Nsec3Data) → nsec3.hash.iterations < 2 ^ 16 → length nsec3.hash.salt < 2 ^ 8
    → length nsec3.next_hashed_owner_name < 2 ^ 8 → IsTrue (is_bitmap nsec3.types)
    → AreReadBack nsec3_row (nsec3_values nsec3)
unfolding nsec3_octets
nsec3_back nsec3 small short few bitmap =
    let salt : ltb (length nsec3.hash.salt) (2 ^ 8) ≡ true = lt-ltb _ _ short in
    let hash : ltb (length nsec3.next_hashed_owner_name) (2 ^ 8) ≡ true = lt-ltb _ _ few in
    let written : fields_octets false nsec3_row (nsec3_values nsec3) ≡ Ok (nsec3_octets nsec3) = rw (salt, hash) refl in
    let types = bitmap_known nsec3.types bitmap in
    let holds : HoldsAll nsec3_row (nsec3_values nsec3) = (
      number_fits nsec3.hash.hash_algorithm,
      number_known nsec3.hash.hash_algorithm,
      (
        flags_fit nsec3.hash.opt_out,
        flags_known nsec3.hash.opt_out,
        (small, refl, (tt, refl, (tt, refl, (tt, types, tt)))),
      ),
    ) in (
      nsec3_octets nsec3,
      written,
      λ front back. written_row nsec3_row refl (nsec3_values nsec3)
          (nsec3_octets nsec3) front back holds (omega arith) written,
    )

-- ---- the signature behind its input

-- fields, and those behind them
fields_behind : (canonical : Bool) (fields others : List Field) (values rest : List Value)
    → length fields ≡ length values
    → fields_octets canonical (fields ++ others) (values ++ rest)
    ≡ joined (fields_octets canonical fields values) (fields_octets canonical others rest)
fields_behind canonical [] others [] rest same = sym (joined_nil (fields_octets canonical others rest))
fields_behind canonical (f ∷ fs) others (v ∷ vs) rest same =
    ap (joined (value_octets canonical f.kind v)) (fields_behind canonical fs others vs rest (omega (arith, same)))
    ∙ joined_more (value_octets canonical f.kind v) (fields_octets canonical fs vs)
    (fields_octets canonical others rest)
fields_behind canonical [] others (v ∷ vs) rest same = absurd (omega (arith, same))
fields_behind canonical (f ∷ fs) others [] rest same = absurd (omega (arith, same))

pub signature_behind : (canonical : Bool) (sig : SigData)
    → fields_octets canonical sig_row (sig_values sig)
    ≡ joined (fields_octets canonical input_row (input_values sig.input)) (Ok sig.sig)
signature_behind canonical sig =
    fields_behind canonical input_row (any Rest ∷ []) (input_values sig.input) (Str sig.sig ∷ []) refl
    ∙ ap (λ (octets : List ℕ). joined (fields_octets canonical input_row (input_values sig.input)) (Ok octets))
    (append-nil sig.sig)
