-- Data of equal fields are equal.
use Rattle.std.proofs.Common.{◌≡◌, Bool, true, false, List, [], ◌++◌, refl, ap, sym, ◌∙◌, arith}
use Rattle.dns_grammar.specs.Fields.{Value}
use Rattle.dns_grammar.proofs.EqualValues.{same_number, same_octets, same_name}
use Rattle.sec_codes.specs.Algorithms.{algorithm_numbered}
use Rattle.sec_digest.specs.declared.nsec3_hash.Nsec3HashAlgorithm.{Nsec3HashAlgorithm}
use Rattle.sec_digest.specs.declared.nsec3_hash.Nsec3HashAlgorithm.TheVariants.{SHA1}
use Rattle.sec_sigdata.specs.Signatures.{SigData, SigIsByNumber, sig_values}
use Rattle.sec_sigdata.specs.HashParameters.{HashData, opt_out_flags, hash_values}
use Rattle.sec_sigdata.specs.Nsec.{NsecData, nsec_values}
use Rattle.sec_sigdata.specs.Nsec3.{Nsec3Data, nsec3_values}
use Rattle.sec_sigdata.proofs.TsigData.{tsig_equal}

pub sig_equal : (x y : SigData) → SigIsByNumber x → SigIsByNumber y → sig_values x ≡ sig_values y → x ≡ y
sig_equal x y a b same =
    let rtype : x.input.type_covered ≡ y.input.type_covered = same_number same 0 in
    let algorithm : x.input.algorithm ≡ y.input.algorithm = a ∙ (ap algorithm_numbered (same_number same 1) ∙ sym b) in
    let labels : x.input.num_labels ≡ y.input.num_labels = same_number same 2 in
    let ttl : x.input.original_ttl ≡ y.input.original_ttl = same_number same 3 in
    let expiration : x.input.sig_expiration.0 ≡ y.input.sig_expiration.0 = same_number same 4 in
    let inception : x.input.sig_inception.0 ≡ y.input.sig_inception.0 = same_number same 5 in
    let tag : x.input.key_tag ≡ y.input.key_tag = same_number same 6 in
    let signer : x.input.signer_name ≡ y.input.signer_name = same_name same 7 in
    let sig : x.sig ≡ y.sig = same_octets same 8 in
    λ i. record {
      input = record {
        type_covered = rtype i;
        algorithm = algorithm i;
        num_labels = labels i;
        original_ttl = ttl i;
        sig_expiration = record { 0 = expiration i };
        sig_inception = record { 0 = inception i };
        key_tag = tag i;
        signer_name = signer i;
      };
      sig = sig i;
    }

same_algorithm : (x y : Nsec3HashAlgorithm) → x ≡ y
same_algorithm SHA1 SHA1 = refl

same_opt_out : (x y : Bool) → opt_out_flags x ≡ opt_out_flags y → x ≡ y
same_opt_out true true e = refl
same_opt_out false false e = refl
same_opt_out true false e = absurd (omega (arith, e))
same_opt_out false true e = absurd (omega (arith, e))

-- the same parameters, from the first four fields
same_hash : (x y : HashData) {xs ys : List Value} → hash_values x ++ xs ≡ hash_values y ++ ys → x ≡ y
same_hash x y same =
    let algorithm = same_algorithm x.hash_algorithm y.hash_algorithm in
    let opt_out = same_opt_out x.opt_out y.opt_out (same_number same 1) in
    let iterations : x.iterations ≡ y.iterations = same_number same 2 in
    let salt : x.salt ≡ y.salt = same_octets same 3 in
    λ i. record { hash_algorithm = algorithm i; opt_out = opt_out i; iterations = iterations i; salt = salt i }

pub hash_equal : (x y : HashData) → hash_values x ≡ hash_values y → x ≡ y
hash_equal x y same = same_hash x y {xs = []} {ys = []} same

pub nsec_equal : (x y : NsecData) → nsec_values x ≡ nsec_values y → x ≡ y
nsec_equal x y same =
    let next : x.next_domain_name ≡ y.next_domain_name = same_name same 0 in
    let types : x.types ≡ y.types = same_octets same 1 in
    λ i. record { next_domain_name = next i; types = types i }

pub nsec3_equal : (x y : Nsec3Data) → nsec3_values x ≡ nsec3_values y → x ≡ y
nsec3_equal x y same =
    let hash : x.hash ≡ y.hash = same_hash x.hash y.hash same in
    let next : x.next_hashed_owner_name ≡ y.next_hashed_owner_name = same_octets same 4 in
    let types : x.types ≡ y.types = same_octets same 5 in
    λ i. record { hash = hash i; next_hashed_owner_name = next i; types = types i }

pub ruleset equal_fields = (sig_equal, hash_equal, nsec_equal, nsec3_equal, tsig_equal)
