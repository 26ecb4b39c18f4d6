-- The signatures among the records that are read of a message.
use Rattle.std.specs.Prelude.{nat_eq, if◌then◌else◌, List, [], ◌∷◌, Option, Some, None}
use Rattle.dns_types.specs.TypeNumbers as types
use Rattle.dns_grammar.specs.Fields.{Value, Num, Str, Named}
use Rattle.dns_grammar.specs.Messages.{ResourceRecord}
use Rattle.sec_codes.specs.Algorithms.{algorithm_numbered}
use Rattle.sec_sigdata.specs.Signatures.{SigData}

-- the data of an RRSIG by the values of its fields (RFC 4034 3.1)
abbrev pub rrsig_from_values : Option (List Value) → Option SigData
rrsig_from_values (Some (Num type_covered ∷ Num algorithm ∷ Num num_labels ∷ Num original_ttl ∷ Num sig_expiration
    ∷ Num sig_inception ∷ Num key_tag ∷ Named signer_name ∷ Str sig ∷ [])) =
    Some record {
      input =
          record {
            type_covered = type_covered;
            algorithm = algorithm_numbered algorithm;
            num_labels = num_labels;
            original_ttl = original_ttl;
            sig_expiration = record { 0 = sig_expiration };
            sig_inception = record { 0 = sig_inception };
            key_tag = key_tag;
            signer_name = signer_name;
          };
      sig = sig;
    }
rrsig_from_values _ = None

-- the data of a record of type RRSIG, where they aren't empty
abbrev pub rrsig_in : ResourceRecord → Option SigData
rrsig_in rr = if nat_eq rr.rtype types.RRSIG then rrsig_from_values rr.rdata else None
