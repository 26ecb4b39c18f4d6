-- The data of DS and CDS records (RFC 4034 5.1, 5.3; RFC 7344 3.1; RFC 8078 4).
use Rattle.std.specs.Prelude.{◌≡◌, ℕ, List, [], ◌∷◌, ◌++◌, codes, Option}
use Rattle.std.specs.Fmt.{decimal}
use Rattle.sec_keydata.specs.OptionalAlgorithms.{optional_algorithm_number, optional_algorithm}
use Rattle.dns_text.specs.HexText.{upper_hex}
use Rattle.dns_grammar.specs.Fields.{Value, Num, Str}
use Rattle.sec_codes.specs.declared.algorithm.Algorithm.{Algorithm}
use Rattle.sec_codes.specs.Algorithms.{number, algorithm_numbered}
use Rattle.sec_digest.specs.declared.digest_type.DigestType.{DigestType}
use Rattle.sec_digest.specs.Digests.{digest_number, digest_type}
use Rattle.sec_keydata.specs.declared.digest_fields.DigestFields.{DigestFields}
use Rattle.sec_keydata.specs.declared.ds.DS.{DS}
use Rattle.sec_keydata.specs.declared.cds.CDS.{CDS}

-- ---- fields

-- the fields of the data: key tag, algorithm, digest type, digest
abbrev pub digest_values : ℕ → ℕ → ℕ → List ℕ → List Value
digest_values tag algorithm kind digest = Num tag ∷ Num algorithm ∷ Num kind ∷ Str digest ∷ []

-- the numbers in decimal digits, and the digest in upper-case hexadecimal
abbrev pub digest_text : ℕ → ℕ → ℕ → List ℕ → List ℕ
digest_text tag algorithm kind digest =
    decimal tag ++ codes " " ++ decimal algorithm ++ codes " " ++ decimal kind ++ codes " " ++ upper_hex digest

abbrev pub fields_values : DigestFields → List Value
fields_values fields = digest_values fields.key_tag fields.algorithm fields.digest_type fields.digest.now

abbrev pub fields_text : DigestFields → List ℕ
fields_text fields = digest_text fields.key_tag fields.algorithm fields.digest_type fields.digest.now

-- ---- DS

-- what a DS record says of a key
pub record DsData : Type 0 where
  pub key_tag : ℕ
  pub algorithm : Algorithm
  pub digest_type : DigestType
  pub digest : List ℕ

abbrev pub ds_data : DS → DsData
ds_data ds = record {
  key_tag = ds.key_tag;
  algorithm = ds.algorithm;
  digest_type = ds.digest_type;
  digest = ds.digest;
}

-- the fields of the data
abbrev pub ds_values : DsData → List Value
ds_values ds = digest_values ds.key_tag (number ds.algorithm) (digest_number ds.digest_type) ds.digest

-- the text of the data
abbrev pub ds_text : DsData → List ℕ
ds_text ds = digest_text ds.key_tag (number ds.algorithm) (digest_number ds.digest_type) ds.digest

-- The algorithm and the digest type are those of their numbers: none with a name of its own is called unknown.
pub record DsIsByNumber (ds : DsData) : Type 0 where
  pub algorithm : ds.algorithm ≡ algorithm_numbered (number ds.algorithm)
  pub digest_type : ds.digest_type ≡ digest_type (digest_number ds.digest_type)

-- ---- CDS

-- what a CDS record says of a key, or without an algorithm that the DS records are to be deleted (RFC 8078 4)
pub record CdsData : Type 0 where
  pub key_tag : ℕ
  pub algorithm : Option Algorithm
  pub digest_type : DigestType
  pub digest : List ℕ

abbrev pub cds_data : CDS → CdsData
cds_data cds = record {
  key_tag = cds.key_tag;
  algorithm = cds.algorithm;
  digest_type = cds.digest_type;
  digest = cds.digest;
}

-- the fields of the data
abbrev pub cds_values : CdsData → List Value
cds_values cds =
    digest_values cds.key_tag (optional_algorithm_number cds.algorithm) (digest_number cds.digest_type) cds.digest

-- the text of the data
abbrev pub cds_text : CdsData → List ℕ
cds_text cds =
    digest_text cds.key_tag (optional_algorithm_number cds.algorithm) (digest_number cds.digest_type) cds.digest

-- the algorithm and the digest type are those of their numbers
pub record CdsIsByNumber (cds : CdsData) : Type 0 where
  pub algorithm : cds.algorithm ≡ optional_algorithm (optional_algorithm_number cds.algorithm)
  pub digest_type : cds.digest_type ≡ digest_type (digest_number cds.digest_type)
