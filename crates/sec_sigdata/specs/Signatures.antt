-- The data of SIG records (RFC 2535 4.1, RFC 2931 3) and of RRSIG records (RFC 4034 3).
use Rattle.std.specs.Prelude.{◌≡◌, ℕ, ◌<◌, ◌^◌, List, [], ◌∷◌, ◌++◌, take, codes}
use Rattle.std.specs.Fmt.{decimal}
use Rattle.base64.specs.Engines.{standard}
use Rattle.base64.specs.GeneralPurpose.{encode_of}
use Rattle.dns_names.specs.Names.{IsName}
use Rattle.dns_names.specs.NameText.{name_text}
use Rattle.dns_types.specs.Codes.{type_text}
use Rattle.sec_sigdata.specs.SignatureRows.{sig_row}
use Rattle.dns_grammar.specs.Fields.{Field, Value, Num, Str, Named}
use Rattle.sec_codes.specs.Algorithms.{number, text, algorithm_numbered}
use Rattle.sec_sigdata.specs.declared.sig_input.SigInput.{SigInput}
use Rattle.sec_sigdata.specs.declared.sig.SIG.{SIG}
use Rattle.sec_sigdata.specs.declared.rrsig.RRSIG.{RRSIG}

-- ---- what stands before the signature

-- the fields before the signature
abbrev pub input_row : List Field
input_row = take 8 sig_row

-- their values: type covered, algorithm, labels, original TTL, expiration, inception, key tag, signer's name
abbrev pub input_values : SigInput → List Value
input_values input =
    Num input.type_covered
    ∷ Num (number input.algorithm)
    ∷ Num input.num_labels
    ∷ Num input.original_ttl
    ∷ Num input.sig_expiration.0
    ∷ Num input.sig_inception.0
    ∷ Num input.key_tag
    ∷ Named input.signer_name
    ∷ []

-- ---- SIG and RRSIG

-- what a contract sees of a SIG or of an RRSIG: the fields before the signature, and the signature
pub record SigData : Type 0 where
  pub input : SigInput
  pub sig : List ℕ

abbrev pub sig_data : SIG → SigData
sig_data sig = record { input = sig.input; sig = sig.sig }

abbrev pub rrsig_data : RRSIG → SigData
rrsig_data rrsig = sig_data rrsig.0

-- the fields of the data
abbrev pub sig_values : SigData → List Value
sig_values sig = input_values sig.input ++ Str sig.sig ∷ []

-- The algorithm is that of its number: none with a name of its own is called unknown.
abbrev pub SigIsByNumber : SigData → Type 0
SigIsByNumber sig = sig.input.algorithm ≡ algorithm_numbered (number sig.input.algorithm)

-- ---- the text (RFC 4034 3.2)

-- type covered, name of the algorithm, labels
unfoldable pub kind_text : SigInput → List ℕ
kind_text input =
    type_text input.type_covered ++ codes " " ++ text input.algorithm ++ codes " " ++ decimal input.num_labels

-- original TTL, expiration, inception, key tag, the times as numbers
unfoldable pub times_text : SigInput → List ℕ
times_text input =
    decimal input.original_ttl ++ codes " " ++ decimal input.sig_expiration.0 ++ codes " "
    ++ decimal input.sig_inception.0 ++ codes " " ++ decimal input.key_tag

-- these, the signer's name, and the signature in base64
abbrev pub sig_text : SigData → List ℕ
sig_text sig =
    kind_text sig.input ++ codes " " ++ times_text sig.input ++ codes " " ++ name_text sig.input.signer_name
    ++ codes " " ++ encode_of standard sig.sig

-- ---- laws

-- each number has the octets that its field has, and the signer is a name
pub record InputFits (input : SigInput) : Type 0 where
  pub type_covered : input.type_covered < 2 ^ 16
  pub algorithm : number input.algorithm < 2 ^ 8
  pub num_labels : input.num_labels < 2 ^ 8
  pub original_ttl : input.original_ttl < 2 ^ 32
  pub sig_expiration : input.sig_expiration.0 < 2 ^ 32
  pub sig_inception : input.sig_inception.0 < 2 ^ 32
  pub key_tag : input.key_tag < 2 ^ 16
  pub signer_name : IsName input.signer_name
