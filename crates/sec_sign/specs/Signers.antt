-- What contracts see of a signer.
use Rattle.std.specs.Prelude.{ℕ, List}
use Rattle.std.specs.declared.alloc.Global.{Global}
use Rattle.std.specs.declared.dyn_box.DynBox.{DynBox}
use Rattle.sec_keydata.specs.DnsKeys.{DnsKeyData, dnskey_data}
use Rattle.sec_sign.specs.declared.signer.DnssecSigner.{DnssecSigner}

-- the DNSKEY that its signatures are checked by, the name of the signer, and for how many seconds they are valid
pub record SignerData : Type 0 where
  pub dnskey : DnsKeyData
  pub signer_name : List (List ℕ)
  pub sig_duration : ℕ

module _ {X : Type 0} {B : X → Type 0} where
  abbrev pub signer_data : DnssecSigner X B → SignerData
  signer_data signer = record {
    dnskey = dnskey_data signer.dnskey;
    signer_name = signer.signer_name;
    sig_duration = signer.sig_duration;
  }

  -- the key that signs, in its box
  abbrev pub signing_key : DnssecSigner X B → DynBox X Global B
  signing_key signer = signer.key

  -- the same, lent out of the box
  abbrev pub lent_key : DnssecSigner X B → (x : X) × B x
  lent_key signer = (signer.key.vtable, signer.key.value)
