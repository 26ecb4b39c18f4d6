-- What single calls give.
use Rattle.std.proofs.Common.{◌≡◌, Bool, true, false, ℕ, List, [], if◌then◌else◌, Result, Ok, Err, sym, ap, ◌∙◌}
use Rattle.std.proofs.lemmas.Slice.Eq.{bytes_eq-Decides}
use Rattle.std.specs.Prelude.{IsTrue}
use Rattle.std.specs.Result.{result_unwrap_or}
use Rattle.sec_digest.specs.declared.hmac.HmacHash.TheVariants.{Sha256}
use Rattle.sec_digest.specs.Hmac.{hmac}
use Rattle.sec_sign.specs.KeyedHashes.{is_hash}
use Rattle.sec_anchor.specs.Entries.{EntryData, entries_of}
use Rattle.sec_anchor.specs.declared.parse_error.ParseError.{ParseError}
use Rattle.sec_tsig.specs.declared.sign_error.TsigSignError.{TsigSignError}
use Rattle.sec_tsig.specs.Tsig.{TsigRecord}
use Rattle.dns_demo.specs.Demo.{anchor_text, demo_entries}

-- what there is
pub only : (fits : Bool) (x y : TsigRecord) (cause : TsigSignError)
    → (if fits then Ok x else Err cause) ≡ Ok y → y ≡ x
only true x y cause is = cc
only false x y cause is = cc

-- there is one, where it fits
pub only_answers : (fits : Bool) (x : TsigRecord) (other cause : TsigSignError) → fits ≡ true
    → (if fits then Ok x else Err other) ≡ Err cause → ⊥
only_answers true x other cause fits is = absurd cc
only_answers false x other cause fits is = absurd cc

-- the entries of the anchor
pub entries_read : (text : List ℕ) (found : List EntryData) → text ≡ anchor_text → entries_of text ≡ Ok found
    → found ≡ demo_entries
unfolding demo_entries
entries_read text found same is =
    sym (ap (λ (r : Result (List EntryData) ParseError). result_unwrap_or r [])
    (ap (λ (t : List ℕ). entries_of t) (sym same) ∙ is))

-- a signature that the scheme of keyed hashes accepts
pub hash_is : (key message signature : List ℕ) → IsTrue (is_hash key message signature)
    → signature ≡ hmac Sha256 key message
hash_is key message signature is = (bytes_eq-Decides signature (hmac Sha256 key message)).0 is
