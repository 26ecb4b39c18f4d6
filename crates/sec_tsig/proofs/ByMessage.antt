-- The verdict on octets, by the message that stands in them.
use Rattle.std.proofs.Common.{◌≡◌, ℕ, ◌&&◌, not, Bool, true, false, nat_lt, List, length, Result}
use Rattle.std.proofs.Common.{Option, Some, None, Ok, Err, refl, sym, ap, ◌∙◌, arith, if◌then◌else◌}
use Rattle.std.specs.Str.{bytes_eq}
use Rattle.std.proofs.lemmas.Bool.{le-leb, lt-ltb, le-ltb, leb-true, ltb-true}
use Rattle.dns_wire.specs.declared.error.DecodeError.{DecodeError}
use Rattle.dns_wire.specs.Reading.{◌>>=◌}
use Rattle.dns_names.specs.NameLaws.{same_decides}
use Rattle.dns_names.specs.Names.{wire, Same}
use Rattle.dns_grammar.specs.Messages.{Header, Message, Signature, HasTsig, signature_of, message_at}
use Rattle.dns_grammar.proofs.MessageLaws.{message_stands, message_read}
use Rattle.dns_rdata.specs.RDataTable.{rdata_table}
use Rattle.sec_digest.specs.declared.hmac.HmacHash.{HmacHash}
use Rattle.sec_digest.specs.Hmac.{hmac, mac_len}
use Rattle.sec_sigdata.proofs.TsigNames.{one_wire}
use Rattle.std.proofs.lemmas.Slice.Eq.{bytes_eq-Decides}
use Rattle.sec_tsig.specs.declared.verify_error.VerifyError.{VerifyError}
use Rattle.sec_tsig.specs.declared.verify_error.VerifyError.TheVariants as causes
use Rattle.sec_tsig.specs.Verdict.{TsigChain, advanced, checked_mac, expected_mac, has_signers_key, is_in_time, is_response}
use Rattle.sec_tsig.specs.Verdict.{with_tsig, signature_verdict, with_signature}
use Rattle.sec_tsig.specs.Laws.{IsNoMessage, VerdictIsByMessage, NoMessageIsDecode, IsValidResponse, ValidIsAccepted}
use Rattle.sec_tsig.specs.Laws.{AcceptedIsValid}
use Rattle.sec_tsig.specs.Signers.{Signer, algorithm_name}

pub verdict_by_message : VerdictIsByMessage
verdict_by_message chain octets message e stands =
    ap (with_tsig (signature_verdict chain octets)) (message_read rdata_table octets message e stands)

-- no message stands, so that reading gives none
unread : (octets : List ℕ) → IsNoMessage octets → (x : Message × ℕ) → message_at rdata_table octets ≡ Ok x → ⊥
unread octets none x is = none x.0 x.1 (message_stands rdata_table octets x.0 x.1 is)

undecoded : {X : Type 0} (found : Header → Signature → Result X VerifyError) (read : Result (Message × ℕ) DecodeError)
    → ((x : Message × ℕ) → read ≡ Ok x → ⊥) → with_tsig found read ≡ Err causes.Decode
undecoded found (Ok x) none = absurd (none x refl)
undecoded found (Err e) none = refl

pub no_message_is_decode : NoMessageIsDecode
no_message_is_decode chain octets none =
    undecoded (signature_verdict chain octets) (message_at rdata_table octets) (unread octets none)

-- ---- valid responses

both : (a b : Bool) → a ≡ true → b ≡ true → a && b ≡ true
both a b p q = rw (p, q) refl

-- a MAC has the length of its hash function's output
abbrev pub HmacHasLength : Type 0
HmacHasLength = (hash : HmacHash) (key message : List ℕ) → length (hmac hash key message) ≡ mac_len hash

-- the MAC of a message under the signer's key that is right
pub mac_is_right : HmacHasLength → (signer : Signer) (previous : Option (List ℕ)) (first : Bool) (m : List ℕ)
    (header : Header) (s : Signature) → Same signer.name s.name → s.tsig.algorithm ≡ algorithm_name signer.algorithm
    → s.tsig.mac ≡ expected_mac signer previous first m header s
    → checked_mac signer previous first m header s ≡ Ok s.tsig.mac
mac_is_right length-hmac signer previous first m header s owner algorithm mac =
    let expected = expected_mac signer previous first m header s in
    let key : has_signers_key signer s ≡ true = both _ _ ((same_decides signer.name s.name).1 owner)
    ((bytes_eq-Decides (wire (algorithm_name signer.algorithm)) (wire s.tsig.algorithm)).1 (ap wire (sym algorithm))) in
    let len : length s.tsig.mac ≡ mac_len signer.algorithm = ap (λ (l : List ℕ). length l) mac
    ∙ length-hmac signer.algorithm signer.key _ in
    let long : nat_lt (length s.tsig.mac) (mac_len signer.algorithm) ≡ false = le-ltb _ _ (omega (arith, len)) in
    let right : bytes_eq s.tsig.mac expected ≡ true = (bytes_eq-Decides s.tsig.mac expected).1 mac in
    rw (key, long, right) refl

-- the verdict where no cause holds
passes : (chain : TsigChain) (m : List ℕ) (header : Header) (s : Signature)
    → checked_mac chain.signer (Some chain.mac) chain.first m header s ≡ Ok s.tsig.mac
    → is_in_time chain s ≡ true → is_response header ≡ true
    → signature_verdict chain m header s ≡ Ok (advanced chain s.tsig.mac s.tsig.time)
unfolding signature_verdict
passes chain m header s mac time response = rw (mac, time, response) refl

pub valid_is_accepted : HmacHasLength → ValidIsAccepted
valid_is_accepted length-hmac chain m s v =
    let header = v.message.header in
    let mac = mac_is_right length-hmac chain.signer (Some chain.mac) chain.first m header s v.owner v.algorithm v.mac in
    let time : is_in_time chain s ≡ true = both _ _ (both _ _ (le-leb _ _ v.in_order) (le-leb _ _ v.from_start))
    (lt-ltb _ _ v.before_end) in
    verdict_by_message chain m v.message v.end v.has.stands
    ∙ ap (with_signature (signature_verdict chain m) header) v.has.is_last
    ∙ passes chain m header s mac time (le-leb _ _ v.response)

-- ---- accepted octets

-- the verdict as tests
abbrev sieve : Bool → Bool → Bool → Bool → Bool → List ℕ → (List ℕ → TsigChain) → Result TsigChain VerifyError
sieve key short right time response mac behind =
    (if not key then Err causes.TsigWrongKey
    else if short then Err causes.TruncatedMac
    else if not right then Err causes.HmacInvalid
    else Ok mac) >>= λ mac.
    if not time then Err causes.Outdated
    else if not response then Err causes.NotAResponse
    else Ok (behind mac)

record Sieved (a b d t q : Bool) (x : List ℕ) (f : List ℕ → TsigChain) (z : TsigChain) : Type 0 where
  pub key : a ≡ true
  pub right : d ≡ true
  pub time : t ≡ true
  pub response : q ≡ true
  pub is_behind : z ≡ f x

sieved : (key short right time response : Bool) (mac : List ℕ) (behind : List ℕ → TsigChain) (next : TsigChain)
    → sieve key short right time response mac behind ≡ Ok next → Sieved key short right time response mac behind next
sieved true false true true true mac behind next e = record {
  key = refl;
  right = refl;
  time = refl;
  response = refl;
  is_behind = cc;
}
sieved false short right time response mac behind next e = absurd cc
sieved true true right time response mac behind next e = absurd cc
sieved true false false time response mac behind next e = absurd cc
sieved true false true false response mac behind next e = absurd cc
sieved true false true true false mac behind next e = absurd cc

-- the verdict on a message with this TSIG, where it is a chain
verdict_sieved : (chain next : TsigChain) (m : List ℕ) (header : Header) (s : Signature)
    → signature_verdict chain m header s ≡ Ok next
    → Sieved (has_signers_key chain.signer s) (nat_lt (length s.tsig.mac) (mac_len chain.signer.algorithm))
    (bytes_eq s.tsig.mac (expected_mac chain.signer (Some chain.mac) chain.first m header s))
    (is_in_time chain s) (is_response header) s.tsig.mac (λ mac. advanced chain mac s.tsig.time) next
unfolding signature_verdict
verdict_sieved chain next m header s e =
    sieved (has_signers_key chain.signer s) (nat_lt (length s.tsig.mac) (mac_len chain.signer.algorithm))
    (bytes_eq s.tsig.mac (expected_mac chain.signer (Some chain.mac) chain.first m header s))
    (is_in_time chain s) (is_response header) s.tsig.mac (λ mac. advanced chain mac s.tsig.time) next e

pub left_true : (a b : Bool) → a && b ≡ true → a ≡ true
left_true true b e = refl
left_true false b e = e

pub right_true : (a b : Bool) → a && b ≡ true → b ≡ true
right_true true b e = e
right_true false b e = absurd cc

valid_of : (chain next : TsigChain) (m : List ℕ) (message : Message) (e : ℕ) (s : Signature)
    → HasTsig rdata_table m message s e → signature_verdict chain m message.header s ≡ Ok next
    → IsValidResponse chain m s × (next ≡ advanced chain s.tsig.mac s.tsig.time)
valid_of chain next m message e s has is =
    let v = verdict_sieved chain next m message.header s is in
    let expected = expected_mac chain.signer (Some chain.mac) chain.first m message.header s in
    let early = left_true _ _ v.time in (
      record {
        message = message;
        end = e;
        has = has;
        owner = (same_decides chain.signer.name s.name).0 (left_true _ _ v.key);
        algorithm = one_wire s.tsig.algorithm (algorithm_name chain.signer.algorithm)
            (sym ((bytes_eq-Decides (wire (algorithm_name chain.signer.algorithm)) (wire s.tsig.algorithm)).0
            (right_true _ _ v.key)));
        mac = (bytes_eq-Decides s.tsig.mac expected).0 v.right;
        in_order = leb-true _ _ (left_true _ _ early);
        from_start = leb-true _ _ (right_true _ _ early);
        before_end = ltb-true _ _ (right_true _ _ v.time);
        response = leb-true _ _ v.response;
      },
      v.is_behind,
    )

pub accepted_is_valid : AcceptedIsValid
accepted_is_valid chain next m is = go (message_at rdata_table m) refl is
  where
    with_last : (x : Message × ℕ) → message_at rdata_table m ≡ Ok x → (last : Option Signature)
        → signature_of x.0 ≡ last
        → with_signature (signature_verdict chain m) x.0.header last ≡ Ok next
        → (s : Signature) × IsValidResponse chain m s × (next ≡ advanced chain s.tsig.mac s.tsig.time)
    with_last x read None last is = absurd cc
    with_last x read (Some s) last is =
        let v = valid_of chain next m x.0 x.1 s
        (record { stands = message_stands rdata_table m x.0 x.1 read; is_last = last }) is in
        (s, v.0, v.1)

    go : (read : Result (Message × ℕ) DecodeError) → message_at rdata_table m ≡ read
        → with_tsig (signature_verdict chain m) read ≡ Ok next
        → (s : Signature) × IsValidResponse chain m s × (next ≡ advanced chain s.tsig.mac s.tsig.time)
    go (Err fault) read is = absurd cc
    go (Ok x) read is = with_last x read (signature_of x.0) refl is
