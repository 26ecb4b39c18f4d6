-- Where the proofs of records in one word are Bogus.
use Rattle.std.proofs.Common.{◌≡◌, ℕ, zero, suc, ◌<◌, Bool, true, false, cond, ◌||◌, not, eqb, List, [], ◌∷◌, map}
use Rattle.std.proofs.Common.{length, get_or, refl, sym, ap, ◌∙◌, arith}
use Rattle.std.specs.List.{filter, list_any, Contains}
use Rattle.std.proofs.lemmas.Bool.{eqb-false, ne_eqb}
use Rattle.dns_types.specs.TypeNumbers as types
use Rattle.dns_rdata.specs.declared.rdata.RData.{RData}
use Rattle.dns_rdata.specs.RData.{rdata_type}
use Rattle.sec_codes.specs.declared.proof.Proof.{Proof}
use Rattle.sec_codes.specs.declared.proof.Proof.TheVariants as proof
use Rattle.dns_message.specs.declared.dnssec.DnssecSummary.{DnssecSummary}
use Rattle.dns_message.specs.declared.dnssec.DnssecSummary.TheVariants.{Secure, Bogus, Insecure}
use Rattle.dns_message.specs.declared.record.Record.{Record}
use Rattle.dns_message.specs.Laws.{IsBogusRecord, BogusWhereOneIs}
use Rattle.dns_message.specs.Summary.{is_bogus, shown_proofs}

abbrev is_rrsig : Record RData → Bool
is_rrsig rr = eqb (rdata_type rr.rdata) types.RRSIG

abbrev some_bogus : List (Record RData) → Bool
some_bogus records = list_any is_bogus (shown_proofs records)

-- ---- the word

by_any : (any rest : Bool) → cond any Bogus (cond rest Secure Insecure) ≡ Bogus → any ≡ true
by_any true rest e = refl
by_any false true e = absurd cc
by_any false false e = absurd cc

-- ---- the records

bogus_proof : (p : Proof) → is_bogus p ≡ true → p ≡ proof.Bogus
bogus_proof proof.Bogus e = refl
bogus_proof proof.Indeterminate e = absurd cc
bogus_proof proof.Insecure e = absurd cc
bogus_proof proof.Secure e = absurd cc

first_shown : (rr : Record RData) (rrs : List (Record RData)) (b : Bool) → is_rrsig rr ≡ b
    → some_bogus (rr ∷ rrs) ≡ cond b (some_bogus rrs) (is_bogus rr.proof || some_bogus rrs)
first_shown rr rrs true is =
    ap (λ b. list_any is_bogus (map (λ x. x.proof)
    (cond (not b) (rr ∷ filter (λ x. not (is_rrsig x)) rrs) (filter (λ x. not (is_rrsig x)) rrs)))) is
first_shown rr rrs false is =
    ap (λ b. list_any is_bogus (map (λ x. x.proof)
    (cond (not b) (rr ∷ filter (λ x. not (is_rrsig x)) rrs) (filter (λ x. not (is_rrsig x)) rrs)))) is

abbrev Found : List (Record RData) → Type 0
Found records = (rr : Record RData) × Contains records rr × IsBogusRecord rr

found_behind : (rr : Record RData) (rrs : List (Record RData)) → Found rrs → Found (rr ∷ rrs)
found_behind rr rrs h =
    let at : Contains rrs h.0 = h.1 in
    let lt : at.0 < length rrs = at.1 in
    (h.0, (suc at.0, omega (arith, lt), at.2), h.2)

found_first : (rr : Record RData) (rrs : List (Record RData)) (b : Bool) → is_rrsig rr ≡ false → is_bogus rr.proof ≡ b
    → some_bogus (rr ∷ rrs) ≡ true → (some_bogus rrs ≡ true → Found rrs) → Found (rr ∷ rrs)
found_first rr rrs true other is e rest =
    (rr, (0, omega arith, refl), record { other = eqb-false _ _ other; proof = bogus_proof rr.proof is })
found_first rr rrs false other is e rest =
    found_behind rr rrs (rest (sym (first_shown rr rrs false other ∙ ap (λ b. b || some_bogus rrs) is) ∙ e))

found_step : (rr : Record RData) (rrs : List (Record RData)) (b : Bool) → is_rrsig rr ≡ b
    → some_bogus (rr ∷ rrs) ≡ true → (some_bogus rrs ≡ true → Found rrs) → Found (rr ∷ rrs)
found_step rr rrs true is e rest = found_behind rr rrs (rest (sym (first_shown rr rrs true is) ∙ e))
found_step rr rrs false is e rest = found_first rr rrs (is_bogus rr.proof) is refl e rest

bogus_found : (records : List (Record RData)) → some_bogus records ≡ true → Found records
bogus_found [] e = absurd cc
bogus_found (rr ∷ rrs) e = found_step rr rrs (is_rrsig rr) refl e (bogus_found rrs)

-- one that is found is some
or_true : (b : Bool) → b || true ≡ true
or_true true = refl
or_true false = refl

behind_some : (rr : Record RData) (rrs : List (Record RData)) → some_bogus rrs ≡ true → some_bogus (rr ∷ rrs) ≡ true
behind_some rr rrs e = go (is_rrsig rr) refl
  where
    go : (b : Bool) → is_rrsig rr ≡ b → some_bogus (rr ∷ rrs) ≡ true
    go true is = first_shown rr rrs true is ∙ e
    go false is = first_shown rr rrs false is ∙ ap (λ b. is_bogus rr.proof || b) e ∙ or_true (is_bogus rr.proof)

found_some : (records : List (Record RData)) (rr : Record RData) (k : ℕ) → k < length records
    → get_or records k rr ≡ rr → IsBogusRecord rr → some_bogus records ≡ true
found_some [] rr k lt at is = absurd (omega (arith, lt))
found_some (x ∷ xs) rr zero lt at is =
    first_shown x xs false (ap is_rrsig at ∙ ne_eqb _ _ is.other)
    ∙ ap (λ (y : Record RData). is_bogus y.proof || some_bogus xs) at
    ∙ ap (λ p. is_bogus p || some_bogus xs) is.proof
found_some (x ∷ xs) rr (suc k) lt at is = behind_some x xs (found_some xs rr k (omega (arith, lt)) at is)

found_at : (records : List (Record RData)) → Found records → some_bogus records ≡ true
found_at records found =
    let at : Contains records found.0 = found.1 in
    found_some records found.0 at.0 at.1 at.2 found.2

in_a_word : (any : Bool) (rest : DnssecSummary) → any ≡ true → cond any Bogus rest ≡ Bogus
in_a_word any rest e = ap (λ b. cond b Bogus rest) e

pub bogus_law : BogusWhereOneIs
bogus_law records = (
  λ is. bogus_found records (by_any (some_bogus records) _ is),
  λ found. in_a_word (some_bogus records) _ (found_at records found),
)
