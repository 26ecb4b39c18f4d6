-- Proofs of records in one word, record by record.
use Rattle.std.proofs.Common.{◌≡◌, ℕ, ◌+◌, ◌<◌, ◌≤◌, Bool, true, false, cond, ◌&&◌, ◌||◌, not, eqb, List, [], ◌∷◌, map}
use Rattle.std.proofs.Common.{length, get_or, drop, refl, sym, ap, ◌∙◌, add-one, drop-cons}
use Rattle.std.specs.List.{filter, list_any, list_all}
use Rattle.std.proofs.lemmas.List.{drop_all}
use Rattle.dns_types.specs.TypeNumbers as types
use Rattle.dns_rdata.specs.declared.rdata.RData.{RData}
use Rattle.dns_rdata.specs.RData.{rdata_type}
use Rattle.sec_codes.specs.declared.proof.Proof.{Proof}
use Rattle.dns_message.specs.declared.dnssec.DnssecSummary.{DnssecSummary}
use Rattle.dns_message.specs.declared.dnssec.DnssecSummary.TheVariants.{Secure, Bogus, Insecure}
use Rattle.dns_message.specs.declared.record.Record.{Record}
use Rattle.dns_message.specs.Summary.{is_bogus, is_secure, shown_proofs, has_one}

-- the word for these proofs behind others, none of them Bogus, of which this is known
abbrev pub judged : Bool → Bool → List Proof → DnssecSummary
judged some secure proofs =
    cond (list_any is_bogus proofs) Bogus
    (cond ((some || has_one proofs) && (secure && list_all is_secure proofs)) Secure Insecure)

abbrev is_rrsig : Record RData → Bool
is_rrsig rr = eqb (rdata_type rr.rdata) types.RRSIG

abbrev of_rest : List (Record RData) → ℕ → List Proof
of_rest records i = shown_proofs (drop i records)

split : (records : List (Record RData)) (i : ℕ) (rr : Record RData) → i < length records → rr ≡ get_or records i rr
    → drop i records ≡ rr ∷ drop (i + 1) records
split records i rr lt is =
    (rw (add-one, drop-cons records i rr) refl) ∙ ap (λ x. x ∷ drop (i + 1) records) (sym is)

-- an RRSIG is none of them
shown_none : (records : List (Record RData)) (i : ℕ) (rr : Record RData) → i < length records
    → rr ≡ get_or records i rr → is_rrsig rr ≡ true → of_rest records i ≡ of_rest records (i + 1)
shown_none records i rr lt is none =
    ap shown_proofs (split records i rr lt is)
    ∙ ap (λ b. map (λ x. x.proof) (cond (not b) (rr ∷ others) others)) none
  where
    others : List (Record RData)
    others = filter (λ x. not (is_rrsig x)) (drop (i + 1) records)

shown_one : (records : List (Record RData)) (i : ℕ) (rr : Record RData) → i < length records
    → rr ≡ get_or records i rr → is_rrsig rr ≡ false → of_rest records i ≡ rr.proof ∷ of_rest records (i + 1)
shown_one records i rr lt is one =
    ap shown_proofs (split records i rr lt is)
    ∙ ap (λ b. map (λ x. x.proof) (cond (not b) (rr ∷ others) others)) one
  where
    others : List (Record RData)
    others = filter (λ x. not (is_rrsig x)) (drop (i + 1) records)

pub step_rrsig : (some secure : Bool) (records : List (Record RData)) (i : ℕ) (rr : Record RData)
    → i < length records → rr ≡ get_or records i rr → is_rrsig rr ≡ true
    → judged some secure (of_rest records i) ≡ judged some secure (of_rest records (i + 1))
step_rrsig some secure records i rr lt is none = ap (judged some secure) (shown_none records i rr lt is none)

pub step_bogus : (some secure : Bool) (records : List (Record RData)) (i : ℕ) (rr : Record RData)
    → i < length records → rr ≡ get_or records i rr → is_rrsig rr ≡ false → is_bogus rr.proof ≡ true
    → judged some secure (of_rest records i) ≡ Bogus
step_bogus some secure records i rr lt is one bogus =
    ap (judged some secure) (shown_one records i rr lt is one) ∙ found bogus
  where
    rest : List Proof
    rest = of_rest records (i + 1)

    found : is_bogus rr.proof ≡ true → judged some secure (rr.proof ∷ rest) ≡ Bogus
    found e = ap (λ b. cond (b || list_any is_bogus rest) Bogus
        (cond ((some || true) && (secure && (is_secure rr.proof && list_all is_secure rest))) Secure Insecure)) e

-- one more that isn't Bogus
behind_one : (some secure first : Bool) (rest : List Proof)
    → cond (list_any is_bogus rest) Bogus
    (cond ((some || true) && (secure && (first && list_all is_secure rest))) Secure Insecure)
    ≡ judged true (secure && first) rest
behind_one true true first rest = refl
behind_one true false first rest = refl
behind_one false true first rest = refl
behind_one false false first rest = refl

pub step_other : (some secure : Bool) (records : List (Record RData)) (i : ℕ) (rr : Record RData)
    → i < length records → rr ≡ get_or records i rr → is_rrsig rr ≡ false → is_bogus rr.proof ≡ false
    → judged some secure (of_rest records i) ≡ judged true (secure && is_secure rr.proof) (of_rest records (i + 1))
step_other some secure records i rr lt is one other =
    ap (judged some secure) (shown_one records i rr lt is one) ∙ passed other
    ∙ behind_one some secure (is_secure rr.proof) rest
  where
    rest : List Proof
    rest = of_rest records (i + 1)

    passed : is_bogus rr.proof ≡ false → judged some secure (rr.proof ∷ rest)
        ≡ cond (list_any is_bogus rest) Bogus
        (cond ((some || true) && (secure && (is_secure rr.proof && list_all is_secure rest))) Secure Insecure)
    passed e = ap (λ b. cond (b || list_any is_bogus rest) Bogus
        (cond ((some || true) && (secure && (is_secure rr.proof && list_all is_secure rest))) Secure Insecure)) e

at_end : (some secure : Bool) → judged some secure [] ≡ cond (some && secure) Secure Insecure
at_end true true = refl
at_end true false = refl
at_end false secure = refl

pub step_end : (some secure : Bool) (records : List (Record RData)) (i : ℕ) → length records ≤ i
    → judged some secure (of_rest records i) ≡ cond (some && secure) Secure Insecure
step_end some secure records i le = ap (λ l. judged some secure (shown_proofs l)) (drop_all i records le)
    ∙ at_end some secure

pub ruleset steps = (step_rrsig, step_bogus, step_other, step_end)
