-- The header of a message, and the counts in it.
use Rattle.std.proofs.Common.{◌≡◌, ◌⊎◌, inl, inr, ℕ, ◌+◌, ◌-◌, ◌^◌, min, Bool, true, false, cond, ltb, List, [], ◌∷◌}
use Rattle.std.proofs.Common.{◌++◌, length, map, Option, Some, None, option_map, Result, Ok, Err, refl, sym, ap, ◌∙◌}
use Rattle.std.proofs.Common.{arith, length-append}
use Rattle.std.specs.Prelude.{is_some}
use Rattle.std.proofs.lemmas.Bool.{ltb-false}
use Rattle.std.proofs.lemmas.List.{length-map}
use Rattle.dns_wire.specs.declared.error.EmitError.{EmitError}
use Rattle.dns_wire.specs.declared.error.EmitError.TheVariants.{CountTooLarge}
use Rattle.dns_wire.specs.Octets.{two_octets}
use Rattle.dns_wire.specs.Joining.{joined}
use Rattle.dns_grammar.specs.MessageWriting.{count_octets, header_octets}
use Rattle.dns_rdata.specs.declared.rdata.RData.{RData}
use Rattle.sec_sigdata.specs.declared.tsig.TSIG.{TSIG}
use Rattle.dns_message.specs.declared.record.Record.{Record}
use Rattle.dns_message.specs.Parts.{Parts, record_view, tsig_record_view, and_last, whole}

-- ---- counts

abbrev counted : ℕ → Result ℕ EmitError
counted k = cond (ltb 65535 k) (Err CountTooLarge) (Ok k)

is_counted : (b : Bool) (k n : ℕ) → cond b (Err CountTooLarge) (let ok : Result ℕ EmitError = Ok k in ok) ≡ Ok n
    → (b ≡ false) × (k ≡ n)
is_counted true k n e = absurd cc
is_counted false k n e = (refl, cc)

pub count_is : {A : Type 0} (xs : List A) (k n : ℕ) → k ≡ length xs → counted k ≡ Ok n
    → count_octets xs ≡ Ok (two_octets n)
count_is xs k n same is =
    let c = is_counted (ltb 65535 k) k n is in
    let short : ltb 65535 (length xs) ≡ false = ap (ltb 65535) (sym same) ∙ c.0 in
    rw short (ap (λ (j : ℕ). let ok : Result (List ℕ) EmitError = Ok (two_octets j) in ok) (sym same ∙ c.1))

-- the additionals, and a signature
last_count : (adds : List (Record RData)) (signature : Option (Record TSIG)) (s : ℕ)
    → (is_some signature ≡ true) × (s ≡ 1) ⊎ (is_some signature ≡ false) × (s ≡ 0)
    → length (and_last (map record_view adds) (option_map tsig_record_view signature)) ≡ length adds + s
last_count adds None s (inl h) = absurd (cc h.0)
last_count adds None s (inr h) = omega (arith, length-map adds record_view, h.1)
last_count adds (Some rr) s (inl h) =
    omega (arith, length-append (map record_view adds) (tsig_record_view rr ∷ []), length-map adds record_view, h.1)
last_count adds (Some rr) s (inr h) = absurd (cc h.0)

pub last_count_is : (adds : List (Record RData)) (signature : Option (Record TSIG)) (s k n : ℕ)
    → (is_some signature ≡ true) × (s ≡ 1) ⊎ (is_some signature ≡ false) × (s ≡ 0)
    → k ≡ min (length adds + s) (2 ^ 64 - 1) → counted k ≡ Ok n
    → count_octets (and_last (map record_view adds) (option_map tsig_record_view signature)) ≡ Ok (two_octets n)
last_count_is adds signature s k n has sum is =
    let c = is_counted (ltb 65535 k) k n is in
    count_is _ k n (omega (arith, sum, ltb-false _ _ c.0, last_count adds signature s has)) is

pub header_is : (parts : Parts) (q a n d : ℕ)
    → count_octets parts.queries ≡ Ok (two_octets q)
    → count_octets parts.answers ≡ Ok (two_octets a)
    → count_octets parts.authorities ≡ Ok (two_octets n)
    → count_octets (and_last parts.additionals parts.signature) ≡ Ok (two_octets d)
    → header_octets (whole parts)
    ≡ Ok ((two_octets parts.id ++ two_octets parts.flags)
    ++ (two_octets q ++ (two_octets a ++ (two_octets n ++ two_octets d))))
header_is parts q a n d hq ha hn hd = λ i.
    joined (Ok (two_octets parts.id ++ two_octets parts.flags))
    (joined (hq i) (joined (ha i) (joined (hn i) (hd i))))
