-- One step of reading a name from text.
use Rattle.std.proofs.Common.{◌≡◌, ◌≢◌, ℕ, zero, suc, ◌-◌, ◌<◌, ◌≤◌, List, [], ◌∷◌, ◌++◌, length}
use Rattle.std.proofs.Common.{refl, ap, sym, ◌∙◌, subst, arith, Result, Ok, Err, nat_eq, nat_lt, cond, Bool, true}
use Rattle.std.proofs.Common.{false}
use Rattle.std.proofs.Common.{get_or, take, drop, length-append}
use Rattle.std.proofs.lemmas.Bool.Decides.{nat_tests}
use Rattle.std.proofs.lemmas.Slice.{first_rest}
use Rattle.std.proofs.lemmas.List.{nil_from_length, take_rest}
use Rattle.dns_wire.specs.declared.error.NameError.{NameError}
use Rattle.dns_wire.specs.declared.error.NameError.TheVariants.{LabelTooLong}
use Rattle.dns_wire.specs.Reading.{◌>>=◌}
use Rattle.dns_names.specs.NameText.{dot, first_octet, add_octet, add_label, name_at_end, completed_name}

abbrev pub NameRead : Type 0
NameRead = Result (List (List ℕ)) NameError

pub choice_true : {X : Type 0} (c d : ℕ) (x y : X) → c ≡ d → cond (nat_eq c d) x y ≡ x
choice_true c d x y e = grind (arith, nat_tests)

pub choice_false : {X : Type 0} (c d : ℕ) (x y : X) → c ≢ d → cond (nat_eq c d) x y ≡ y
choice_false c d x y e = grind (arith, nat_tests)

-- the end of the text
pub completed-end : (n : List (List ℕ)) (label : List ℕ) → completed_name 0 n label [] ≡ name_at_end n label
unfolding completed_name
completed-end n label = refl

-- a dot ends a label
pub completed-dot : (n : List (List ℕ)) (label : List ℕ) (c : ℕ) (rest : List ℕ) → c ≡ dot
    → completed_name 0 n label (c ∷ rest) ≡ add_label n label >>= (λ longer. completed_name 0 longer [] rest)
unfolding completed_name
completed-dot n label c rest e = choice_true c dot _ _ e

-- skipped characters count for nothing
pub completed-skipped : (k : ℕ) (n : List (List ℕ)) (label rest : List ℕ)
    → completed_name k n label rest ≡ completed_name 0 n label (drop k rest)
unfolding completed_name
completed-skipped zero n label rest = refl
completed-skipped (suc k) n label [] = refl
completed-skipped (suc k) n label (c ∷ rest) = completed-skipped k n label rest

-- an octet
pub completed-octet : (n : List (List ℕ)) (label : List ℕ) (c : ℕ) (rest : List ℕ) → c ≢ dot
    → completed_name 0 n label (c ∷ rest)
    ≡ first_octet c rest >>= (λ x. add_octet label x.0 >>= (λ longer. completed_name x.1 n longer rest))
unfolding completed_name
completed-octet n label c rest e = choice_false c dot _ _ e

-- the labels n and the front of a label were read, and this text is left
pub record Spelling (text : List ℕ) (n : List (List ℕ)) (label rest : List ℕ) : Type 0 where
  pub few : length label ≤ 63
  pub completes : completed_name 0 n label rest ≡ completed_name 0 [] [] text

pub begins : (text : List ℕ) → Spelling text [] [] text
begins text = record { few = omega arith; completes = refl }

-- what an octet that was added says of its label
pub record AddedOctet (label : List ℕ) (octet : ℕ) (longer : List ℕ) : Type 0 where
  pub is : longer ≡ label ++ octet ∷ []
  pub few : length longer ≤ 63

pub added_octet : (label : List ℕ) (octet : ℕ) (longer : List ℕ) → add_octet label octet ≡ Ok longer
    → AddedOctet label octet longer
added_octet label octet longer h = at (nat_lt (length label) 63) refl h
  where
    at : (room : Bool) → nat_lt (length label) 63 ≡ room
        → cond {A = Result (List ℕ) NameError} room (Ok (label ++ octet ∷ [])) (Err LabelTooLong) ≡ Ok longer
        → AddedOctet label octet longer
    at true room e =
        let is : longer ≡ label ++ octet ∷ [] = cc in
        let short : length label < 63 = grind (arith, nat_tests) in
        record { is = is; few = omega (arith, ap length is, length-append label (octet ∷ [])) }
    at false room e = absurd (cc)

module _ {text : List ℕ} {n : List (List ℕ)} {label : List ℕ} {c : ℕ} {rest : List ℕ}
    (i : Spelling text n label (c ∷ rest)) where
  abbrev whole : NameRead
  whole = completed_name 0 [] [] text

  -- a label that is none
  pub dot_stops : (e : NameError) → c ≡ dot → add_label n label ≡ Err e → Err e ≡ whole
  dot_stops e is h = ap (λ o. o >>= (λ longer. completed_name 0 longer [] rest)) (sym h)
      ∙ sym (completed-dot n label c rest is) ∙ i.completes

  -- behind a label
  pub dot_on : (longer : List (List ℕ)) → c ≡ dot → add_label n label ≡ Ok longer → Spelling text longer [] rest
  dot_on longer is h = record {
    few = omega arith;
    completes = ap (λ o. o >>= (λ l. completed_name 0 l [] rest)) (sym h) ∙ sym (completed-dot n label c rest is)
        ∙ i.completes;
  }

  abbrev behind : ℕ × ℕ → NameRead
  behind x = add_octet label x.0 >>= (λ longer. completed_name x.1 n longer rest)

  -- a character that spells no octet
  pub octet_stops : (e : NameError) → c ≢ dot → first_octet c rest ≡ Err e → Err e ≡ whole
  octet_stops e is h = ap (λ o. o >>= behind) (sym h) ∙ sym (completed-octet n label c rest is) ∙ i.completes

  -- an octet that the label has no room for
  pub long_stops : (octet k : ℕ) (e : NameError) → c ≢ dot → first_octet c rest ≡ Ok (octet, k)
      → add_octet label octet ≡ Err e → Err e ≡ whole
  long_stops octet k e is h full =
      ap (λ o. o >>= (λ longer. completed_name k n longer rest)) (sym full) ∙ ap (λ o. o >>= behind) (sym h)
      ∙ sym (completed-octet n label c rest is) ∙ i.completes

  -- behind an octet
  pub octet_on :
      (octet k : ℕ) (longer : List ℕ) → c ≢ dot → first_octet c rest ≡ Ok (octet, k) → add_octet label octet ≡ Ok longer
      → Spelling text n longer (take (length rest - k) (drop k rest))
  octet_on octet k longer is h added = record {
    few = (added_octet label octet longer added).few;
    completes = ap (completed_name 0 n longer) (take_rest rest k)
        ∙ sym (completed-skipped k n longer rest)
        ∙ ap (λ o. o >>= (λ longer. completed_name k n longer rest)) (sym added)
        ∙ ap (λ o. o >>= behind) (sym h)
        ∙ sym (completed-octet n label c rest is)
        ∙ i.completes;
  }

-- a text that is not empty, as its first character and the others
pub split : {text : List ℕ} {n : List (List ℕ)} {label rest : List ℕ} → Spelling text n label rest → 1 ≤ length rest
    → Spelling text n label (get_or rest 0 0 ∷ take (length rest - 1) (drop 1 rest))
split {text} {n} {label} {rest} i h = subst (Spelling text n label) (first_rest rest 0 (omega arith)) i

-- a text that is empty
pub none_left : {text : List ℕ} {n : List (List ℕ)} {label rest : List ℕ} → Spelling text n label rest → length rest < 1
    → name_at_end n label ≡ completed_name 0 [] [] text
none_left {text} {n} {label} {rest} i h =
    let none : rest ≡ [] = nil_from_length rest (omega arith) in
    sym (completed-end n label) ∙ ap (completed_name 0 n label) (sym none) ∙ i.completes
