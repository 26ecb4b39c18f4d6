-- The strongest of some verdicts.
use Rattle.std.proofs.Common.{◌≡◌, refl, sym, ap, ◌∙◌, Bool, true, false, ◌||◌, List, [], ◌∷◌, ◌++◌, map}
use Rattle.std.specs.List.{filter, list_any}
use Rattle.sec_sign.specs.declared.pair.PairVerdict.{PairVerdict}
use Rattle.sec_sign.specs.declared.pair.PairVerdict.TheVariants.{NotMet, NotAccepted, Authentic}
use Rattle.sec_check.specs.Marks.{is_authentic, has_met, stronger, strongest}

-- ---- the stronger of two

pub is_authentic-stronger : (v w : PairVerdict) → is_authentic (stronger v w) ≡ (is_authentic v || is_authentic w)
is_authentic-stronger Authentic w = refl
is_authentic-stronger NotAccepted Authentic = refl
is_authentic-stronger NotAccepted NotAccepted = refl
is_authentic-stronger NotAccepted NotMet = refl
is_authentic-stronger NotMet w = refl

pub has_met-stronger : (v w : PairVerdict) → has_met (stronger v w) ≡ (has_met v || has_met w)
has_met-stronger Authentic w = refl
has_met-stronger NotAccepted Authentic = refl
has_met-stronger NotAccepted NotAccepted = refl
has_met-stronger NotAccepted NotMet = refl
has_met-stronger NotMet w = refl

pub stronger_assoc : (u v w : PairVerdict) → stronger (stronger u v) w ≡ stronger u (stronger v w)
stronger_assoc Authentic v w = refl
stronger_assoc NotMet v w = refl
stronger_assoc NotAccepted Authentic w = refl
stronger_assoc NotAccepted NotMet w = refl
stronger_assoc NotAccepted NotAccepted Authentic = refl
stronger_assoc NotAccepted NotAccepted NotAccepted = refl
stronger_assoc NotAccepted NotAccepted NotMet = refl

pub stronger-not_met : (v : PairVerdict) → stronger v NotMet ≡ v
stronger-not_met Authentic = refl
stronger-not_met NotAccepted = refl
stronger-not_met NotMet = refl

-- ---- the strongest of a list

pub is_authentic-strongest : (vs : List PairVerdict) → is_authentic (strongest vs) ≡ list_any is_authentic vs
is_authentic-strongest [] = refl
is_authentic-strongest (v ∷ vs) =
    is_authentic-stronger v (strongest vs) ∙ ap (λ (b : Bool). is_authentic v || b) (is_authentic-strongest vs)

pub has_met-strongest : (vs : List PairVerdict) → has_met (strongest vs) ≡ list_any has_met vs
has_met-strongest [] = refl
has_met-strongest (v ∷ vs) =
    has_met-stronger v (strongest vs) ∙ ap (λ (b : Bool). has_met v || b) (has_met-strongest vs)

pub strongest-append : (vs ws : List PairVerdict) → strongest (vs ++ ws) ≡ stronger (strongest vs) (strongest ws)
strongest-append [] ws = refl
strongest-append (v ∷ vs) ws =
    ap (stronger v) (strongest-append vs ws) ∙ sym (stronger_assoc v (strongest vs) (strongest ws))

-- Elements that give NotMet may be left out.
pub strongest-filter : {X : Type 0} (test : X → Bool) (verdict : X → PairVerdict)
    (left_out : (x : X) → test x ≡ false → verdict x ≡ NotMet) (xs : List X)
    → strongest (map verdict (filter test xs)) ≡ strongest (map verdict xs)
strongest-filter test verdict left_out [] = refl
strongest-filter test verdict left_out (x ∷ xs) = at (test x) refl (strongest-filter test verdict left_out xs)
  where
    at : (b : Bool) → test x ≡ b → strongest (map verdict (filter test xs)) ≡ strongest (map verdict xs)
        → strongest (map verdict (filter test (x ∷ xs))) ≡ strongest (map verdict (x ∷ xs))
    at true h later = rw h (ap (stronger (verdict x)) later)
    at false h later = rw (h, left_out x h) later

-- One more verdict, in front of those that are left.
pub strongest_before : (v w rest : PairVerdict) → stronger (stronger v w) rest ≡ stronger v (stronger w rest)
strongest_before = stronger_assoc

-- Behind an authentic pair none makes a difference.
pub authentic_is_strongest : (v w rest : PairVerdict) → w ≡ Authentic → w ≡ stronger v (stronger w rest)
authentic_is_strongest Authentic w rest is = rw is refl
authentic_is_strongest NotAccepted w rest is = rw is refl
authentic_is_strongest NotMet w rest is = rw is refl

pub nothing_left : (v : PairVerdict) → v ≡ stronger v NotMet
nothing_left v = sym (stronger-not_met v)
