-- Texts that calls read and answer.
use Rattle.std.proofs.Common.{◌≡◌, ℕ, ◌<◌, List, [], ◌∷◌, ◌++◌, map, length, refl, sym, ap, ◌∙◌, arith}
use Rattle.std.proofs.Common.{Bool, true, false, if◌then◌else◌, Result, Ok, Err, append_assoc}
use Rattle.std.proofs.lemmas.List.Folds.{flat_map-map}
use Rattle.std.proofs.lemmas.Str.{IsUtf8-from_is_utf8, is_utf8-from_IsUtf8}
use Rattle.std.specs.declared.alloc.Global.{Global}
use Rattle.std.specs.declared.string.String.{String}
use Rattle.std.specs.List.{join_by}
use Rattle.std.specs.Str.{IsUtf8, is_utf8}
use Rattle.std.specs.String.{string_bytes}
use Rattle.dns_rows.specs.declared.refusal.Refusal.{Refusal}
use Rattle.dns_rows.specs.declared.refusal.Refusal.TheVariants.{NoCall}
use Rattle.dns_rows.specs.CallTexts.{separated}
use Rattle.dns_rows.specs.CallWords.{text_in}

-- ---- octets that are text

not_true : (b : Bool) → (b ≡ true → ⊥) → b ≡ false
not_true true h = absurd (h refl)
not_true false h = refl

-- the text, or no call
abbrev pub text_if : List ℕ → Bool → Result (List ℕ) Refusal
text_if octets is = if is then Ok octets else Err NoCall

pub is_text_in : (octets text : List ℕ) → text ≡ octets → IsUtf8 octets → text_in octets ≡ Ok text
is_text_in octets text same utf8 = ap (text_if octets) (is_utf8-from_IsUtf8 octets utf8) ∙ ap Ok (sym same)

pub no_text_in : (octets : List ℕ) → ¬ (IsUtf8 octets) → text_in octets ≡ Err NoCall
no_text_in octets not_utf8 =
    ap (text_if octets) (not_true (is_utf8 octets) (λ e. not_utf8 (IsUtf8-from_is_utf8 octets e)))

-- ---- texts with a separator between each two

pub joined_texts : (separator : List ℕ) (texts : List (String Global)) → 0 < length texts
    → join_by string_bytes separator texts ≡ separated separator (map string_bytes texts)
joined_texts separator [] some = absurd (omega arith)
joined_texts separator (first ∷ others) some =
    ap (λ (t : List ℕ). string_bytes first ++ t) (sym (flat_map-map (λ next. separator ++ next) string_bytes others))
