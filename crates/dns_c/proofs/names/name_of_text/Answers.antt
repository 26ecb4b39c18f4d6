use Rattle.std.proofs.Common.{◌≡◌, ℕ, List, false, inl, inr, refl, ap, sym, ◌∙◌, Err}
use Rattle.std.proofs.lemmas.Bool.{cases_Bool}
use Rattle.std.proofs.lemmas.Str.{IsUtf8-from_is_utf8, is_utf8-from_IsUtf8}
use Rattle.std.specs.Result.{result_map_both}
use Rattle.std.specs.Str.{IsUtf8, is_utf8}
use Rattle.dns_names.specs.Names.{wire}
use Rattle.dns_names.specs.NameText.{name_from_text}
use Rattle.dns_c.specs.KeysAndNames.{text_fault}
use Rattle.dns_c.proofs.names.name_of_text.Goals as goal

not_utf8 : (text : List ℕ) → ¬ (IsUtf8 text) → is_utf8 text ≡ false
not_utf8 text other = elim (cases_Bool (is_utf8 text)) [
  | inl is ↦ absurd (other (IsUtf8-from_is_utf8 text is))
  | inr is ↦ is
]

pub returns-in_default : goal.returns-in_default
returns-in_default c = rw (not_utf8 _ c.in_default.ensures.cases.0) refl

pub returns-in-Ok-from_ascii : goal.returns-in-Ok-from_ascii
returns-in-Ok-from_ascii c =
    rw (is_utf8-from_IsUtf8 _ c.in-Ok.ensures.cases.1) (ap (result_map_both wire text_fault)
    (ap name_from_text (sym c.in-Ok.ensures.cases.0) ∙ sym c.in-Ok-from_ascii.ensures.exact))

pub returns-in-Err : goal.returns-in-Err
returns-in-Err c =
    rw (is_utf8-from_IsUtf8 _ c.in-Ok.ensures.cases.1) (ap (result_map_both wire text_fault)
    (ap name_from_text (sym c.in-Ok.ensures.cases.0) ∙ sym c.in-Err.ensures.exact) ∙ ap Err (sym c.text_fault.ensures))
