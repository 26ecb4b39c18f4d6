use Rattle.std.proofs.Common.{◌≡◌, List, ℕ, [], ◌∷◌, ◌∙◌, sym, ap, true, false, cond, nat_eq, Result, Ok, Err}
use Rattle.std.specs.Result.{IfOk}
use Rattle.std.specs.Cmp.Lexicographic.{pointwise}
use Rattle.dns_wire.specs.declared.error.NameError.{NameError}
use Rattle.dns_names.specs.Names.{IsName}
use Rattle.dns_names.specs.NameText.{Spells, completed_name, name_from_text}
use Rattle.dns_names.proofs.TextLaws.{name_spelled, name_read}
use Rattle.dns_names.proofs.name.Name.from_ascii_octets.Goals as goal

-- a text that is one dot, and another
dot_alone : (text : List ℕ) → pointwise nat_eq text (46 ∷ []) ≡ true → name_from_text text ≡ Ok []
dot_alone text is = ap (λ b. cond {A = Result (List (List ℕ)) NameError} b (Ok []) (completed_name 0 [] [] text)) is

other : (text : List ℕ) → pointwise nat_eq text (46 ∷ []) ≡ false → name_from_text text ≡ completed_name 0 [] [] text
other text is = ap (λ b. cond {A = Result (List (List ℕ)) NameError} b (Ok []) (completed_name 0 [] [] text)) is

found : (text : List ℕ) (answer : Result (List (List ℕ)) NameError) → answer ≡ name_from_text text
    → IfOk answer (λ n. Spells text n × IsName n)
found text (Ok n) h = name_spelled text n (sym h)
found text (Err e) h = tt

pub returns-then-eq-clause-only : goal.returns-then-eq-clause-only
returns-then-eq-clause-only c n spells name =
    ap (λ z. Ok z) c.root.ensures ∙ sym (dot_alone c.args.text.now
    (ap (pointwise nat_eq c.args.text.now) (sym c.as_slice.ensures) ∙ sym c.eq.ensures ∙ c.if-eq.true))
    ∙ name_read c.args.text.now n spells name

pub returns-clause-found : goal.returns-clause-found
returns-clause-found c =
    found c.args.text.now _ (c.spelled_name.ensures
    ∙ sym (other c.args.text.now (ap (pointwise nat_eq c.args.text.now) (sym c.as_slice.ensures) ∙ sym c.eq.ensures
    ∙ c.if-eq.false)))

pub returns-clause-only : goal.returns-clause-only
returns-clause-only c n spells name =
    c.spelled_name.ensures ∙ sym (other c.args.text.now (ap (pointwise nat_eq c.args.text.now) (sym c.as_slice.ensures)
    ∙ sym c.eq.ensures ∙ c.if-eq.false)) ∙ name_read c.args.text.now n spells name
