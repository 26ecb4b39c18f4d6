-- Questions for the transfer of a zone, one by one.
use Rattle.std.proofs.Common.{◌≡◌, ℕ, ◌+◌, ◌<◌, ◌≤◌, Bool, true, false, ◌||◌, List, ◌∷◌, length, get_or, drop}
use Rattle.std.proofs.Common.{refl, sym, ap, ◌∙◌, add-one, drop-cons}
use Rattle.std.specs.List.{list_any}
use Rattle.std.proofs.lemmas.List.{drop_all}
use Rattle.dns_message.specs.declared.query.Query.{Query}
use Rattle.sec_tsig.specs.MessageSigning.{is_transfer}

abbrev left : List Query → ℕ → Bool
left queries i = list_any is_transfer (drop i queries)

split : (queries : List Query) (i : ℕ) (query : Query) → i < length queries → query ≡ get_or queries i query
    → left queries i ≡ (is_transfer query || left queries (i + 1))
split queries i query lt is =
    let parts : drop i queries ≡ get_or queries i query ∷ drop (i + 1) queries =
    rw (add-one, drop-cons queries i query) refl in
    ap (λ (xs : List Query). list_any is_transfer xs) (parts
    ∙ ap (λ (x : Query). x ∷ drop (i + 1) queries) (sym is))

pub step_one : (queries : List Query) (i : ℕ) (query : Query) → i < length queries → query ≡ get_or queries i query
    → is_transfer query ≡ true → list_any is_transfer (drop i queries) ≡ true
step_one queries i query lt is one =
    split queries i query lt is ∙ ap (λ (b : Bool). b || left queries (i + 1)) one

pub step_other : (queries : List Query) (i : ℕ) (query : Query) → i < length queries → query ≡ get_or queries i query
    → is_transfer query ≡ false
    → list_any is_transfer (drop i queries) ≡ list_any is_transfer (drop (i + 1) queries)
step_other queries i query lt is other =
    split queries i query lt is ∙ ap (λ (b : Bool). b || left queries (i + 1)) other

pub step_none : (queries : List Query) (i : ℕ) → length queries ≤ i → list_any is_transfer (drop i queries) ≡ false
step_none queries i le = ap (λ (xs : List Query). list_any is_transfer xs) (drop_all i queries le)

pub ruleset steps = (step_one, step_other, step_none)
