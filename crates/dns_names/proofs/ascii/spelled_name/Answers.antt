use Rattle.std.proofs.Common.{ap, sym, ◌∙◌}
use Rattle.std.proofs.lemmas.Result.{err_from_is_err_and}
use Rattle.dns_names.specs.NameText.{add_label, name_at_end}
use Rattle.dns_names.proofs.TextSteps.{split, none_left, dot_stops, dot_on, octet_stops, octet_on, long_stops}
use Rattle.dns_names.proofs.ascii.spelled_name.Goals as goal

pub returns-in_err-add_label : goal.returns-in_err-add_label
returns-in_err-add_label c =
    let p = err_from_is_err_and c.from_residual.result c.from_residual.ensures.1 in
    rw (p.1, p.2) (dot_stops (split c.characters.invariant c.in-len1-up.len_at_least) _ c.if-first-eq46.true
    (ap (add_label c.characters.name) (sym c.as_slice.ensures.value) ∙ c.in_err-add_label.ensures))

pub characters-preserved-then-first-eq46 : goal.characters-preserved-then-first-eq46
characters-preserved-then-first-eq46 c =
    rw c.new-label-then-first-eq46.ensures (dot_on (split c.characters.invariant c.in-len1-up.len_at_least) _
    c.if-first-eq46.true (ap (add_label c.characters.name) (sym c.as_slice.ensures.value)
    ∙ c.in_ok-add_label.ensures.0))

pub returns-in_err-octet : goal.returns-in_err-octet
returns-in_err-octet c =
    let p = err_from_is_err_and c.from_residual-in_err-octet.result c.from_residual-in_err-octet.ensures.1 in
    rw (p.1, p.2) (octet_stops (split c.characters.invariant c.in-len1-up.len_at_least) _ c.if-first-eq46.false
    c.in_err-octet.ensures)

pub returns-in_err-add_octet : goal.returns-in_err-add_octet
returns-in_err-add_octet c =
    let p = err_from_is_err_and c.from_residual-in_err-add_octet.result c.from_residual-in_err-add_octet.ensures.1 in
    rw (p.1, p.2) (long_stops (split c.characters.invariant c.in-len1-up.len_at_least) _ _ _ c.if-first-eq46.false
    c.in_ok-octet.ensures c.in_err-add_octet.ensures)

pub characters-preserved : goal.characters-preserved
characters-preserved c =
    octet_on (split c.characters.invariant c.in-len1-up.len_at_least) _ _ _ c.if-first-eq46.false c.in_ok-octet.ensures
    c.in_ok-add_octet.ensures

pub returns : goal.returns
returns c = c.finished.ensures ∙ ap (name_at_end c.characters.name) c.as_slice-2.ensures.value
    ∙ none_left c.characters.invariant c.in_default.len_below
