use Rattle.std.proofs.Common.{◌≡◌, ◌∙◌, ap, sym, subst, refl, arith, inl, inr, ◌∷◌}
use Rattle.dns_lexer.specs.declared.lex_token.LexToken.TheVariants as tokens
use Rattle.dns_lexer.specs.Tokens.{items, items_behind, items_left, word_item, item_of, mark, Takes}
use Rattle.dns_lexer.proofs.Steps.{left_behind, at_end}
use Rattle.dns_lexer.proofs.Taking.{takes_word, refuses_word, takes_line_feed, takes_parenthesis, refuses_other}
use Rattle.dns_lexer.proofs.Taking.{behind_first, parenthesis_small, takes_err}
use Rattle.dns_lexer.proofs.lexer.Lexer.next_token.Goals as goal

pub returns-in-Ok : goal.returns-in-Ok
returns-in-Ok c =
    let text = c.behind_gap-text.result.now in
    let old = c.args.self.now in
    let before : items_left old ≡ items_behind 0 text =
    left_behind old.starts_line old.rest.now (sym c.is_at_blank.ensures ∙ c.if-is_at_blank.false)
    ∙ sym c.behind_gap-text.ensures.same in
    let named = ap word_item (sym c.front.ensures) ∙ c.in-Ok.ensures in
    before ∙ (takes_word text c.word_len-len.result c.word_len-len.ensures.value (omega arith) c.in-Ok.token named
    ∙ ap (λ r. item_of c.in-Ok.token ∷ items_behind 0 r) (sym c.behind-self.ensures))

pub returns-in-Err : goal.returns-in-Err
returns-in-Err c =
    let text = c.behind_gap-text.result.now in
    let old = c.args.self.now in
    let before : items_left old ≡ items_behind 0 text =
    left_behind old.starts_line old.rest.now (sym c.is_at_blank.ensures ∙ c.if-is_at_blank.false)
    ∙ sym c.behind_gap-text.ensures.same in
    takes_err c.in-Err.e old
    (elim c.in-Err.ensures [
      | inl e ↦ inl e
      | inr h ↦ inr (
        h.0,
        before ∙ refuses_word text c.word_len-len.result c.word_len-len.ensures.value (omega arith)
            (ap word_item (sym c.front.ensures) ∙ h.1),
      )
    ])

pub returns-in_default : goal.returns-in_default
returns-in_default c =
    let old = c.args.self.now in
    let before : items_left old ≡ items_behind 0 c.behind_gap-text.result.now =
    left_behind old.starts_line old.rest.now (sym c.is_at_blank.ensures ∙ c.if-is_at_blank.false)
    ∙ sym c.behind_gap-text.ensures.same in
    (before ∙ (ap (items_behind 0) c.in_default.ensures ∙ at_end), refl)

pub behind-self-requires-then-octet-eq10 : goal.behind-self-requires-then-octet-eq10
behind-self-requires-then-octet-eq10 c =
    behind_first _ _ c.in-Some.octet c.behind_gap-text.utf8 c.in-Some.ensures (omega (arith, c.if-octet-eq10.true))

pub returns-then-octet-eq10 : goal.returns-then-octet-eq10
returns-then-octet-eq10 c =
    let old = c.args.self.now in
    let before : items_left old ≡ items_behind 0 c.behind_gap-text.result.now =
    left_behind old.starts_line old.rest.now (sym c.is_at_blank.ensures ∙ c.if-is_at_blank.false)
    ∙ sym c.behind_gap-text.ensures.same in
    before ∙ (takes_line_feed _ _ c.in-Some.octet c.in-Some.ensures c.if-octet-eq10.true
    ∙ ap (λ r. mark tokens.EOL ∷ items r) (sym c.behind-self-then-octet-eq10.ensures))

pub behind-self-requires-then-is_parenthesis : goal.behind-self-requires-then-is_parenthesis
behind-self-requires-then-is_parenthesis c =
    behind_first _ _ c.in-Some.octet c.behind_gap-text.utf8 c.in-Some.ensures
    (parenthesis_small c.in-Some.octet (sym c.is_parenthesis.ensures ∙ c.if-is_parenthesis.true))

pub returns-then-is_parenthesis : goal.returns-then-is_parenthesis
returns-then-is_parenthesis c =
    let old = c.args.self.now in
    let before : items_left old ≡ items_behind 0 c.behind_gap-text.result.now =
    left_behind old.starts_line old.rest.now (sym c.is_at_blank.ensures ∙ c.if-is_at_blank.false)
    ∙ sym c.behind_gap-text.ensures.same in
    before ∙ (takes_parenthesis _ _ c.in-Some.octet c.in-Some.ensures
    (sym c.is_parenthesis.ensures ∙ c.if-is_parenthesis.true)
    ∙ ap (λ r. mark tokens.List ∷ items_behind 0 r) (sym c.behind-self-then-is_parenthesis.ensures))

pub returns : goal.returns
returns c =
    let old = c.args.self.now in
    let before : items_left old ≡ items_behind 0 c.behind_gap-text.result.now =
    left_behind old.starts_line old.rest.now (sym c.is_at_blank.ensures ∙ c.if-is_at_blank.false)
    ∙ sym c.behind_gap-text.ensures.same in
    subst (λ r. Takes r old old) (sym c.unrecognized.ensures) (
      before ∙ refuses_other _ _ c.in-Some.octet c.in-Some.ensures
          (sym c.word_len-len.ensures.value ∙ omega arith) c.behind_gap-text.ensures.ended c.if-octet-eq10.false
          (sym c.is_parenthesis.ensures ∙ c.if-is_parenthesis.false),
      refl,
    )
