use Rattle.std.proofs.Common.{◌≡◌, ◌∙◌, ◌∷◌, ap, sym, arith, length, inl, inr}
use Rattle.dns_lexer.specs.Tokens.{items_left, item_of, word}
use Rattle.sec_anchor.specs.AnchorTokens.{lex_token}
use Rattle.sec_anchor.proofs.LineSteps.{owner_says, owner_refused, line_shorter}
use Rattle.sec_anchor.proofs.parser.entry_by_token.Goals as goal

pub returns-in-Ok : goal.returns-in-Ok
returns-in-Ok c =
    let mid = items_left c.args.lexer.now in
    let old : item_of (lex_token c.args.token) ∷ mid ≡ word c.deref.result.now ∷ mid =
    ap (λ t. item_of (lex_token t) ∷ mid) c.in-CharData.is
    ∙ ap (λ w. word w ∷ mid) (sym c.deref.ensures) in
    let most = line_shorter mid in
    let left = ap length c.in-Ok.ensures.1 in
    (owner_says _ mid _ c.deref.result.now _ old c.in-Ok.ensures.0 c.in-Ok.ensures.1, omega arith)

pub returns-in-CharData : goal.returns-in-CharData
returns-in-CharData c =
    let mid = items_left c.args.lexer.now in
    let old : item_of (lex_token c.args.token) ∷ mid ≡ word c.deref.result.now ∷ mid =
    ap (λ t. item_of (lex_token t) ∷ mid) c.in-CharData.is
    ∙ ap (λ w. word w ∷ mid) (sym c.deref.ensures) in
    elim c.in-Err.ensures [
      | inl e ↦ inl e
      | inr h ↦ inr (owner_refused _ mid c.deref.result.now c.in-Err.e old h)
    ]
