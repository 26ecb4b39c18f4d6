use Rattle.std.proofs.Common.{◌≡◌, ℕ, true, List, [], ◌∷◌, ◌++◌, refl, sym, ap, subst, ◌∙◌}
use Rattle.std.proofs.Math.Utf8.{encode}
use Rattle.std.proofs.Output.{has_written_append}
use Rattle.std.proofs.lemmas.Str.{encode_ascii}
use Rattle.std.specs.Fmt.{HasWritten}
use Rattle.sec_digest.specs.Base32.{digit_at}
use Rattle.sec_digest.proofs.DigitSteps.{digits_up_to, digits_more}
use Rattle.sec_digest.proofs.base32.Base32TextDisplay.fmt.Goals as goal

pub loop-i-preserved : goal.loop-i-preserved
loop-i-preserved g c plain =
    let octets = c.args.self.now.0.now in
    let before = c.loop-i.invariant plain in
    let digit : encode c.from.result ≡ digit_at octets c.loop-i.i ∷ [] =
    ap encode c.from.ensures ∙ (encode_ascii c.digit_at-digit.result c.digit_at-digit.ensures.ascii
    ∙ ap (λ d. d ∷ []) c.digit_at-digit.ensures.value) in
    let more = ap (λ (text : List ℕ). digits_up_to c.loop-i.i octets ++ text) digit
    ∙ sym (digits_more octets c.loop-i.i) in
    subst (λ text. HasWritten g.W.Write.write_str_gives c.args.f.now text c.write.new.self) more
    (has_written_append _ _ _ _ _ _ before (c.in_ok-write.ensures.writes before.plain (refl {a = true})))
