-- What is written of a message begins with a header.
use Rattle.std.proofs.Common.{◌≡◌, ℕ, ◌+◌, ◌^◌, ◌<◌, ◌≤◌, Bool, true, false, cond, List, ◌++◌, length, Result, Ok, Err, refl}
use Rattle.std.proofs.Common.{sym, ap, ◌∙◌, arith, length-append, nat_lt}
use Rattle.std.proofs.lemmas.Bool.{ltb-false}
use Rattle.dns_wire.specs.declared.encoder.NameEncoding.{NameEncoding}
use Rattle.dns_wire.specs.declared.error.EmitError.{EmitError}
use Rattle.dns_wire.specs.declared.error.EmitError.TheVariants.{CountTooLarge}
use Rattle.dns_wire.specs.Octets.{two_octets}
use Rattle.dns_wire.specs.Joining.{joined}
use Rattle.dns_grammar.specs.Messages.{Message as grammar_message}
use Rattle.dns_grammar.specs.MessageWriting.{count_octets, header_octets}
use Rattle.dns_grammar.proofs.ReadBack.{Joins, joins, ok_octets}
use Rattle.dns_message.specs.declared.message.Message.{Message}
use Rattle.dns_message.specs.MessageWriting.{written_message}
use Rattle.dns_message.specs.Parts.{message_parts, whole}

-- a count that was written
record Counted (n : ℕ) (x : List ℕ) : Type 0 where
  pub few : n < 2 ^ 16
  pub is : x ≡ two_octets n

counted : {A : Type 0} (xs : List A) (x : List ℕ) → count_octets xs ≡ Ok x → Counted (length xs) x
counted xs x is = go (nat_lt 65535 (length xs)) refl is
  where
    go : (b : Bool) → nat_lt 65535 (length xs) ≡ b
        → cond b (Err CountTooLarge) (let ok : Result (List ℕ) EmitError = Ok (two_octets (length xs)) in ok) ≡ Ok x
        → Counted (length xs) x
    go true long is = absurd cc
    go false long is = record { few = omega (arith, ltb-false _ _ long); is = sym (ok_octets _ x is) }

pub both_lengths : {a b : Result (List ℕ) EmitError} {x : List ℕ} (w : Joins a b x)
    → length w.first + length w.second ≡ length x
both_lengths w = sym (length-append w.first w.second) ∙ ap (λ (l : List ℕ). length l) w.whole

-- what is joined after one another
pub joined_four : (x a x1 b x2 c x3 d e : List ℕ) → a ++ x1 ≡ x → b ++ x2 ≡ x1 → c ++ x3 ≡ x2 → d ++ e ≡ x3
    → x ≡ a ++ (b ++ (c ++ (d ++ e)))
joined_four x a x1 b x2 c x3 d e p q r s =
    sym p ∙ ap (λ l. a ++ l) (sym q ∙ ap (λ l. b ++ l) (sym r ∙ ap (λ l. c ++ l) (sym s)))

-- the same where it is known what these are
joined_known : (x a x1 b x2 c x3 d e a1 b1 c1 d1 e1 : List ℕ) → a ++ x1 ≡ x → b ++ x2 ≡ x1 → c ++ x3 ≡ x2 → d ++ e ≡ x3
    → a ≡ a1 → b ≡ b1 → c ≡ c1 → d ≡ d1 → e ≡ e1 → x ≡ a1 ++ (b1 ++ (c1 ++ (d1 ++ e1)))
joined_known x a x1 b x2 c x3 d e a1 b1 c1 d1 e1 p q r s f g h i j =
    joined_four x a x1 b x2 c x3 d e p q r s ∙ (λ k. f k ++ (g k ++ (h k ++ (i k ++ j k))))

-- the six numbers of a header
abbrev pub numbers : grammar_message → List ℕ
numbers message =
    two_octets message.header.id ++ (two_octets message.header.flags ++ (two_octets (length message.queries)
    ++ (two_octets (length message.answers) ++ (two_octets (length message.authorities)
    ++ two_octets (length message.additionals)))))

-- a header that was written
pub record WrittenHeader (message : grammar_message) (x : List ℕ) : Type 0 where
  pub queries : length message.queries < 2 ^ 16
  pub answers : length message.answers < 2 ^ 16
  pub authorities : length message.authorities < 2 ^ 16
  pub additionals : length message.additionals < 2 ^ 16
  pub is : x ≡ numbers message

pub written_header : (message : grammar_message) (x : List ℕ) → header_octets message ≡ Ok x → WrittenHeader message x
written_header message x is =
    let last = joined (count_octets message.authorities) (count_octets message.additionals) in
    let third = joined (count_octets message.answers) last in
    let second = joined (count_octets message.queries) third in
    let front : List ℕ = two_octets message.header.id ++ two_octets message.header.flags in
    let a : Joins (Ok front) second x = joins (Ok front) second x is in
    let b : Joins (count_octets message.queries) third a.second = joins (count_octets message.queries) third a.second
    a.second_is in
    let c : Joins (count_octets message.answers) last b.second = joins (count_octets message.answers) last b.second
    b.second_is in
    let d : Joins (count_octets message.authorities) (count_octets message.additionals) c.second =
    joins (count_octets message.authorities) (count_octets message.additionals) c.second c.second_is in
    let q = counted message.queries b.first b.first_is in
    let r = counted message.answers c.first c.first_is in
    let n = counted message.authorities d.first d.first_is in
    let k = counted message.additionals d.second d.second_is in
    record {
      queries = q.few;
      answers = r.few;
      authorities = n.few;
      additionals = k.few;
      is = joined_known x a.first a.second b.first b.second c.first c.second d.first d.second front
          (two_octets (length message.queries)) (two_octets (length message.answers))
          (two_octets (length message.authorities)) (two_octets (length message.additionals)) a.whole b.whole c.whole
          d.whole (sym (ok_octets front a.first a.first_is)) q.is r.is n.is k.is;
    }

pub header_length : (message : grammar_message) (x : List ℕ) → header_octets message ≡ Ok x → length x ≡ 12
header_length message x is = ap (λ (l : List ℕ). length l) (written_header message x is).is

pub written_long : (canonical : Bool) (encoding : NameEncoding) (message : Message) (x : List ℕ)
    → written_message canonical encoding message ≡ Ok x → 12 ≤ length x
written_long canonical encoding message x is =
    let w = joins _ _ x is in
    omega (arith, both_lengths w, header_length (whole (message_parts message)) w.first w.first_is)
