-- The outline of a message, by what stands before its last additional.
use Rattle.std.proofs.Common.{◌≡◌, ◌≢◌, ℕ, zero, suc, ◌-◌, true, List, Option, None, Result, Ok, Err, refl, ap, ◌∙◌}
use Rattle.std.proofs.Common.{arith}
use Rattle.dns_wire.specs.declared.error.DecodeError.{DecodeError}
use Rattle.dns_wire.specs.Reading.{◌>>=◌, each_at}
use Rattle.dns_names.specs.Skipping.{without_value}
use Rattle.dns_rdata.specs.RDataTable.{rdata_table}
use Rattle.dns_grammar.specs.Messages.{Header, Signature, Outline, queries_at, records_at, record_at}
use Rattle.dns_grammar.specs.Messages.{sized_header_at, message_at}
use Rattle.dns_grammar.proofs.OutlineLaws.{signature_at, outline_behind, outline_is}
use Rattle.dns_message.specs.Views.{ahead_at, as_signature, outlined}

-- the last of n additionals, at p
unfoldable last_at : ℕ → List ℕ → ℕ → Result (Option Signature × ℕ) DecodeError
last_at zero m p = Ok (None, p)
last_at (suc n) m p = as_signature (record_at rdata_table true m p)

abbrev with_header : Header → Option Signature × ℕ → Result (Outline × ℕ) DecodeError
with_header header signature = Ok (record { header = header; signature = signature.0 }, signature.1)

abbrev and_place : Header → Unit {0} × ℕ → Result (Header × ℕ) DecodeError
and_place header others = Ok (header, others.1)

abbrev and_last : List ℕ → Header × ℕ → Result (Outline × ℕ) DecodeError
and_last m x = last_at x.0.additionals m x.1 >>= with_header x.0

-- a step before what is read in two parts
under : {A B C : Type 0} (first : Result A DecodeError)
    (whole : A → Result C DecodeError) (front : A → Result B DecodeError) (back : B → Result C DecodeError)
    → ((x : A) → whole x ≡ (front x >>= back)) → (first >>= whole) ≡ ((first >>= front) >>= back)
under (Ok x) whole front back h = h x
under (Err e) whole front back h = refl

-- the additionals but the last, and the last
in_two : (header : Header) (n : ℕ) (m : List ℕ) (p : ℕ) → header.additionals ≡ n
    → (signature_at rdata_table n m p >>= with_header header)
    ≡ ((without_value (records_at rdata_table (n - 1) m p) >>= and_place header) >>= and_last m)
unfolding signature_at last_at each_at
in_two header zero m p is = rw is refl
in_two header (suc n) m p is =
    let less : suc n - 1 ≡ n = omega arith in
    rw less (go (without_value (records_at rdata_table n m p)))
  where
    go : (others : Result (Unit {0} × ℕ) DecodeError)
        → ((others >>= λ x. as_signature (record_at rdata_table true m x.1)) >>= with_header header)
        ≡ ((others >>= and_place header) >>= and_last m)
    go (Ok x) = rw is refl
    go (Err e) = refl

by_ahead : (m : List ℕ) → outlined (message_at rdata_table m) ≡ (ahead_at m >>= and_last m)
unfolding outline_behind ahead_at
by_ahead m =
    outline_is rdata_table m
    ∙ under (sized_header_at m) _ _ (and_last m) (λ header.
    under (without_value (queries_at header.0.questions m header.1)) _ _ (and_last m) (λ queries.
    under (without_value (records_at rdata_table header.0.answers m queries.1)) _ _ (and_last m) (λ answers.
    under (without_value (records_at rdata_table header.0.authorities m answers.1)) _ _ (and_last m) (λ authorities.
    in_two header.0 header.0.additionals m authorities.1 refl))))

pub ahead_fails : (m : List ℕ) (e : DecodeError) → ahead_at m ≡ Err e → outlined (message_at rdata_table m) ≡ Err e
ahead_fails m e ahead = by_ahead m ∙ ap (λ read. read >>= and_last m) ahead

none_at : (n : ℕ) (m : List ℕ) (p : ℕ) → n ≡ 0 → last_at n m p ≡ Ok (None, p)
unfolding last_at
none_at zero m p is = refl
none_at (suc n) m p is = absurd (omega (arith, is))

pub no_additional : (m : List ℕ) (header : Header) (p : ℕ) → ahead_at m ≡ Ok (header, p) → header.additionals ≡ 0
    → outlined (message_at rdata_table m) ≡ Ok (record { header = header; signature = None }, p)
no_additional m header p ahead none =
    by_ahead m ∙ ap (λ read. read >>= and_last m) ahead
    ∙ ap (λ read. read >>= with_header header) (none_at header.additionals m p none)

some_at : (n : ℕ) (m : List ℕ) (p : ℕ) → n ≢ 0 → last_at n m p ≡ as_signature (record_at rdata_table true m p)
unfolding last_at
some_at zero m p some = absurd (some refl)
some_at (suc n) m p some = refl

by_last : (m : List ℕ) (header : Header) (p : ℕ) → ahead_at m ≡ Ok (header, p) → header.additionals ≢ 0
    → outlined (message_at rdata_table m) ≡ (as_signature (record_at rdata_table true m p) >>= with_header header)
by_last m header p ahead some =
    by_ahead m ∙ ap (λ read. read >>= and_last m) ahead
    ∙ ap (λ read. read >>= with_header header) (some_at header.additionals m p some)

pub last_fails : (m : List ℕ) (header : Header) (p : ℕ) (e : DecodeError)
    → ahead_at m ≡ Ok (header, p) → header.additionals ≢ 0
    → as_signature (record_at rdata_table true m p) ≡ Err e → outlined (message_at rdata_table m) ≡ Err e
last_fails m header p e ahead some last = by_last m header p ahead some ∙ ap (λ read. read >>= with_header header) last

pub last_read : (m : List ℕ) (header : Header) (p : ℕ) (signature : Option Signature) (q : ℕ)
    → ahead_at m ≡ Ok (header, p) → header.additionals ≢ 0
    → as_signature (record_at rdata_table true m p) ≡ Ok (signature, q)
    → outlined (message_at rdata_table m) ≡ Ok (record { header = header; signature = signature }, q)
last_read m header p signature q ahead some last =
    by_last m header p ahead some ∙ ap (λ read. read >>= with_header header) last

pub ruleset exits = (ahead_fails, no_additional, last_fails, last_read)
