-- The outline of a message, read part by part with no list.
use Rattle.std.proofs.Common.{◌≡◌, ℕ, zero, suc, true, false, eqb, List, [], ◌∷◌, ◌++◌, Option, None, option_and_then}
use Rattle.std.proofs.Common.{Result, Ok, Err}
use Rattle.std.proofs.Common.{refl, ap, ◌∙◌, arith}
use Rattle.std.proofs.lemmas.Bool.{ne_eqb}
use Rattle.dns_wire.specs.declared.error.DecodeError.{DecodeError}
use Rattle.dns_wire.specs.Reading.{◌>>=◌, each_at}
use Rattle.dns_grammar.specs.Fields.{Table}
use Rattle.dns_names.specs.Skipping.{without_value}
use Rattle.dns_grammar.specs.Messages.{Header, Query, ResourceRecord, Message, last_of, Signature, signature_from}
use Rattle.dns_grammar.specs.Messages.{Outline, outline_of}
use Rattle.dns_grammar.specs.Messages.{record_at, queries_at, records_at, additionals_at, body_at, sized_header_at}
use Rattle.dns_grammar.specs.Messages.{message_at}
use Rattle.dns_grammar.proofs.EachLaws.{last_of-more}

-- the outline of a message that is read, and the place behind it
abbrev pub outlined : Result (Message × ℕ) DecodeError → Result (Outline × ℕ) DecodeError
outlined read = read >>= λ x. Ok (outline_of x.0, x.1)

-- ---- the last additional behind the others

-- records, and one more behind them
abbrev with_more : List ResourceRecord → ResourceRecord × ℕ → Result (List ResourceRecord × ℕ) DecodeError
with_more others rr = Ok (others ++ rr.0 ∷ [], rr.1)

abbrev last_behind : Table → List ℕ → Result (List ResourceRecord × ℕ) DecodeError
    → Result (List ResourceRecord × ℕ) DecodeError
last_behind table m others = others >>= λ xs. record_at table true m xs.1 >>= with_more xs.0

-- a record before those that are read
abbrev before_them : ResourceRecord → List ResourceRecord × ℕ → Result (List ResourceRecord × ℕ) DecodeError
before_them rr rest = Ok (rr ∷ rest.0, rest.1)

with_more_before : (rr : ResourceRecord) (others : List ResourceRecord) (last : Result (ResourceRecord × ℕ) DecodeError)
    → ((last >>= with_more others) >>= before_them rr) ≡ (last >>= with_more (rr ∷ others))
with_more_before rr others (Ok x) = refl
with_more_before rr others (Err e) = refl

others_before : (table : Table) (m : List ℕ) (rr : ResourceRecord)
    (others : Result (List ResourceRecord × ℕ) DecodeError)
    → (last_behind table m others >>= before_them rr) ≡ last_behind table m (others >>= before_them rr)
others_before table m rr (Ok xs) = with_more_before rr xs.0 (record_at table true m xs.1)
others_before table m rr (Err e) = refl

first_before : (table : Table) (n : ℕ) (m : List ℕ) (first : Result (ResourceRecord × ℕ) DecodeError)
    → ((p : ℕ) → additionals_at table (suc n) m p ≡ last_behind table m (records_at table n m p))
    → (first >>= λ rr. additionals_at table (suc n) m rr.1 >>= before_them rr.0)
    ≡ last_behind table m (first >>= λ rr. records_at table n m rr.1 >>= before_them rr.0)
first_before table n m (Ok rr) same = ap (λ r. r >>= before_them rr.0) (same rr.1)
    ∙ others_before table m rr.0 (records_at table n m rr.1)
first_before table n m (Err e) same = refl

pub additionals_split : (table : Table) (n : ℕ) (m : List ℕ) (p : ℕ)
    → additionals_at table (suc n) m p ≡ last_behind table m (records_at table n m p)
unfolding additionals_at each_at
additionals_split table zero m p = refl
additionals_split table (suc n) m p =
    let other : eqb (suc n) 0 ≡ false = ne_eqb (suc n) 0 (omega arith) in
    ap (λ b. record_at table b m p >>= λ rr. additionals_at table (suc n) m rr.1 >>= before_them rr.0) other
    ∙ first_before table n m (record_at table false m p) (additionals_split table n m)

-- ---- the signature

-- the last of some records as a signature, and the place behind them
abbrev pub signed : Result (List ResourceRecord × ℕ) DecodeError → Result (Option Signature × ℕ) DecodeError
signed read = read >>= λ x. Ok (option_and_then signature_from (last_of x.0), x.1)

-- a record as a signature, and the place behind it
abbrev pub as_signature : Result (ResourceRecord × ℕ) DecodeError → Result (Option Signature × ℕ) DecodeError
as_signature read = read >>= λ rr. Ok (signature_from rr.0, rr.1)

last_signed : (table : Table) (m : List ℕ) (others : Result (List ResourceRecord × ℕ) DecodeError)
    → signed (last_behind table m others) ≡ (without_value others >>= λ x. as_signature (record_at table true m x.1))
last_signed table m (Ok xs) = go (record_at table true m xs.1)
  where
    go : (last : Result (ResourceRecord × ℕ) DecodeError) → signed (last >>= with_more xs.0) ≡ as_signature last
    go (Ok rr) = ap (λ (o : Option ResourceRecord). let ok : Result (Option Signature × ℕ) DecodeError = Ok
        (option_and_then signature_from o, rr.1) in ok) (last_of-more xs.0 rr.0)
    go (Err e) = refl
last_signed table m (Err e) = refl

-- the signature among n additionals from p
unfoldable pub signature_at : Table → ℕ → List ℕ → ℕ → Result (Option Signature × ℕ) DecodeError
signature_at table zero m p = Ok (None, p)
signature_at table (suc n) m p = without_value (records_at table n m p)
    >>= λ others. as_signature (record_at table true m others.1)

pub signature_is_last : (table : Table) (n : ℕ) (m : List ℕ) (p : ℕ)
    → signed (additionals_at table n m p) ≡ signature_at table n m p
unfolding signature_at additionals_at
signature_is_last table zero m p = refl
signature_is_last table (suc n) m p = ap signed (additionals_split table n m p)
    ∙ last_signed table m (records_at table n m p)

-- ---- the outline

-- the outline of what stands behind a header, from p
unfoldable pub outline_behind : Table → List ℕ → Header → ℕ → Result (Outline × ℕ) DecodeError
outline_behind table m header p = do
  queries ← without_value (queries_at header.questions m p)
  answers ← without_value (records_at table header.answers m queries.1)
  authorities ← without_value (records_at table header.authorities m answers.1)
  signature ← signature_at table header.additionals m authorities.1
  Ok (record { header = header; signature = signature.0 }, signature.1)

-- a step of which only the place is kept
by_place : {A B C : Type 0} (first : Result (A × ℕ) DecodeError) (short : Unit {0} × ℕ
    → Result C DecodeError) (long : A × ℕ → Result B DecodeError) (view : B → Result C DecodeError)
    → ((x : A) (q : ℕ) → (long (x, q) >>= view) ≡ short (tt, q))
    → ((first >>= long) >>= view) ≡ (without_value first >>= short)
by_place (Ok x) short long view h = h x.0 x.1
by_place (Err e) short long view h = refl

abbrev seen : Message × ℕ → Result (Outline × ℕ) DecodeError
seen x = Ok (outline_of x.0, x.1)

abbrev short_end : Header → Option Signature × ℕ → Result (Outline × ℕ) DecodeError
short_end header signature = Ok (record { header = header; signature = signature.0 }, signature.1)

abbrev long_end : Header → List Query → List ResourceRecord → List ResourceRecord → List ResourceRecord × ℕ
    → Result (Message × ℕ) DecodeError
long_end header queries answers authorities additionals =
    Ok (
      record {
        header = header;
        queries = queries;
        answers = answers;
        authorities = authorities;
        additionals =
            additionals.0;
      },
      additionals.1,
    )

at_last : (header : Header) (queries : List Query) (answers authorities : List ResourceRecord)
    (additionals : Result (List ResourceRecord × ℕ) DecodeError)
    → ((additionals >>= long_end header queries answers authorities) >>= seen)
    ≡ (signed additionals >>= short_end header)
at_last header queries answers authorities (Ok x) = refl
at_last header queries answers authorities (Err e) = refl

pub outline_is_behind : (table : Table) (m : List ℕ) (header : Header) (p : ℕ)
    → outlined (body_at table m header p) ≡ outline_behind table m header p
unfolding outline_behind body_at
outline_is_behind table m header p =
    by_place (queries_at header.questions m p) _ _ seen (λ queries q.
    by_place (records_at table header.answers m q) _ _ seen (λ answers a.
    by_place (records_at table header.authorities m a) _ _ seen (λ authorities n.
    at_last header queries answers authorities (additionals_at table header.additionals m n)
    ∙ ap (λ r. r >>= short_end header) (signature_is_last table header.additionals m n))))

by_header : (first : Result (Header × ℕ) DecodeError) (long : Header × ℕ
    → Result (Message × ℕ) DecodeError) (short : Header × ℕ → Result (Outline × ℕ) DecodeError)
    → ((x : Header × ℕ) → outlined (long x) ≡ short x) → outlined (first >>= long) ≡ (first >>= short)
by_header (Ok x) long short h = h x
by_header (Err e) long short h = refl

-- The outline of a message that is read is read part by part.
pub outline_is : (table : Table) (m : List ℕ) → outlined (message_at table m)
    ≡ (sized_header_at m >>= λ header. outline_behind table m header.0 header.1)
unfolding message_at
outline_is table m = by_header (sized_header_at m) _ _ (λ x. outline_is_behind table m x.0 x.1)
