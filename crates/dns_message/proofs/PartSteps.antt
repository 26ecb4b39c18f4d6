-- The parts of a message, by what stands before its last additional.
use Rattle.std.proofs.Common.{◌≡◌, ◌≢◌, ◌⊎◌, inl, inr, ℕ, zero, suc, ◌-◌, Bool, true, false, eqb, List, [], ◌∷◌, ◌++◌}
use Rattle.std.proofs.Common.{map, Option, Some, None, Result, Ok, Err, refl, sym, ap, ◌∙◌, cond, arith, eq-eqb}
use Rattle.std.proofs.lemmas.List.{map-append}
use Rattle.std.proofs.lemmas.Bool.{ne_eqb}
use Rattle.dns_wire.specs.declared.error.DecodeError.{DecodeError}
use Rattle.dns_wire.specs.declared.error.DecodeError.TheVariants.{OutOfMemory}
use Rattle.dns_wire.specs.Reading.{◌>>=◌, each_at}
use Rattle.dns_grammar.specs.RecordData.{tsig_type}
use Rattle.dns_grammar.specs.Laws.{unplaced_record}
use Rattle.dns_grammar.specs.Messages.{Header, Query, ResourceRecord, Message, queries_at, records_at, record_at}
use Rattle.dns_grammar.specs.Messages.{additionals_at, body_at, sized_header_at, message_at}
use Rattle.dns_grammar.proofs.EachLaws.{last_of-more, before_last-more}
use Rattle.dns_grammar.proofs.HeadLaws.{record_stands}
use Rattle.dns_grammar.proofs.OutlineLaws.{additionals_split}
use Rattle.dns_rdata.specs.RDataTable.{rdata_table}
use Rattle.dns_message.specs.Parts.{Parts, last_tsig}
use Rattle.dns_message.specs.MessageReading.{parts_at, unplaced_at, others_at, parts_ahead_at}
use Rattle.dns_message.specs.OwnedMessages.{Placed, standing}
use Rattle.dns_message.proofs.ValuesRead.{all_shown, each_shown}

-- ---- steps

under : {A B C D : Type 0} (first : Result A DecodeError) (whole : A → Result B DecodeError)
    (view : B → Result D DecodeError) (front : A → Result C DecodeError) (back : C → Result D DecodeError)
    → ((x : A) → (whole x >>= view) ≡ (front x >>= back))
    → ((first >>= whole) >>= view) ≡ ((first >>= front) >>= back)
under (Ok x) whole view front back h = h x
under (Err e) whole view front back h = refl

by_records : {B C D : Type 0} (n : ℕ) (m : List ℕ) (p : ℕ) (whole : List ResourceRecord × ℕ → Result B DecodeError)
    (view : B → Result D DecodeError) (front : List ResourceRecord × ℕ → Result C DecodeError)
    (back : C → Result D DecodeError)
    → ((xs : List ResourceRecord) (q : ℕ) → (whole (xs, q) >>= view) ≡ (front (map unplaced_record xs, q) >>= back))
    → ((records_at rdata_table n m p >>= whole) >>= view) ≡ ((others_at n m p >>= front) >>= back)
by_records n m p whole view front back h =
    go (records_at rdata_table n m p)
    ∙ ap (λ r. (r >>= front) >>= back) (sym (each_shown (record_at rdata_table false m) unplaced_record n p))
  where
    go : (r : Result (List ResourceRecord × ℕ) DecodeError)
        → ((r >>= whole) >>= view) ≡ (((r >>= all_shown unplaced_record) >>= front) >>= back)
    go (Ok x) = h x.0 x.1
    go (Err e) = refl

-- ---- the last additional

-- a message with a record behind its additionals, at this place, or as its signature
abbrev placed_last : Bool → Parts → ℕ → ResourceRecord → ℕ → Placed
placed_last true parts start rr q = (record parts { signature = Some rr }, (Some start, q))
placed_last false parts start rr q = (record parts { additionals = parts.additionals ++ rr ∷ [] }, (None, q))

abbrev with_last : Parts → ℕ → ResourceRecord × ℕ → Result Placed DecodeError
with_last parts start rr = Ok (placed_last (eqb rr.0.rtype tsig_type) parts start rr.0 rr.1)

-- the last of n additionals, at p
unfoldable last_at : ℕ → List ℕ → Parts → ℕ → Result Placed DecodeError
last_at zero m parts p = Ok (parts, (None, p))
last_at (suc n) m parts p = unplaced_at (record_at rdata_table true m p) >>= with_last parts p

abbrev and_last : List ℕ → (Parts × ℕ) × ℕ → Result Placed DecodeError
and_last m x = last_at x.0.1 m x.0.0 x.1

abbrev view : Message × ℕ → Result Placed DecodeError
view x = Ok (standing x)

abbrev message_of : Header → List Query → List ResourceRecord → List ResourceRecord → List ResourceRecord → Message
message_of header queries answers authorities additionals = record {
  header = header;
  queries = queries;
  answers = answers;
  authorities = authorities;
  additionals = additionals;
}

-- the parts of these, without a signature
abbrev parts_with : Header → List Query → List ResourceRecord → List ResourceRecord → List ResourceRecord → Parts
parts_with header queries answers authorities additionals = record {
  id = header.id;
  flags = header.flags;
  queries = queries;
  answers = map unplaced_record answers;
  authorities = map unplaced_record authorities;
  additionals = additionals;
  signature = None;
}

abbrev long_end : Header → List Query → List ResourceRecord → List ResourceRecord → List ResourceRecord × ℕ
    → Result (Message × ℕ) DecodeError
long_end header queries answers authorities additionals =
    Ok (message_of header queries answers authorities additionals.0, additionals.1)

abbrev short_end : Header → List Query → List ResourceRecord → List ResourceRecord → List ResourceRecord × ℕ
    → Result ((Parts × ℕ) × ℕ) DecodeError
short_end header queries answers authorities additionals =
    Ok ((parts_with header queries answers authorities additionals.0, header.additionals), additionals.1)

abbrev with_more : List ResourceRecord → ResourceRecord × ℕ → Result (List ResourceRecord × ℕ) DecodeError
with_more others rr = Ok (others ++ rr.0 ∷ [], rr.1)

-- what the test of a record's type chooses
abbrev signed : Bool → ResourceRecord → Option ResourceRecord
signed b rr = cond b (Some rr) None

chosen_last : (header : Header) (queries : List Query) (answers authorities xs : List ResourceRecord)
    (rr : ResourceRecord) (p q : ℕ) (b : Bool) → rr.start ≡ p → eqb rr.rtype tsig_type ≡ b
    → standing (message_of header queries answers authorities (xs ++ rr ∷ []), q)
    ≡ placed_last b (parts_with header queries answers authorities (map unplaced_record xs)) p (unplaced_record rr) q
chosen_last header queries answers authorities xs rr p q true start is =
    let last : last_tsig (xs ++ rr ∷ []) ≡ Some rr = rw (last_of-more xs rr, is) refl in
    rw (last, before_last-more xs rr, start) refl
chosen_last header queries answers authorities xs rr p q false start is =
    let last : last_tsig (xs ++ rr ∷ []) ≡ None = rw (last_of-more xs rr, is) refl in
    rw (last, map-append unplaced_record xs (rr ∷ [])) refl

last_of_all : (header : Header) (queries : List Query) (answers authorities xs : List ResourceRecord) (m : List ℕ)
    (p : ℕ)
    → (((record_at rdata_table true m p >>= with_more xs) >>= long_end header queries answers authorities) >>= view)
    ≡ (unplaced_at (record_at rdata_table true m p)
    >>= with_last (parts_with header queries answers authorities (map unplaced_record xs)) p)
last_of_all header queries answers authorities xs m p = go (record_at rdata_table true m p) refl
  where
    go : (read : Result (ResourceRecord × ℕ) DecodeError) → record_at rdata_table true m p ≡ read
        → (((read >>= with_more xs) >>= long_end header queries answers authorities) >>= view)
        ≡ (unplaced_at read >>= with_last (parts_with header queries answers authorities (map unplaced_record xs)) p)
    go (Ok rr) h =
        ap (λ (y : Placed). let ok : Result Placed DecodeError = Ok y in ok)
        (chosen_last header queries answers authorities xs rr.0 p rr.1 _
        (record_stands rdata_table true m p rr.0 rr.1 h).0.start refl)
    go (Err e) h = refl

last_behind_all : (header : Header) (queries : List Query) (answers authorities : List ResourceRecord) (m : List ℕ)
    (read : Result (List ResourceRecord × ℕ) DecodeError) (n : ℕ) → header.additionals ≡ suc n
    → (((read >>= λ xs. record_at rdata_table true m xs.1 >>= with_more xs.0)
    >>= long_end header queries answers authorities) >>= view)
    ≡ (((read >>= all_shown unplaced_record) >>= short_end header queries answers authorities) >>= and_last m)
unfolding last_at
last_behind_all header queries answers authorities m (Ok xs) n is =
    last_of_all header queries answers authorities xs.0 m xs.1
    ∙ ap (λ k. last_at k m (parts_with header queries answers authorities (map unplaced_record xs.0)) xs.1) (sym is)
last_behind_all header queries answers authorities m (Err e) n is = refl

at_last : (header : Header) (queries : List Query) (answers authorities : List ResourceRecord) (n : ℕ) (m : List ℕ)
    (p : ℕ) → header.additionals ≡ n
    → ((additionals_at rdata_table n m p >>= long_end header queries answers authorities) >>= view)
    ≡ ((others_at (n - 1) m p >>= short_end header queries answers authorities) >>= and_last m)
unfolding additionals_at each_at last_at
at_last header queries answers authorities zero m p is =
    ap (λ k. last_at k m (parts_with header queries answers authorities []) p) (sym is)
at_last header queries answers authorities (suc n) m p is =
    let less : suc n - 1 ≡ n = omega arith in
    ap (λ r. (r >>= long_end header queries answers authorities) >>= view) (additionals_split rdata_table n m p)
    ∙ last_behind_all header queries answers authorities m (records_at rdata_table n m p) n is
    ∙ ap (λ r. (r >>= short_end header queries answers authorities) >>= and_last m)
    (sym (each_shown (record_at rdata_table false m) unplaced_record n p) ∙ ap (λ k. others_at k m p) (sym less))

-- ---- the whole

by_ahead : (m : List ℕ) → parts_at m ≡ (parts_ahead_at m >>= and_last m)
unfolding message_at body_at parts_ahead_at
by_ahead m =
    under (sized_header_at m) _ view _ (and_last m) (λ header.
    under (queries_at header.0.questions m header.1) _ view _ (and_last m) (λ queries.
    by_records header.0.answers m queries.1 _ view _ (and_last m) (λ answers a.
    by_records header.0.authorities m a _ view _ (and_last m) (λ authorities n.
    at_last header.0 queries.0 answers authorities header.0.additionals m n refl))))

pub ahead_fails : (m : List ℕ) (e : DecodeError) → parts_ahead_at m ≡ Err e → parts_at m ≡ Err e
ahead_fails m e ahead = by_ahead m ∙ ap (λ read. read >>= and_last m) ahead

by_count : (m : List ℕ) (parts : Parts) (n p : ℕ) → parts_ahead_at m ≡ Ok ((parts, n), p)
    → parts_at m ≡ last_at n m parts p
by_count m parts n p ahead = by_ahead m ∙ ap (λ read. read >>= and_last m) ahead

pub no_additional : (m : List ℕ) (parts : Parts) (n p : ℕ) → parts_ahead_at m ≡ Ok ((parts, n), p) → n ≡ 0
    → parts_at m ≡ Ok (parts, (None, p))
unfolding last_at
no_additional m parts n p ahead none = by_count m parts n p ahead ∙ ap (λ k. last_at k m parts p) none

some_at : (n : ℕ) (m : List ℕ) (parts : Parts) (p : ℕ) → n ≢ 0
    → last_at n m parts p ≡ (unplaced_at (record_at rdata_table true m p) >>= with_last parts p)
unfolding last_at
some_at zero m parts p some = absurd (some refl)
some_at (suc n) m parts p some = refl

by_last : (m : List ℕ) (parts : Parts) (n p : ℕ) → parts_ahead_at m ≡ Ok ((parts, n), p) → n ≢ 0
    → parts_at m ≡ (unplaced_at (record_at rdata_table true m p) >>= with_last parts p)
by_last m parts n p ahead some = by_count m parts n p ahead ∙ some_at n m parts p some

pub last_fails : (m : List ℕ) (parts : Parts) (n p : ℕ) (e : DecodeError)
    → parts_ahead_at m ≡ Ok ((parts, n), p) → n ≢ 0
    → unplaced_at (record_at rdata_table true m p) ≡ Err e → parts_at m ≡ Err e
last_fails m parts n p e ahead some last = by_last m parts n p ahead some ∙ ap (λ read. read >>= with_last parts p) last

placed_by : (parts : Parts) (p : ℕ) (rr : ResourceRecord) (q : ℕ) (b : Bool) → eqb rr.rtype tsig_type ≡ b
    → with_last parts p (rr, q) ≡ Ok (placed_last b parts p rr q)
placed_by parts p rr q b is = ap (λ t. let ok : Result Placed DecodeError = Ok (placed_last t parts p rr q) in ok) is

pub last_other : (m : List ℕ) (parts : Parts) (n p : ℕ) (rr : ResourceRecord) (q : ℕ)
    → parts_ahead_at m ≡ Ok ((parts, n), p) → n ≢ 0
    → unplaced_at (record_at rdata_table true m p) ≡ Ok (rr, q) → rr.rtype ≢ tsig_type
    → parts_at m ≡ Ok (record parts { additionals = parts.additionals ++ rr ∷ [] }, (None, q))
last_other m parts n p rr q ahead some last other =
    by_last m parts n p ahead some ∙ ap (λ read. read >>= with_last parts p) last
    ∙ placed_by parts p rr q false (ne_eqb rr.rtype tsig_type other)

pub last_signed : (m : List ℕ) (parts : Parts) (n p : ℕ) (rr : ResourceRecord) (q : ℕ)
    → parts_ahead_at m ≡ Ok ((parts, n), p) → n ≢ 0
    → unplaced_at (record_at rdata_table true m p) ≡ Ok (rr, q) → rr.rtype ≡ tsig_type
    → parts_at m ≡ Ok (record parts { signature = Some rr }, (Some p, q))
last_signed m parts n p rr q ahead some last tsig =
    by_last m parts n p ahead some ∙ ap (λ read. read >>= with_last parts p) last
    ∙ placed_by parts p rr q true (eq-eqb rr.rtype tsig_type tsig)

-- the same, want of memory aside
pub ahead_unread : (m : List ℕ) (e : DecodeError) → (e ≡ OutOfMemory) ⊎ (parts_ahead_at m ≡ Err e)
    → (e ≡ OutOfMemory) ⊎ (parts_at m ≡ Err e)
ahead_unread m e (inl memory) = inl memory
ahead_unread m e (inr ahead) = inr (ahead_fails m e ahead)

pub last_unread : (m : List ℕ) (parts : Parts) (n p : ℕ) (e : DecodeError)
    → parts_ahead_at m ≡ Ok ((parts, n), p) → n ≢ 0
    → (e ≡ OutOfMemory) ⊎ (unplaced_at (record_at rdata_table true m p) ≡ Err e)
    → (e ≡ OutOfMemory) ⊎ (parts_at m ≡ Err e)
last_unread m parts n p e ahead some (inl memory) = inl memory
last_unread m parts n p e ahead some (inr last) = inr (last_fails m parts n p e ahead some last)

pub ruleset exits = (ahead_fails, no_additional, last_fails, last_other, last_signed)
