-- The record sets of a section of a message (RFC 2181 5).
use Rattle.std.specs.Prelude.{Bool, ℕ, nat_eq, not, ◌&&◌, cond, List, [], ◌∷◌, ◌++◌, map}
use Rattle.std.specs.List.{filter, list_any}
use Rattle.dns_types.specs.TypeNumbers as types
use Rattle.dns_grammar.specs.Messages.{ResourceRecord}
use Rattle.sec_sign.specs.Sets.{SetName, same_set, set_of}

-- whether records of a type form sets here: all but signatures (RFC 2931, RFC 4034 3, RFC 8945) and OPT (RFC 6891 6.1)
abbrev pub forms_rrset : ℕ → Bool
forms_rrset rtype =
    not (nat_eq rtype types.SIG)
    && not (nat_eq rtype types.OPT)
    && not (nat_eq rtype types.RRSIG)
    && not (nat_eq rtype types.TSIG)

-- the sets of the records that form sets, one for each record
abbrev pub listed : List ResourceRecord → List SetName
listed records = map set_of (filter (λ rr. forms_rrset rr.rtype) records)

-- the first of each kind, in order: each element takes those of its kind out of what follows
abbrev pub firsts : {X : Type 0} → (X → X → Bool) → List X → List X
firsts alike [] = []
firsts alike (x ∷ xs) = x ∷ filter (λ y. not (alike x y)) (firsts alike xs)

-- the record sets of a section, in order of first record, the owner spelled as there
abbrev pub record_sets : List ResourceRecord → List SetName
record_sets records = firsts same_set (listed records)

-- ---- how they are found

-- a list that takes x where none of its kind is there
abbrev pub with_new : {X : Type 0} → (X → X → Bool) → List X → X → List X
with_new alike xs x = cond (list_any (alike x) xs) xs (xs ++ x ∷ [])
