-- The parts of a message, and the message of these parts.
use Rattle.std.proofs.Common.{◌≡◌, Bool, true, false, cond, eqb, List, [], ◌∷◌, ◌++◌, length, map, Option, Some, None}
use Rattle.std.proofs.Common.{option_map, option_and_then, refl, sym, ap, ◌∙◌}
use Rattle.std.proofs.lemmas.List.{map-append, length-map}
use Rattle.dns_grammar.specs.RecordData.{tsig_type}
use Rattle.dns_grammar.specs.Laws.{unplaced_record, unplaced}
use Rattle.dns_grammar.specs.Messages.{ResourceRecord, Message, IsCounted, last_of, before_last}
use Rattle.dns_message.specs.Parts.{if_tsig, last_tsig, before_tsig, parts_of, and_last, whole}

-- ---- lists

last_is : {A : Type 0} (xs : List A) (x : A) → last_of xs ≡ Some x → before_last xs ++ x ∷ [] ≡ xs
last_is [] x e = absurd cc
last_is (y ∷ []) x e = let same : y ≡ x = cc in ap (λ z. z ∷ []) (sym same)
last_is (y ∷ z ∷ ys) x e = ap (λ l. y ∷ l) (last_is (z ∷ ys) x e)

last_of-map : {A B : Type 0} (f : A → B) (xs : List A) → last_of (map f xs) ≡ option_map f (last_of xs)
last_of-map f [] = refl
last_of-map f (x ∷ []) = refl
last_of-map f (x ∷ y ∷ xs) = last_of-map f (y ∷ xs)

before_last-map : {A B : Type 0} (f : A → B) (xs : List A) → before_last (map f xs) ≡ map f (before_last xs)
before_last-map f [] = refl
before_last-map f (x ∷ []) = refl
before_last-map f (x ∷ y ∷ xs) = ap (λ l. f x ∷ l) (before_last-map f (y ∷ xs))

unplaced_twice : (xs : List ResourceRecord) → map unplaced_record (map unplaced_record xs) ≡ map unplaced_record xs
unplaced_twice [] = refl
unplaced_twice (x ∷ xs) = ap (λ l. unplaced_record x ∷ l) (unplaced_twice xs)

-- ---- the signature

-- what is split off is put back
put_back : (xs : List ResourceRecord) → and_last (map unplaced_record (before_tsig xs))
    (option_map unplaced_record (last_tsig xs)) ≡ map unplaced_record xs
put_back xs = by_last (last_of xs) refl
  where
    by_type : (rr : ResourceRecord) (b : Bool) → last_of xs ≡ Some rr → eqb rr.rtype tsig_type ≡ b
        → and_last (map unplaced_record (before_tsig xs)) (option_map unplaced_record (last_tsig xs))
        ≡ map unplaced_record xs
    by_type rr true last is =
        let tsig : last_tsig xs ≡ Some rr = rw (last, is) refl in
        rw tsig (sym (map-append unplaced_record (before_last xs) (rr ∷ []))
        ∙ ap (map unplaced_record) (last_is xs rr last))
    by_type rr false last is = let none : last_tsig xs ≡ None = rw (last, is) refl in rw none refl

    by_last : (o : Option ResourceRecord) → last_of xs ≡ o
        → and_last (map unplaced_record (before_tsig xs)) (option_map unplaced_record (last_tsig xs))
        ≡ map unplaced_record xs
    by_last None last = let none : last_tsig xs ≡ None = rw last refl in rw none refl
    by_last (Some rr) last = by_type rr (eqb rr.rtype tsig_type) last refl

if_tsig_unplaced : (o : Option ResourceRecord) → option_and_then if_tsig (option_map unplaced_record o)
    ≡ option_map unplaced_record (option_and_then if_tsig o)
if_tsig_unplaced None = refl
if_tsig_unplaced (Some rr) = go (eqb rr.rtype tsig_type)
  where
    go : (b : Bool) → cond b (Some (unplaced_record rr)) None ≡ option_map unplaced_record (cond b (Some rr) None)
    go true = refl
    go false = refl

last_tsig_unplaced : (xs : List ResourceRecord)
    → last_tsig (map unplaced_record xs) ≡ option_map unplaced_record (last_tsig xs)
last_tsig_unplaced xs = ap (option_and_then if_tsig) (last_of-map unplaced_record xs) ∙ if_tsig_unplaced (last_of xs)

before_tsig_unplaced : (xs : List ResourceRecord)
    → before_tsig (map unplaced_record xs) ≡ map unplaced_record (before_tsig xs)
before_tsig_unplaced xs = go (last_tsig xs) refl
  where
    go : (o : Option ResourceRecord) → last_tsig xs ≡ o
        → before_tsig (map unplaced_record xs) ≡ map unplaced_record (before_tsig xs)
    go None is =
        let none : last_tsig (map unplaced_record xs) ≡ None =
        last_tsig_unplaced xs ∙ ap (option_map unplaced_record) is in
        rw (none, is) refl
    go (Some rr) is =
        let some : last_tsig (map unplaced_record xs) ≡ Some (unplaced_record rr) =
        last_tsig_unplaced xs ∙ ap (option_map unplaced_record) is in
        rw (some, is) (before_last-map unplaced_record xs)

-- ---- messages

-- the places where records start are no part of the parts
pub parts_unplaced : (message : Message) → parts_of (unplaced message) ≡ parts_of message
parts_unplaced message = λ i.
    record {
      id = message.header.id;
      flags = message.header.flags;
      queries = message.queries;
      answers = unplaced_twice message.answers i;
      authorities = unplaced_twice message.authorities i;
      additionals = additionals i;
      signature = signature i;
    }
  where
    additionals : map unplaced_record (before_tsig (map unplaced_record message.additionals))
        ≡ map unplaced_record (before_tsig message.additionals)
    additionals = ap (map unplaced_record) (before_tsig_unplaced message.additionals)
        ∙ unplaced_twice (before_tsig message.additionals)

    signature : option_map unplaced_record (last_tsig (map unplaced_record message.additionals))
        ≡ option_map unplaced_record (last_tsig message.additionals)
    signature = ap (option_map unplaced_record) (last_tsig_unplaced message.additionals)
        ∙ again (last_tsig message.additionals)
      where
        again : (o : Option ResourceRecord) → option_map unplaced_record (option_map unplaced_record o)
            ≡ option_map unplaced_record o
        again None = refl
        again (Some rr) = refl

-- the parts of a message make the message again
pub whole_of_parts : (message : Message) → IsCounted message → whole (parts_of message) ≡ unplaced message
whole_of_parts message counts = λ i.
    record {
      header =
          record {
            id = message.header.id;
            flags = message.header.flags;
            questions = counts.questions i;
            answers = answers i;
            authorities = authorities i;
            additionals = additionals i;
          };
      queries = message.queries;
      answers = map unplaced_record message.answers;
      authorities = map unplaced_record message.authorities;
      additionals = put_back message.additionals i;
    }
  where
    answers : length (map unplaced_record message.answers) ≡ message.header.answers
    answers = length-map message.answers unplaced_record ∙ counts.answers

    authorities : length (map unplaced_record message.authorities) ≡ message.header.authorities
    authorities = length-map message.authorities unplaced_record ∙ counts.authorities

    additionals : length (and_last (map unplaced_record (before_tsig message.additionals))
        (option_map unplaced_record (last_tsig message.additionals))) ≡ message.header.additionals
    additionals = ap (λ (l : List ResourceRecord). length l) (put_back message.additionals)
        ∙ length-map message.additionals unplaced_record ∙ counts.additionals
