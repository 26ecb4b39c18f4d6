-- The answers of a message by the places where they stand.
use Rattle.std.proofs.Common.{◌≡◌, ℕ, ◌+◌, ◌<◌, List, [], ◌∷◌, ◌++◌, length, map, take, drop, get_or}
use Rattle.std.proofs.Common.{Result, Ok, Err, refl, sym, ap, ◌∙◌, arith}
use Rattle.std.proofs.lemmas.List.{get_or-map, get_or_append_left, length-append, length-map}
use Rattle.std.specs.List.{flat_map}
use Rattle.dns_wire.specs.declared.error.DecodeError.{DecodeError}
use Rattle.dns_grammar.specs.Messages.{Message, ResourceRecord, message_at}
use Rattle.dns_grammar.specs.Laws.{unplaced_record}
use Rattle.dns_rdata.specs.RDataTable.{rdata_table}
use Rattle.dns_rdata.specs.declared.rdata.RData.{RData}
use Rattle.dns_message.specs.declared.record.Record.{Record}
use Rattle.dns_message.specs.Parts.{record_view}
use Rattle.dns_message.specs.declared.section.Section.TheVariants as sections
use Rattle.message_walk.specs.declared.record_place.RecordPlace.{RecordPlace}
use Rattle.message_walk.specs.Places.{message_places, place_of, section_places}
use Rattle.dnsrows.specs.Covering.{placed_line}
use Rattle.dnsrows.specs.Messages.{AreAnswersOf}
use Rattle.dnsrows.proofs.ListSteps.{gathered_more, split}

-- ---- the walk over the answers

abbrev Read : Type 0
Read = Result (Message × ℕ) DecodeError

abbrev pub answers_in : Read → List ResourceRecord
answers_in (Ok read) = read.0.answers
answers_in (Err _) = []

abbrev pub places_in : List ℕ → Read → List RecordPlace
places_in m (Ok read) = message_places m read.0
places_in m (Err _) = []

-- the places of the first answers were gone through, and their lines were made
pub record HasPlaced (m : List ℕ) (i : ℕ) (left : List RecordPlace) (lines : List (List ℕ)) : Type 0 where
  pub places : left ≡ drop i (places_in m (message_at rdata_table m))
  pub made : lines ≡ flat_map (placed_line m) (take i (answers_in (message_at rdata_table m)))

-- ---- one answer

module _ (m : List ℕ) (message : Message) (end : ℕ) (answers : List (Record RData)) (i : ℕ) (d rr : Record RData)
    (are : map record_view answers ≡ map unplaced_record message.answers) (lt : i < length answers)
    (is : get_or answers i d ≡ rr) where
  -- the record that stands there
  abbrev here : ResourceRecord
  here = get_or message.answers i (record_view d)

  long : i < length message.answers
  long = omega (
    arith,
    lt,
    length-map answers record_view,
    length-map message.answers unplaced_record,
    ap (λ (l : List ResourceRecord). length l) are,
  )

  same_values : record_view rr ≡ unplaced_record here
  same_values = ap record_view (sym is)
      ∙ sym (get_or-map record_view answers i d (record_view d) lt)
      ∙ ap (λ (l : List ResourceRecord). get_or l i (record_view d)) are
      ∙ get_or-map unplaced_record message.answers i (record_view d) (record_view d) long

  abbrev place_here : RecordPlace
  place_here = place_of m sections.Answer here

  abbrev places : List RecordPlace
  places = message_places m message

  abbrev first_places : List RecordPlace
  first_places = section_places m message sections.Answer

  abbrev other_places : List RecordPlace
  other_places = section_places m message sections.Authority ++ section_places m message sections.Additional

  first_long : i < length first_places
  first_long = omega (arith, long, length-map message.answers (place_of m sections.Answer))

  all_long : i < length places
  all_long = omega (arith, first_long, length-append first_places other_places)

  found_here : get_or places i place_here ≡ place_here
  found_here = get_or_append_left first_places other_places place_here i first_long
      ∙ get_or-map (place_of m sections.Answer) message.answers i (record_view d) place_here long

  parted : drop i places ≡ place_here ∷ drop (i + 1) places
  parted = split places i place_here place_here all_long found_here

  pub one_placed : (place : RecordPlace) (left after : List RecordPlace) (lines new : List (List ℕ))
      → left ≡ place ∷ after → left ≡ drop i places → lines ≡ flat_map (placed_line m) (take i message.answers)
      → new ≡ lines ++ placed_line m (record (record_view rr) { start = place.start })
      → (after ≡ drop (i + 1) places) × (new ≡ flat_map (placed_line m) (take (i + 1) message.answers))
  one_placed place left after lines new first stands has made =
      let both : place ∷ after ≡ place_here ∷ drop (i + 1) places = sym first ∙ stands ∙ parted in
      let same_place : place ≡ place_here = ap (λ (l : List RecordPlace). get_or l 0 place) both in
      let same_after : after ≡ drop (i + 1) places = ap (λ (l : List RecordPlace). drop 1 l) both in
      let same_record : record (record_view rr) { start = place.start } ≡ here =
      (λ j. record (same_values j) { start = (same_place j).start }) in (
        same_after,
        gathered_more (placed_line m) message.answers i (record_view d) here lines new long refl
            (made ∙ ap (λ (x : ResourceRecord). lines ++ placed_line m x) same_record) has,
      )

  pub one_left : (left : List RecordPlace) → left ≡ [] → left ≡ drop i places → ⊥
  one_left left none stands = no (sym none ∙ stands ∙ parted)
    where
      no : [] ≡ place_here ∷ drop (i + 1) places → ⊥
      no e = absurd cc

module _ (m : List ℕ) (answers : List (Record RData)) (i : ℕ) (d rr : Record RData) (lt : i < length answers)
    (is : get_or answers i d ≡ rr) where
  step : (read : Read) → AreAnswersOf read (map record_view answers) → (place : RecordPlace)
      (left after : List RecordPlace) (lines new : List (List ℕ)) → left ≡ place ∷ after → left ≡ drop i (places_in m read)
      → lines ≡ flat_map (placed_line m) (take i (answers_in read))
      → new ≡ lines ++ placed_line m (record (record_view rr) { start = place.start })
      → (after ≡ drop (i + 1) (places_in m read)) × (new ≡ flat_map (placed_line m) (take (i + 1) (answers_in read)))
  step (Ok read) are place left after lines new first stands has made =
      one_placed m read.0 read.1 answers i d rr are lt is place left after lines new first stands has made
  step (Err fault) are place left after lines new first stands has made = absurd are

  -- one answer more
  pub placed_one : AreAnswersOf (message_at rdata_table m) (map record_view answers) → (place : RecordPlace)
      (left after : List RecordPlace) (lines new : List (List ℕ)) → left ≡ place ∷ after → HasPlaced m i left lines
      → new ≡ lines ++ placed_line m (record (record_view rr) { start = place.start })
      → HasPlaced m (i + 1) after new
  placed_one are place left after lines new first has made =
      let both = step (message_at rdata_table m) are place left after lines new first has.places has.made made in
      record { places = both.0; made = both.1 }

  never : (read : Read) → AreAnswersOf read (map record_view answers) → (left : List RecordPlace) → left ≡ []
      → left ≡ drop i (places_in m read) → ⊥
  never (Ok read) are left none stands = one_left m read.0 read.1 answers i d rr are lt is left none stands
  never (Err fault) are left none stands = are

  -- there is a place for each answer
  pub placed_left : AreAnswersOf (message_at rdata_table m) (map record_view answers) → (left : List RecordPlace)
      (lines : List (List ℕ)) → left ≡ [] → HasPlaced m i left lines → ⊥
  placed_left are left lines none has = never (message_at rdata_table m) are left none has.places
