-- The positions of entries under the names of their keys, and the verdicts there.
use Rattle.std.proofs.Common.{◌≡◌, refl, sym, ap, ◌∙◌, Bool, true, false, ◌&&◌, if◌then◌else◌, ℕ, ◌+◌, ◌<◌, nat_eq}
use Rattle.std.proofs.Common.{List, [], ◌∷◌, ◌++◌, drop, length, map, slice_get, get_or, Option, Some, None}
use Rattle.std.proofs.Common.{Result, Ok, Err, arith, append_assoc, length-append}
use Rattle.std.proofs.lemmas.List.{drop_more}
use Rattle.std.proofs.lemmas.Option.{slice_get-map}
use Rattle.std.proofs.Math.Bool.{and-false}
use Rattle.std.specs.Ordering.{is_eq}
use Rattle.std.specs.Cmp.{unsigned_ties}
use Rattle.std.proofs.lemmas.Cmp.{nat_eq_equiv}
use Rattle.std.specs.BTreeMap.{BTreeMap}
use Rattle.std.specs.Global.{Vec}
use Rattle.dns_names.specs.Names.{same}
use Rattle.dns_names.specs.NameLaws.{same_ties}
use Rattle.sec_codes.specs.Algorithms.{number}
use Rattle.sec_keydata.specs.declared.key_data_error.KeyDataError.{KeyDataError}
use Rattle.sec_keydata.specs.KeyTags.{dnskey_tag, is_tag}
use Rattle.sec_anchor.specs.declared.entry.Entry.{Entry}
use Rattle.sec_anchor.specs.Entries.{EntryData, entry_data}
use Rattle.sec_sign.specs.declared.pair.PairVerdict.{PairVerdict}
use Rattle.sec_sign.specs.declared.pair.PairVerdict.TheVariants.{NotMet}
use Rattle.sec_check.specs.declared.key_lookup.KeyLookup.{KeyLookup}
use Rattle.sec_check.specs.Indexes.{is_named, key_name_cmp, key_tagged, name_of_key, positions_from, strongest_at}
use Rattle.sec_check.specs.Indexes.{values_at, verdict_at}
use Rattle.sec_check.specs.Marks.{stronger, strongest}
use Rattle.sec_check.proofs.Orders.{and_same, both_equal, same_equiv}
use Rattle.sec_check.proofs.Strongest.{stronger_assoc}

-- ---- equal names

in_order : (a b c d : Bool) → (d && (b && (a && c))) ≡ (a && (b && (c && d)))
in_order true true true true = refl
in_order true true true false = refl
in_order true true false true = refl
in_order true true false false = refl
in_order true false c true = refl
in_order true false c false = refl
in_order false true c true = refl
in_order false true c false = refl
in_order false false c true = refl
in_order false false c false = refl

-- whether a key has a name
abbrev has_name : KeyLookup → Option KeyLookup → Bool
has_name q None = false
has_name q (Some name) = is_eq (key_name_cmp name q)

names_equal : (name q : KeyLookup) → is_eq (key_name_cmp name q)
    ≡ (nat_eq q.dns_class name.dns_class
    && (nat_eq q.algorithm name.algorithm && (same q.owner name.owner && nat_eq name.key_tag q.key_tag)))
names_equal name q =
    both_equal _ _
    ∙ and_same _ _ _ _ (sym (unsigned_ties name.key_tag q.key_tag))
    (both_equal _ _
    ∙ and_same _ _ _ _ (sym (unsigned_ties name.algorithm q.algorithm) ∙ nat_eq_equiv.symm name.algorithm q.algorithm)
    (both_equal _ _
    ∙ and_same _ _ _ _ (sym (unsigned_ties name.dns_class q.dns_class) ∙ nat_eq_equiv.symm name.dns_class q.dns_class)
    (sym (same_ties name.owner q.owner) ∙ same_equiv.symm name.owner q.owner)))
    ∙ in_order (nat_eq q.dns_class name.dns_class) (nat_eq q.algorithm name.algorithm) (same q.owner name.owner)
    (nat_eq name.key_tag q.key_tag)

named : (q : KeyLookup) (entry : EntryData) → has_name q (name_of_key entry) ≡ is_named q entry
named q entry = at (dnskey_tag entry.dnskey)
  where
    at : (tag : Result ℕ KeyDataError) → has_name q (key_tagged entry tag)
        ≡ (nat_eq q.dns_class entry.dns_class
        && (nat_eq q.algorithm (number entry.dnskey.public_key.algorithm)
        && (same q.owner entry.name && is_tag tag q.key_tag)))
    at (Ok tag) = names_equal record {
      key_tag = tag;
      algorithm = number entry.dnskey.public_key.algorithm;
      dns_class = entry.dns_class;
      owner = entry.name;
    } q
    at (Err cause) = nowhere (nat_eq q.dns_class entry.dns_class)
        (nat_eq q.algorithm (number entry.dnskey.public_key.algorithm)) (same q.owner entry.name)
      where
        nowhere : (a b c : Bool) → false ≡ (a && (b && (c && false)))
        nowhere a b c = rw (and-false c, and-false b, and-false a) refl

-- ---- one more entry

-- the positions found so far, before those of the entries from the i-th on, are those of all
pub record HasFound (index : BTreeMap KeyLookup (Vec ℕ)) (i : ℕ) (entries : List Entry) : Type 0 where
  pub all : (q : KeyLookup) → values_at key_name_cmp index q
      ++ positions_from i (is_named q) (map entry_data (drop i entries))
      ≡ positions_from 0 (is_named q) (map entry_data entries)

pub found_none : (entries : List Entry) (index : BTreeMap KeyLookup (Vec ℕ))
    → ((q : KeyLookup) → values_at key_name_cmp index q ≡ []) → HasFound index 0 entries
found_none entries index none = record {
  all = λ q. ap (λ (vs : List ℕ). vs ++ positions_from 0 (is_named q) (map entry_data entries)) (none q);
}

one_more : {X : Type 0} (passes : X → Bool) (x : X) (xs : List X) (i : ℕ) (before : List ℕ) (b : Bool) → passes x ≡ b
    → (if b then before ++ i ∷ [] else before) ++ positions_from (i + 1) passes xs
    ≡ before ++ positions_from i passes (x ∷ xs)
one_more passes x xs i before true h = rw h (append_assoc before (i ∷ []) (positions_from (i + 1) passes xs))
one_more passes x xs i before false h = rw h refl

module _ (entries : List Entry) (i : ℕ) (within : i < length entries) (entry : Entry)
    (is_entry : entry ≡ get_or entries i entry) (old : BTreeMap KeyLookup (Vec ℕ)) (found : HasFound old i entries) where
  -- the same by the entry at the position, which may have the name
  by_entry : (q : KeyLookup) (b : Bool) → is_named q (entry_data entry) ≡ b
      → (if b then values_at key_name_cmp old q ++ i ∷ [] else values_at key_name_cmp old q)
      ++ positions_from (i + 1) (is_named q) (map entry_data (drop (i + 1) entries))
      ≡ positions_from 0 (is_named q) (map entry_data entries)
  by_entry q b h =
      one_more (is_named q) (entry_data entry) (map entry_data (drop (i + 1) entries)) i
      (values_at key_name_cmp old q) b h
      ∙ ap (λ (es : List Entry). values_at key_name_cmp old q ++ positions_from i (is_named q) (map entry_data es))
      (sym (drop_more entries i entry within ∙ ap (λ (e : Entry). e ∷ drop (i + 1) entries) (sym is_entry)))
      ∙ found.all q

  pub found_unnamed : name_of_key (entry_data entry) ≡ None → HasFound old (i + 1) entries
  found_unnamed unnamed = record {
    all = λ q. by_entry q false (sym (named q (entry_data entry)) ∙ ap (has_name q) unnamed);
  }

  pub found_named : (name : KeyLookup) → name_of_key (entry_data entry) ≡ Some name → (new : BTreeMap KeyLookup (Vec ℕ))
      → ((q : KeyLookup) → values_at key_name_cmp new q
      ≡ (if is_eq (key_name_cmp name q) then values_at key_name_cmp old q ++ i ∷ [] else values_at key_name_cmp old q))
      → HasFound new (i + 1) entries
  found_named name is_name new puts = record {
    all = λ q. ap (λ (vs : List ℕ). vs ++ positions_from (i + 1) (is_named q) (map entry_data (drop (i + 1) entries)))
        (puts q)
        ∙ by_entry q (is_eq (key_name_cmp name q)) (sym (named q (entry_data entry)) ∙ ap (has_name q) is_name);
  }

-- ---- verdicts

module _ {X : Type 0} (verdict : X → PairVerdict) where
  pub strongest_more : (xs : List X) (positions : List ℕ) (i : ℕ) → i < length positions → (found next : PairVerdict)
      → next ≡ verdict_at verdict (slice_get xs (get_or positions i 0))
      → stronger (stronger found next) (strongest_at verdict xs (drop (i + 1) positions))
      ≡ stronger found (strongest_at verdict xs (drop i positions))
  strongest_more xs positions i within found next is_next =
      stronger_assoc found next (strongest_at verdict xs (drop (i + 1) positions))
      ∙ ap (λ (v : PairVerdict). stronger found (stronger v (strongest_at verdict xs (drop (i + 1) positions)))) is_next
      ∙ ap (λ (ps : List ℕ). stronger found (strongest_at verdict xs ps)) (sym (drop_more positions i 0 within))

  get_behind : (ys : List X) (x : X) (xs : List X) → slice_get (ys ++ x ∷ xs) (length ys) ≡ Some x
  get_behind [] x xs = refl
  get_behind (y ∷ ys) x xs = get_behind ys x xs

  -- Only the elements that pass count, where the others give NotMet.
  module _ (passes : X → Bool) (others : (x : X) → passes x ≡ false → verdict x ≡ NotMet) where
    strongest_behind : (ys xs : List X) (n : ℕ) → n ≡ length ys
        → strongest_at verdict (ys ++ xs) (positions_from n passes xs) ≡ strongest (map verdict xs)
    strongest_behind ys [] n e = refl
    strongest_behind ys (x ∷ xs) n e = at (passes x) refl
        (ap (λ (zs : List X). strongest_at verdict zs (positions_from (n + 1) passes xs))
        (sym (append_assoc ys (x ∷ []) xs))
        ∙ strongest_behind (ys ++ x ∷ []) xs (n + 1) (omega (arith, length-append ys (x ∷ []))))
      where
        at : (b : Bool) → passes x ≡ b
            → strongest_at verdict (ys ++ x ∷ xs) (positions_from (n + 1) passes xs) ≡ strongest (map verdict xs)
            → strongest_at verdict (ys ++ x ∷ xs) (positions_from n passes (x ∷ xs)) ≡ strongest (map verdict (x ∷ xs))
        at true h later = rw (h, e, get_behind ys x xs) (ap (stronger (verdict x)) (rw (sym e) later))
        at false h later = rw (h, others x h) later

    pub strongest_positions : (xs : List X)
        → strongest_at verdict xs (positions_from 0 passes xs) ≡ strongest (map verdict xs)
    strongest_positions xs = strongest_behind [] xs 0 refl

-- what a position of an entry finds
pub ruleset at_position = slice_get-map
