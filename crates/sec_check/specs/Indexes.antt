-- Indexes: maps with several values under a key, and trusted entries by what a signature names of its key.
use Rattle.std.specs.Prelude.{◌≡◌, Bool, ◌&&◌, ℕ, ◌+◌, nat_eq, cond, List, [], ◌∷◌, map, slice_get, Option, Some, None}
use Rattle.std.specs.Prelude.{option_map, Result, Ok, Err}
use Rattle.std.specs.declared.cmp.Ordering.{Ordering}
use Rattle.std.specs.Ordering.{nat_cmp, ordering_then}
use Rattle.std.specs.BTreeMap.{BTreeMap, get}
use Rattle.std.specs.Global.{Vec}
use Rattle.dns_names.specs.Names.{name_cmp, same}
use Rattle.sec_codes.specs.Algorithms.{number}
use Rattle.sec_keydata.specs.declared.key_data_error.KeyDataError.{KeyDataError}
use Rattle.sec_keydata.specs.KeyTags.{dnskey_tag, is_tag}
use Rattle.sec_anchor.specs.Entries.{EntryData}
use Rattle.sec_sign.specs.declared.pair.PairVerdict.{PairVerdict}
use Rattle.sec_sign.specs.declared.pair.PairVerdict.TheVariants.{NotMet}
use Rattle.sec_sign.specs.Pairs.{SignatureRecord}
use Rattle.sec_check.specs.declared.key_lookup.KeyLookup.{KeyLookup}
use Rattle.sec_check.specs.Marks.{strongest}

-- ---- several values under a key

-- the items of a vector, of which there are none where there is no vector
abbrev pub items_of : {V : Type 0} → Option (Vec V) → List V
items_of None = []
items_of (Some vec) = vec.items

-- the values under a key, in the order in which they were put
abbrev pub values_at : {K V : Type 0} → (K → K → Ordering) → BTreeMap K (Vec V) → K → List V
values_at cmp by_key key = items_of (get cmp by_key key)

-- the positions of the elements that pass, the first being at n
abbrev pub positions_from : {X : Type 0} → ℕ → (X → Bool) → List X → List ℕ
positions_from n passes [] = []
positions_from n passes (x ∷ xs) =
    cond (passes x) (n ∷ positions_from (n + 1) passes xs) (positions_from (n + 1) passes xs)

-- ---- the names of keys

abbrev pub key_name_cmp : KeyLookup → KeyLookup → Ordering
key_name_cmp x y =
    ordering_then (nat_cmp x.key_tag y.key_tag)
    (ordering_then (nat_cmp x.algorithm y.algorithm)
    (ordering_then (nat_cmp x.dns_class y.dns_class) (name_cmp x.owner y.owner)))

-- the name of an entry's key, which has this tag
abbrev pub key_tagged : EntryData → Result ℕ KeyDataError → Option KeyLookup
key_tagged entry (Err _) = None
key_tagged entry (Ok tag) = Some record {
  key_tag = tag;
  algorithm = number entry.dnskey.public_key.algorithm;
  dns_class = entry.dns_class;
  owner = entry.name;
}

-- the name of an entry's key, which has none where it is too long to have a tag
abbrev pub name_of_key : EntryData → Option KeyLookup
name_of_key entry = key_tagged entry (dnskey_tag entry.dnskey)

-- the name of the key of a signature, if the record is one
abbrev pub name_in_rrsig : SignatureRecord → Option KeyLookup
name_in_rrsig signature = option_map (λ sig. record {
  key_tag = sig.input.key_tag;
  algorithm = number sig.input.algorithm;
  dns_class = signature.dns_class;
  owner = sig.input.signer_name;
}) signature.rrsig

-- whether a name is that of an entry's key
abbrev pub is_named : KeyLookup → EntryData → Bool
is_named name entry =
    nat_eq name.dns_class entry.dns_class
    && (nat_eq name.algorithm (number entry.dnskey.public_key.algorithm)
    && (same name.owner entry.name && is_tag (dnskey_tag entry.dnskey) name.key_tag))

-- an index has under each name the positions of the entries whose keys have it, in order
pub record IsIndex (index : BTreeMap KeyLookup (Vec ℕ)) (entries : List EntryData) : Type 0 where
  pub all : (q : KeyLookup) → values_at key_name_cmp index q ≡ positions_from 0 (is_named q) entries

-- what a contract sees of trusted entries that are held
pub record TrustedData : Type 0 where
  pub entries : List EntryData
  pub is_indexed : Bool

-- ---- verdicts by positions

-- the verdict on an element, if there is one
abbrev pub verdict_at : {X : Type 0} → (X → PairVerdict) → Option X → PairVerdict
verdict_at verdict None = NotMet
verdict_at verdict (Some x) = verdict x

-- the strongest verdict on the elements at these positions
abbrev pub strongest_at : {X : Type 0} → (X → PairVerdict) → List X → List ℕ → PairVerdict
strongest_at verdict xs positions = strongest (map (λ position. verdict_at verdict (slice_get xs position)) positions)
