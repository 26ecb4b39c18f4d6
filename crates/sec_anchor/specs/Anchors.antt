-- Trust anchors: keys at the root, and keys at other names.
use Rattle.std.specs.Prelude.{◌≡◌, ◌⊎◌, ℕ, List, [], ◌∷◌, ◌++◌, Bool, true, false, IsTrue, map, Result, Ok, Err}
use Rattle.dns_wire.specs.Reading.{◌>>=◌}
use Rattle.dns_wire.specs.declared.error.OutOfMemory.{OutOfMemory}
use Rattle.dns_names.specs.declared.lower_name.LowerName.{LowerName}
use Rattle.dns_names.specs.Names.{low, same}
use Rattle.sec_codes.specs.declared.key_error.KeyError.{KeyError}
use Rattle.sec_codes.specs.declared.public_key_buf.PublicKeyBuf.{PublicKeyBuf}
use Rattle.sec_codes.specs.KeyForms.{Key, key_form}
use Rattle.sec_codes.specs.KeptKeys.{kept_key}
use Rattle.sec_anchor.specs.declared.anchors.TrustAnchors.{TrustAnchors}
use Rattle.sec_anchor.specs.declared.parse_error.ParseError.{ParseError}
use Rattle.sec_anchor.specs.declared.parse_error.ParseError.TheVariants as errors
use Rattle.sec_anchor.specs.Entries.{EntryData, entries_of}

-- a key at a name
abbrev pub NamedKey : Type 0
NamedKey = List (List ℕ) × Key

-- what a contract sees of a key that is held at a name
abbrev pub held : LowerName × PublicKeyBuf → NamedKey
held entry = (entry.0, kept_key entry.1)

-- what a contract sees of trust anchors: the keys at the root, and those at other names, in order
pub record Anchors : Type 0 where
  pub root : List Key
  pub named : List NamedKey

abbrev pub anchors : TrustAnchors → Anchors
anchors all = record {
  root = map kept_key all.root_keys.items;
  named = map held all.named_keys.items;
}

-- no keys
abbrev pub no_anchors : Anchors
no_anchors = record { root = []; named = [] }

-- ---- which keys are there

-- the key is one of these
abbrev pub IsAmong : Key → List Key → Type 0
IsAmong key [] = ⊥
IsAmong key (kept ∷ others) = (kept ≡ key) ⊎ IsAmong key others

-- the key is one of these at the same name
abbrev pub IsNamed : List (List ℕ) → Key → List NamedKey → Type 0
IsNamed name key [] = ⊥
IsNamed name key (kept ∷ others) = (IsTrue (same kept.0 name) × (kept.1 ≡ key)) ⊎ IsNamed name key others

-- the key is trusted at the name; the root has a list of its own
abbrev pub IsTrusted : Anchors → List (List ℕ) → Key → Type 0
IsTrusted all [] key = IsAmong key all.root
IsTrusted all (label ∷ name) key = IsNamed (label ∷ name) key all.named

-- ---- keys added

-- the key behind the others of its name's list
abbrev pub add_key : Anchors → List (List ℕ) → Key → Anchors
add_key all [] key = record { root = all.root ++ key ∷ []; named = all.named }
add_key all (label ∷ name) key = record { root = all.root; named = all.named ++ (label ∷ name, key) ∷ [] }

-- A call added the key and answered true exactly where it was not trusted at the name; else nothing changed.
abbrev pub Inserts : Result Bool OutOfMemory → Anchors → Anchors → List (List ℕ) → Key → Type 0
Inserts (Ok true) old new name key = (IsTrusted old name key → ⊥) × (new ≡ add_key old name key)
Inserts (Ok false) old new name key = IsTrusted old name key × (new ≡ old)
Inserts (Err e) old new name key = new ≡ old

-- a call added the key, or refused and changed nothing
abbrev pub Pushes : Result Bool OutOfMemory → Anchors → Anchors → List (List ℕ) → Key → Type 0
Pushes (Ok added) old new name key = (added ≡ true) × (new ≡ add_key old name key)
Pushes (Err e) old new name key = new ≡ old

-- a call changed the keys to those given, or refused for the cause given
abbrev pub Adds : Result (Unit {0}) ParseError → Result Anchors ParseError → Anchors → Type 0
Adds (Ok _) given new = given ≡ Ok new
Adds (Err e) given new = (e ≡ errors.OutOfMemory) ⊎ (given ≡ Err e)

-- ---- texts

-- the cause where a key lacks its algorithm's form
abbrev pub as_key : {X : Type 0} → Result X KeyError → Result X ParseError
as_key (Ok form) = Ok form
as_key (Err e) = Err (errors.Key e)

-- The key of an entry goes to the list of its owner. Flags, class and TTL are dropped.
abbrev pub add_entry : Anchors → EntryData → Result Anchors ParseError
add_entry all entry = do
  _ ← as_key (key_form entry.dnskey.public_key.algorithm entry.dnskey.public_key.octets)
  Ok (add_key all (low entry.name) entry.dnskey.public_key)

-- the keys of entries, one behind the other, or the first cause; a key that is there already is added again
abbrev pub add_entries : Anchors → List EntryData → Result Anchors ParseError
add_entries all [] = Ok all
add_entries all (entry ∷ others) = do
  more ← add_entry all entry
  add_entries more others

-- the trust anchors of a text
abbrev pub anchors_of : List ℕ → Result Anchors ParseError
anchors_of text = entries_of text >>= add_entries no_anchors
