-- A reader that answers what the reading function gives reads its set.
use Rattle.std.proofs.Common.{◌≡◌, ℕ, ◌+◌, ◌≤◌, Bool, true, false, cond, ltb, List, length, slice_range}
use Rattle.std.proofs.Common.{Result, Ok, Err, refl, sym, ap, subst, ◌∙◌}
use Rattle.std.proofs.lemmas.Bool.{ltb-false, le-ltb}
use Rattle.dns_wire.specs.declared.decoder.BinDecoder.{BinDecoder}
use Rattle.dns_wire.specs.declared.error.DecodeError.{DecodeError}
use Rattle.dns_wire.specs.declared.error.DecodeError.TheVariants.{BitmapMalformed, InsufficientBytes}
use Rattle.dns_wire.specs.Reading.{octets, place, ReadsUnless}
use Rattle.dns_wire.proofs.FieldLaws.{passed}
use Rattle.dns_types.specs.TypeSets.{IsBitmap, is_bitmap, TypesAt, types_at, type_set_at}
use Rattle.dns_types.specs.TypeReaders.{ReadsTypes}
use Rattle.dns_types.proofs.TypeLaws.{bitmap_stands}
use Rattle.dns_types.proofs.ReaderLaws.{IsRead, found_by, only_by}

types_stand : (m : List ℕ) (p e : ℕ) (set : List ℕ) (q : ℕ) → types_at m p e ≡ Ok (set, q) → TypesAt m p e set q
types_stand m p e set q h =
    let t = passed (is_bitmap (slice_range m p e)) BitmapMalformed (slice_range m p e, e) (set, q) h in
    let same : slice_range m p e ≡ set = ap (λ (y : List ℕ × ℕ). y.0) t.1 in (
      sym same,
      subst IsBitmap same ((bitmap_stands (slice_range m p e)).0 t.0),
      sym (ap (λ (y : List ℕ × ℕ). y.1) t.1),
    )

types_read : (m : List ℕ) (p e : ℕ) (set : List ℕ) (q : ℕ) → TypesAt m p e set q → types_at m p e ≡ Ok (set, q)
types_read m p e set q s =
    let bitmap : is_bitmap (slice_range m p e) ≡ true = (bitmap_stands (slice_range m p e)).1 (subst IsBitmap s.0 s.1) in
    ap (λ b. let o : Result (List ℕ × ℕ) DecodeError = cond b (Ok (slice_range m p e, e)) (Err BitmapMalformed) in o)
    bitmap ∙ (λ i. Ok (sym s.0 i, sym s.2 i))

-- a set is read up to e exactly where it stands
pub types_are_read : (m : List ℕ) (p e : ℕ) → IsRead (TypesAt m p e) (types_at m p e)
types_are_read m p e set q = (types_stand m p e set q, types_read m p e set q)

-- a set stands in the len octets from p
abbrev SetAt : List ℕ → ℕ → ℕ → List ℕ → ℕ → Type 0
SetAt m p len set q = (p + len ≤ length m) × TypesAt m p (p + len) set q

set_stands : (m : List ℕ) (p len : ℕ) (set : List ℕ) (q : ℕ) → type_set_at m p len ≡ Ok (set, q) → SetAt m p len set q
set_stands m p len set q h = by_test (ltb (length m) (p + len)) refl h
  where
    by_test : (b : Bool) → ltb (length m) (p + len) ≡ b
        → cond b (Err InsufficientBytes) (types_at m p (p + len)) ≡ Ok (set, q) → SetAt m p len set q
    by_test true is h = absurd cc
    by_test false is h = (ltb-false (length m) (p + len) is, types_stand m p (p + len) set q h)

set_read : (m : List ℕ) (p len : ℕ) (set : List ℕ) (q : ℕ) → SetAt m p len set q → type_set_at m p len ≡ Ok (set, q)
set_read m p len set q s =
    ap (λ b. let o : Result (List ℕ × ℕ) DecodeError = cond b (Err InsufficientBytes) (types_at m p (p + len)) in o)
    (le-ltb (length m) (p + len) s.0) ∙ types_read m p (p + len) set q s.1

-- a set of this length is read exactly where it stands
pub set_is_read : (m : List ℕ) (p len : ℕ) → IsRead (SetAt m p len) (type_set_at m p len)
set_is_read m p len set q = (set_stands m p len set q, set_read m p len set q)

pub reads_types : (len : ℕ) (old new : BinDecoder) (result : Result (List ℕ) DecodeError)
    → ReadsUnless (λ set. set) result old new (type_set_at (octets old) (place old) len)
    → ReadsTypes len old new result
reads_types len old new result read = record {
  exact = read;
  found = found_by (SetAt (octets old) (place old) len) (λ set. set) result old new _
      (set_is_read (octets old) (place old) len) read;
  only = λ set q within stands. only_by (SetAt (octets old) (place old) len) (λ set. set) result old new _
      (set_is_read (octets old) (place old) len) read set q (within, stands);
}
