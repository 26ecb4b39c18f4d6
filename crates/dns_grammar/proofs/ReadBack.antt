-- What is written of values is read as these values.
use Rattle.std.proofs.Common.{◌≡◌, ℕ, zero, suc, ◌+◌, ◌-◌, ◌*◌, ◌/◌, ◌%◌, ◌^◌, ◌≤◌, ◌<◌, Bool, true, false, not, ◌&&◌}
use Rattle.std.proofs.Common.{cond, leb, eqb, ltb, List, [], ◌∷◌, ◌++◌, length, take, drop, None, Result, Ok, Err, refl}
use Rattle.std.proofs.Common.{sym, ap, subst, ◌∙◌, arith, length-append, append_assoc, eq-eqb}
use Rattle.std.proofs.lemmas.List.{take_at, drop_at, append-nil}
use Rattle.std.proofs.lemmas.Bool.{le-leb, ltb-true}
use Rattle.std.proofs.lemmas.Nat.{from_be_bytes-to_be_bytes_2, from_be_bytes-to_be_bytes_4}
use Rattle.std.specs.Int.{w8, w16, w32, byte_len, to_be_bytes, from_be_bytes}
use Rattle.dns_wire.specs.declared.error.DecodeError.{DecodeError}
use Rattle.dns_wire.specs.declared.error.EmitError.{EmitError}
use Rattle.dns_wire.specs.declared.error.EmitError.TheVariants.{StringTooLong}
use Rattle.dns_wire.specs.Reading.{◌>>=◌, octets_at, number_at, time_at, counted_at}
use Rattle.dns_names.specs.Names.{IsName, wire}
use Rattle.dns_names.specs.Places.{name_at}
use Rattle.dns_names.proofs.PlaceLaws.{name_at_complete}
use Rattle.dns_names.proofs.Written.{written_name}
use Rattle.dns_grammar.specs.Fields.{Size, One, Two, Four, width, limit, Kind, Number, Time, Fixed, Counted, Strings}
use Rattle.dns_grammar.specs.Fields.{Rest, LoweredName, KeptName, Value, Num, Str, Strs, Named, Field, value_at, fields_at}
use Rattle.dns_wire.specs.Joining.{joined}
use Rattle.dns_grammar.specs.Fields.{counted_octets, strings_octets, strings_at, value_octets, fields_octets}
use Rattle.dns_grammar.specs.RecordData.{fields_filling}
use Rattle.dns_wire.specs.Octets.{six_octets}
use Rattle.dns_grammar.specs.Laws.{Holds, HoldsAll, takes_rest, rest_is_last}
use Rattle.dns_grammar.proofs.FieldLaws.{strings_end, strings_more}

-- n octets x that stand at the end of front are read there
pub octets_back : (front x back : List ℕ) (e : ℕ) → length front + length x ≤ e
    → octets_at (length x) (front ++ (x ++ back)) (length front) e ≡ Ok (x, length front + length x)
unfolding octets_at
octets_back front x back e le =
    let fits : leb (length front + length x) e ≡ true = le-leb _ _ le in
    let from : drop (length front) (front ++ (x ++ back)) ≡ x ++ back = drop_at front (x ++ back) (length front) refl in
    let front_is : take (length x) (drop (length front) (front ++ (x ++ back))) ≡ x = ap (take (length x)) from
    ∙ take_at x back (length x) refl in
    rw (fits, front_is) refl

number_bytes : (size : Size) (n : ℕ) → n < limit size → from_be_bytes (width size) (to_be_bytes (width size) n) ≡ n
number_bytes One n lt = grind arith
number_bytes Two n lt = from_be_bytes-to_be_bytes_2 n lt
number_bytes Four n lt = from_be_bytes-to_be_bytes_4 n lt

number_len : (size : Size) (n : ℕ) → length (to_be_bytes (width size) n) ≡ byte_len (width size)
number_len One n = refl
number_len Two n = refl
number_len Four n = refl

pub number_back : (size : Size) (n : ℕ) (front back : List ℕ) (e : ℕ) → n < limit size
    → length front + length (to_be_bytes (width size) n) ≤ e
    → number_at (width size) (front ++ (to_be_bytes (width size) n ++ back)) (length front) e
    ≡ Ok (n, length front + length (to_be_bytes (width size) n))
unfolding number_at
number_back size n front back e lt le =
    let read = octets_back front (to_be_bytes (width size) n) back e le in
    let len : byte_len (width size) ≡ length (to_be_bytes (width size) n) = sym (number_len size n) in
    ap (λ k. octets_at k (front ++ (to_be_bytes (width size) n ++ back)) (length front) e >>= value) len
    ∙ ap (λ r. r >>= value) read ∙ ap
    (λ k. let ok : Result (ℕ × ℕ) DecodeError = Ok (k, length front + length (to_be_bytes (width size) n)) in ok)
    (number_bytes size n lt)
  where
    value : List ℕ × ℕ → Result (ℕ × ℕ) DecodeError
    value octets = Ok (from_be_bytes (width size) octets.0, octets.1)

-- octets behind their count
abbrev pub with_count : Size → List ℕ → List ℕ
with_count size x = to_be_bytes (width size) (length x) ++ x

pub counted_back : (size : Size) (x front back : List ℕ) (e : ℕ) → length x < limit size
    → length front + length (with_count size x) ≤ e
    → counted_at (width size) (front ++ (with_count size x ++ back)) (length front) e
    ≡ Ok (x, length front + length (with_count size x))
unfolding counted_at
counted_back size x front back e lt le =
    let n = to_be_bytes (width size) (length x) in
    let front1 : List ℕ = front ++ n in
    let long : length (with_count size x) ≡ length n + length x = length-append n x in
    let long1 : length front1 ≡ length front + length n = length-append front n in
    let fits : length front + length n ≤ e = omega (arith, le, long) in
    let fits1 : length front1 + length x ≤ e = omega (arith, le, long, long1) in
    let end : length front1 + length x ≡ length front + length (with_count size x) = omega (arith, long, long1) in
    let as_number : front ++ (with_count size x ++ back)
    ≡ front ++ (n ++ (x ++ back)) = ap (λ (t : List ℕ). front ++ t) (append_assoc n x back) in
    let as_octets : front ++ (with_count size x ++ back) ≡ front1 ++ (x ++ back) = as_number
    ∙ sym (append_assoc front n (x ++ back)) in
    let count : number_at (width size) (front ++ (with_count size x ++ back)) (length front) e
    ≡ Ok (length x, length front1) =
    ap (λ m. number_at (width size) m (length front) e) as_number
    ∙ number_back size (length x) front (x ++ back) e lt fits
    ∙ ap (λ k. let ok : Result (ℕ × ℕ) DecodeError = Ok (length x, k) in ok) (sym long1) in
    ap (λ r. r >>= octets) count ∙ ap (λ m. octets_at (length x) m (length front1) e) as_octets
    ∙ octets_back front1 x back e fits1 ∙ ap (λ k. let ok : Result (List ℕ × ℕ) DecodeError = Ok (x, k) in ok) end
  where
    octets : ℕ × ℕ → Result (List ℕ × ℕ) DecodeError
    octets count = octets_at count.0 (front ++ (with_count size x ++ back)) count.1 e

time_value : (n : ℕ) → n < 2 ^ 48 → from_be_bytes w16 (take 2 (six_octets n)) * 2 ^ 32
    + from_be_bytes w32 (drop 2 (six_octets n)) ≡ n
time_value n lt =
    let high : n / 2 ^ 32 < 2 ^ 16 = grind arith in
    let low : n % 2 ^ 32 < 2 ^ 32 = grind arith in
    let a : from_be_bytes w16 (take 2 (six_octets n)) ≡ n / 2 ^ 32 = from_be_bytes-to_be_bytes_2 (n / 2 ^ 32) high in
    let b : from_be_bytes w32 (drop 2 (six_octets n)) ≡ n % 2 ^ 32 = from_be_bytes-to_be_bytes_4 (n % 2 ^ 32) low in
    (λ i. a i * 2 ^ 32 + b i) ∙ grind arith

pub time_back : (n : ℕ) (front back : List ℕ) (e : ℕ) → n < 2 ^ 48 → length front + length (six_octets n) ≤ e
    → time_at (front ++ (six_octets n ++ back)) (length front) e ≡ Ok (n, length front + length (six_octets n))
unfolding time_at
time_back n front back e lt le =
    ap (λ r. r >>= value) (octets_back front (six_octets n) back e le)
    ∙ ap (λ k. let ok : Result (ℕ × ℕ) DecodeError = Ok (k, length front + length (six_octets n)) in ok)
    (time_value n lt)
  where
    value : List ℕ × ℕ → Result (ℕ × ℕ) DecodeError
    value octets = Ok (from_be_bytes w16 (take 2 octets.0) * 2 ^ 32 + from_be_bytes w32 (drop 2 octets.0), octets.1)

pub name_back : (n : List (List ℕ)) (front back : List ℕ) (e : ℕ) → IsName n → length front + length (wire n) ≤ e
    → e ≤ length (front ++ (wire n ++ back))
    → name_at (front ++ (wire n ++ back)) (length front) e ≡ Ok (n, length front + length (wire n))
name_back n front back e name le inside = name_at_complete _ _ _ n _ (written_name n front back e name le inside)

-- ---- a value of any kind but what is left, and the values of a row

pub ok_octets : (x y : List ℕ) → ◌≡◌ {A = Result (List ℕ) EmitError} (Ok x) (Ok y) → x ≡ y
ok_octets x y e = cc

-- a choice that gives octets took the first side
pub chose_octets : (b : Bool) (x y : List ℕ) (e : EmitError)
    → ◌≡◌ {A = Result (List ℕ) EmitError} (cond b (Ok x) (Err e)) (Ok y) → (b ≡ true) × (x ≡ y)
chose_octets true x y e h = (refl, ok_octets x y h)
chose_octets false x y e h = absurd cc

pub record Joins (a b : Result (List ℕ) EmitError) (x : List ℕ) : Type 0 where
  pub first : List ℕ
  pub second : List ℕ
  pub first_is : a ≡ Ok first
  pub second_is : b ≡ Ok second
  pub whole : first ++ second ≡ x

pub joins : (a b : Result (List ℕ) EmitError) (x : List ℕ) → joined a b ≡ Ok x → Joins a b x
joins (Ok y) (Ok z) x h = record {
  first = y;
  second = z;
  first_is = refl;
  second_is = refl;
  whole = ok_octets
      (y ++ z) x h;
}
joins (Ok y) (Err e) x h = absurd cc
joins (Err e) b x h = absurd cc

-- ---- strings

abbrev strings_and : List (List ℕ) → ℕ → Result (List (List ℕ) × ℕ) DecodeError
strings_and strings q = Ok (strings, q)

-- one string and those behind it
strings_step : (most : ℕ) (m : List ℕ) (p e : ℕ) (x : List ℕ) (q : ℕ) (xs : List (List ℕ)) (r : ℕ) → p < e
    → counted_at w8 m p e ≡ Ok (x, q) → strings_at most m q e ≡ Ok (xs, r)
    → strings_at (suc most) m p e ≡ Ok (x ∷ xs, r)
strings_step most m p e x q xs r lt first behind = strings_more most m p e lt ∙ rw (first, behind) refl

abbrev StringsBack : List (List ℕ) → List ℕ → Type 0
StringsBack strings y = (front back : List ℕ) (most : ℕ) → length y ≤ most
    → strings_at most (front ++ (y ++ back)) (length front) (length front + length y)
    ≡ Ok (strings, length front + length y)

strings_next : (x : List ℕ) (xs : List (List ℕ)) (z : List ℕ) → length x < limit One → StringsBack xs z
    → StringsBack (x ∷ xs) (with_count One x ++ z)
strings_next x xs z lt behind front back zero enough = absurd (omega (arith, enough))
strings_next x xs z lt behind front back (suc most) enough =
    let y : List ℕ = with_count One x in
    let m = front ++ ((y ++ z) ++ back) in
    let front1 : List ℕ = front ++ y in
    let as_first : m ≡ front ++ (y ++ (z ++ back)) = ap (λ (t : List ℕ). front ++ t) (append_assoc y z back) in
    let as_behind : m ≡ front1 ++ (z ++ back) = as_first ∙ sym (append_assoc front y (z ++ back)) in
    let one_more : length y ≡ suc (length x) = refl in
    let long : length front1 ≡ length front + length y = length-append front y in
    let both : length (y ++ z) ≡ length y + length z = length-append y z in
    let end : length front1 + length z ≡ length front + length (y ++ z) = omega (arith, long, both) in
    let le : length front + length y ≤ length front + length (y ++ z) = omega (arith, both) in
    let first : counted_at w8 m (length front) (length front + length (y ++ z)) ≡ Ok (x, length front + length y) =
    ap (λ o. counted_at w8 o (length front) (length front + length (y ++ z))) as_first
    ∙ counted_back One x front (z ++ back) (length front + length (y ++ z)) lt le in
    let rest : strings_at most m (length front + length y) (length front + length (y ++ z))
    ≡ Ok (xs, length front + length (y ++ z)) =
    (λ i. strings_at most (as_behind i) (sym long i) (sym end i))
    ∙ behind front1 back most (omega (arith, enough, both, one_more)) ∙ ap (strings_and xs) end in
    strings_step most m (length front) (length front + length (y ++ z)) x (length front + length y) xs _
    (omega (arith, both, one_more)) first rest

strings_back : (strings : List (List ℕ)) (y : List ℕ) → strings_octets strings ≡ Ok y → StringsBack strings y
strings_back [] y is = subst (StringsBack []) (ok_octets [] y is)
    (λ front back most enough. strings_end most _ _ _ (omega arith) ∙ ap (strings_and []) (omega arith))
strings_back (x ∷ xs) y is =
    let j = joins (counted_octets One StringTooLong x) (strings_octets xs) y is in
    let c = chose_octets (ltb (length x) (limit One)) (with_count One x) j.first StringTooLong j.first_is in
    let whole : with_count One x ++ j.second ≡ y = ap (λ (t : List ℕ). t ++ j.second) c.1 ∙ j.whole in
    subst (StringsBack (x ∷ xs)) whole (strings_next x xs j.second (ltb-true _ _ c.0)
    (strings_back xs j.second j.second_is))

-- the value v is read at the end of front, where the octets y were put
abbrev Back : Kind → Value → List ℕ → Type 0
Back kind v y = (front back : List ℕ) (e : ℕ) → length front + length y ≤ e → e ≤ length (front ++ (y ++ back))
    → value_at kind (front ++ (y ++ back)) (length front) e ≡ Ok (v, length front + length y)

abbrev wrap : {A : Type 0} → (A → Value) → Result (A × ℕ) DecodeError → Result (Value × ℕ) DecodeError
wrap f r = r >>= λ x. Ok (f x.0, x.1)

value_back : (kind : Kind) (v : Value) (y : List ℕ) → takes_rest kind ≡ false → Holds kind v
    → value_octets false kind v ≡ Ok y → Back kind v y
value_back (Number size) (Num n) y rest holds is = subst (Back (Number size) (Num n)) (ok_octets _ y is)
    (λ front back e le inside. ap (wrap (λ n. Num n)) (number_back size n front back e holds le))
value_back Time (Num n) y rest holds is =
    let c = chose_octets (ltb n (2 ^ 48)) (six_octets n) y _ is in
    subst (Back Time (Num n)) c.1 (λ front back e le inside. ap (wrap (λ n. Num n))
    (time_back n front back e (ltb-true _ _ c.0) le))
value_back (Fixed n) (Str x) y rest holds is =
    subst (Back (Fixed n) (Str x)) (ok_octets x y is)
    (λ front back e le inside. ap (λ k. wrap (λ z. Str z) (octets_at k (front ++ (x ++ back)) (length front) e))
    (sym holds) ∙ ap (wrap (λ z. Str z)) (octets_back front x back e le))
value_back (Counted size cause) (Str x) y rest holds is =
    let c = chose_octets (ltb (length x) (limit size)) (with_count size x) y cause is in
    subst (Back (Counted size cause) (Str x)) c.1 (λ front back e le inside. ap (wrap (λ z. Str z))
    (counted_back size x front back e (ltb-true _ _ c.0) le))
value_back LoweredName (Named n) y rest holds is = subst (Back LoweredName (Named n)) (ok_octets _ y is)
    (λ front back e le inside. ap (wrap (λ z. Named z)) (name_back n front back e holds le inside))
value_back KeptName (Named n) y rest holds is = subst (Back KeptName (Named n)) (ok_octets _ y is)
    (λ front back e le inside. ap (wrap (λ z. Named z)) (name_back n front back e holds le inside))
value_back Rest v y rest holds is = absurd cc
value_back Strings v y rest holds is = absurd cc
value_back _ _ y rest holds is = absurd holds

last_back : (kind : Kind) (v : Value) (y : List ℕ) → Holds kind v → value_octets false kind v ≡ Ok y
    → (front back : List ℕ)
    → value_at kind (front ++ (y ++ back)) (length front) (length front + length y) ≡ Ok (v, length front + length y)
last_back Rest (Str x) y holds is front back =
    let same : x ≡ y = ok_octets x y is in
    let from : drop (length front) (front ++ (y ++ back)) ≡ y ++ back = drop_at front (y ++ back) (length front) refl in
    let count : length front + length y - length front ≡ length y = omega arith in
    let value : take (length front + length y - length front) (drop (length front) (front ++ (y ++ back)))
    ≡ x = (λ i. take (count i) (from i)) ∙ take_at y back (length y) refl ∙ sym same in
    ap (λ (z : List ℕ). let ok : Result (Value × ℕ) DecodeError = Ok (Str z, length front + length y) in ok) value
last_back Rest (Num n) y holds is front back = absurd holds
last_back Rest (Strs n) y holds is front back = absurd holds
last_back Rest (Named n) y holds is front back = absurd holds
last_back Strings (Strs strings) y holds is front back =
    let enough : length y ≤ length front + length y - length front = omega arith in
    ap (wrap (λ z. Strs z)) (strings_back strings y is front back (length front + length y - length front) enough)
last_back Strings (Num n) y holds is front back = absurd holds
last_back Strings (Str n) y holds is front back = absurd holds
last_back Strings (Named n) y holds is front back = absurd holds
last_back kind v y holds is front back =
    value_back kind v y refl holds is front back (length front + length y) (omega arith)
    (omega (arith, length-append front (y ++ back), length-append y back))

values_step : (f : Field) (fs : List Field) (v : Value) (vs : List Value) (m : List ℕ) (p q r e : ℕ)
    → value_at f.kind m p e ≡ Ok (v, q) → f.fault v ≡ None → fields_at fs m q e ≡ Ok (vs, r)
    → fields_at (f ∷ fs) m p e ≡ Ok (v ∷ vs, r)
values_step f fs v vs m p q r e first passed behind = rw (first, passed, behind) refl

both_true : (a b : Bool) → not a && b ≡ true → (a ≡ false) × (b ≡ true)
both_true false b h = (refl, h)
both_true true b h = absurd cc

abbrev RowBack : List Field → List Value → List ℕ → Type 0
RowBack fs vs x = (front back : List ℕ) → fields_at fs (front ++ (x ++ back)) (length front) (length front + length x)
    ≡ Ok (vs, length front + length x)

-- a field that is not what is left, and the fields behind it
row_step : (f : Field) (fs : List Field) (v : Value) (vs : List Value) (y z : List ℕ) → Back f.kind v y
    → f.fault v ≡ None → RowBack fs vs z → RowBack (f ∷ fs) (v ∷ vs) (y ++ z)
row_step f fs v vs y z first passed behind front back =
    let m = front ++ ((y ++ z) ++ back) in
    let front1 : List ℕ = front ++ y in
    let as_first : m ≡ front ++ (y ++ (z ++ back)) = ap (λ (t : List ℕ). front ++ t) (append_assoc y z back) in
    let as_behind : m ≡ front1 ++ (z ++ back) = as_first ∙ sym (append_assoc front y (z ++ back)) in
    let long : length front1 ≡ length front + length y = length-append front y in
    let both : length (y ++ z) ≡ length y + length z = length-append y z in
    let end : length front1 + length z ≡ length front + length (y ++ z) = omega (arith, long, both) in
    let le : length front + length y ≤ length front + length (y ++ z) = omega (arith, both) in
    let inside : length front + length (y ++ z) ≤ length (front ++ (y ++ (z ++ back))) = omega
    (arith, both, length-append front (y ++ (z ++ back)), length-append y (z ++ back), length-append z back) in
    let one : value_at f.kind m (length front) (length front + length (y ++ z)) ≡ Ok (v, length front + length y) =
    ap (λ o. value_at f.kind o (length front) (length front + length (y ++ z))) as_first
    ∙ first front (z ++ back) (length front + length (y ++ z)) le inside in
    let rest : fields_at fs m (length front + length y) (length front + length (y ++ z))
    ≡ Ok (vs, length front + length (y ++ z)) =
    (λ i. fields_at fs (as_behind i) (sym long i) (sym end i)) ∙ behind front1 back
    ∙ ap (λ k. let ok : Result (List Value × ℕ) DecodeError = Ok (vs, k) in ok) end in
    values_step f fs v vs m _ _ _ _ one passed rest

row_back : (fs : List Field) (vs : List Value) (x : List ℕ) → rest_is_last fs ≡ true → HoldsAll fs vs
    → fields_octets false fs vs ≡ Ok x → RowBack fs vs x
row_back [] [] x last holds is = subst (RowBack [] []) (ok_octets [] x is)
    (λ front back. ap (λ k. let ok : Result (List Value × ℕ) DecodeError = Ok ([], k) in ok) (omega arith))
row_back (f ∷ []) (v ∷ []) x last holds is =
    let j = joins (value_octets false f.kind v) (Ok []) x is in
    let whole : j.first ≡ x = sym (append-nil j.first)
    ∙ ap (λ (t : List ℕ). j.first ++ t) (ok_octets [] j.second j.second_is) ∙ j.whole in
    subst (RowBack (f ∷ []) (v ∷ [])) whole (λ front back. values_step f [] v [] _ _ _ _ _
    (last_back f.kind v j.first holds.0 j.first_is front back) holds.1 refl)
row_back (f ∷ g ∷ fs) (v ∷ w ∷ vs) x last holds is =
    let j = joins (value_octets false f.kind v) (fields_octets false (g ∷ fs) (w ∷ vs)) x is in
    let b = both_true (takes_rest f.kind) (rest_is_last (g ∷ fs)) last in
    subst (RowBack (f ∷ g ∷ fs) (v ∷ w ∷ vs)) j.whole
    (row_step f (g ∷ fs) v (w ∷ vs) j.first j.second (value_back f.kind v j.first b.0 holds.0 j.first_is) holds.1
    (row_back (g ∷ fs) (w ∷ vs) j.second b.1 holds.2 j.second_is))
row_back [] (v ∷ vs) x last holds is = absurd holds
row_back (f ∷ fs) [] x last holds is = absurd holds
row_back (f ∷ []) (v ∷ w ∷ vs) x last holds is = absurd holds.2
row_back (f ∷ g ∷ fs) (v ∷ []) x last holds is = absurd holds.2

-- What is written of a row's values is read as these values, wherever it stands.
pub written_reads : (fs : List Field) (vs : List Value) (x front back : List ℕ) → rest_is_last fs ≡ true
    → HoldsAll fs vs → fields_octets false fs vs ≡ Ok x
    → fields_filling fs (front ++ (x ++ back)) (length front) (length front + length x) ≡ Ok vs
unfolding fields_filling
written_reads fs vs x front back last holds is =
    let full : eqb (length front + length x) (length front + length x) ≡ true = eq-eqb _ _ refl in
    rw (row_back fs vs x last holds is front back, full) refl
