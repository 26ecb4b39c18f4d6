-- Where a name, a question and a record end depends on the octets that they pass alone.
use Rattle.std.proofs.Common.{◌≡◌, ℕ, zero, suc, ◌+◌, ◌≤◌, ◌<◌, min, List, [], ◌∷◌, length, take, drop, get_or, refl}
use Rattle.std.proofs.Common.{sym, ap, subst, ◌∙◌, arith}
use Rattle.std.specs.Int.{Width, w16, byte_len, from_be_bytes}
use Rattle.std.proofs.lemmas.List.{take_more_same, get_or-drop, length-drop}
use Rattle.dns_wire.specs.Reading.{NumberAt}
use Rattle.dns_names.specs.Places.{Labels}
use Rattle.dns_names.proofs.PlaceLaws.{labels_forward}
use Rattle.dns_grammar.specs.Fields.{Table}
use Rattle.dns_grammar.specs.Messages.{Query, ResourceRecord, EachAt, QueryAt, RecordAt}
use Rattle.dns_grammar.specs.Extents.{SameOctets}

pub narrowed : (m n : List ℕ) (a b c d : ℕ) → a ≤ c → d ≤ b → SameOctets m n a b → SameOctets m n c d
narrowed m n a b c d ac db h k ck kd = h k (omega arith) (omega arith)

-- ---- numbers

same_octets : (m n : List ℕ) (p k : ℕ) → p + k ≤ length m → p + k ≤ length n → SameOctets m n p (p + k)
    → take k (drop p m) ≡ take k (drop p n)
same_octets m n p zero le le1 h = refl
same_octets m n p (suc k) le le1 h =
    let before = same_octets m n p k (omega arith) (omega arith)
    (narrowed m n p (p + suc k) p (p + k) (omega arith) (omega arith) h) in
    let here : get_or (drop p m) k 0 ≡ get_or (drop p n) k 0 = rw (get_or-drop, get_or-drop)
    (h (p + k) (omega arith) (omega arith)) in
    let more : k < length (drop p m) = simp length-drop (omega arith) in
    let more1 : k < length (drop p n) = simp length-drop (omega arith) in
    let step = take_more_same (drop p m) (drop p n) k 0 more more1 before here in
    let one : k + 1 ≡ suc k = omega arith in
    subst (λ j. take j (drop p m) ≡ take j (drop p n)) one step

pub number_same : (w : Width) (m n : List ℕ) (p x y q q1 : ℕ) → NumberAt w m p (length m) x q
    → NumberAt w n p (length n) y q1 → SameOctets m n p (p + byte_len w) → x ≡ y
number_same w m n p x y q q1 a b same =
    let in_m : p + byte_len w ≤ length m = omega (arith, a.1.inside, a.1.end) in
    let in_n : p + byte_len w ≤ length n = omega (arith, b.1.inside, b.1.end) in
    a.2 ∙ ap (from_be_bytes w) (a.1.value ∙ same_octets m n p (byte_len w) in_m in_n same ∙ sym b.1.value) ∙ sym b.2

-- ---- names

labels_same : {m : List ℕ} {r p e : ℕ} {x : List (List ℕ)} {q : ℕ} {n : List ℕ} {r1 e1 : ℕ} {y : List (List ℕ)} {q1 : ℕ}
    → Labels m r p e x q → Labels n r1 p e1 y q1 → SameOctets m n p (min q q1) → q ≡ q1
labels_same {p = p} (Labels.root lt zero_octet x_is q_is) (Labels.root lt1 zero_octet1 y_is q1_is) same = q_is
    ∙ sym q1_is
labels_same {p = p} (Labels.root lt zero_octet x_is q_is)
    (Labels.label lt1 nonempty1 at_most1 behind_is1 inside1 y_is rest1) same =
    absurd (omega (
      arith,
      same p (omega arith) (omega (arith, q_is, behind_is1, labels_forward rest1)),
      zero_octet,
      nonempty1,
    ))
labels_same {p = p} (Labels.root lt zero_octet x_is q_is)
    (Labels.pointer lt1 high1 half1 t_is1 back1 q1_is rest1) same =
    absurd (omega (arith, same p (omega arith) (omega (arith, q_is, q1_is)), zero_octet, high1))
labels_same {p = p} (Labels.label lt nonempty at_most behind_is inside x_is rest)
    (Labels.root lt1 zero_octet1 y_is q1_is) same =
    absurd (omega (
      arith,
      same p (omega arith) (omega (arith, q1_is, behind_is, labels_forward rest)),
      zero_octet1,
      nonempty,
    ))
labels_same {m} {r} {p} {e} {x} {q} {n} {r1} {e1} {y} {q1}
    (Labels.label {behind = behind} lt nonempty at_most behind_is inside x_is rest)
    (Labels.label {behind = behind1} {others = tail} lt1 nonempty1 at_most1 behind_is1 inside1 y_is rest1) same =
    let octet : get_or m p 0 ≡ get_or n p 0 = same p (omega arith)
    (omega (arith, behind_is, behind_is1, labels_forward rest, labels_forward rest1)) in
    let here : behind1 ≡ behind = omega (arith, behind_is, behind_is1, octet) in
    labels_same rest (subst (λ k. Labels n r1 k e1 tail q1) here rest1)
    (narrowed m n p (min q q1) behind (min q q1) (omega (arith, behind_is)) (omega arith) same)
labels_same {p = p} (Labels.label lt nonempty at_most behind_is inside x_is rest)
    (Labels.pointer lt1 high1 half1 t_is1 back1 q1_is rest1) same =
    absurd (omega (arith, same p (omega arith) (omega (arith, q1_is, behind_is, labels_forward rest)), at_most, high1))
labels_same {p = p} (Labels.pointer lt high half t_is back q_is rest) (Labels.root lt1 zero_octet1 y_is q1_is) same =
    absurd (omega (arith, same p (omega arith) (omega (arith, q_is, q1_is)), high, zero_octet1))
labels_same {p = p} (Labels.pointer lt high half t_is back q_is rest)
    (Labels.label lt1 nonempty1 at_most1 behind_is1 inside1 y_is rest1) same =
    absurd (omega (arith, same p (omega arith) (omega (arith, q_is, behind_is1, labels_forward rest1)), high, at_most1))
labels_same {p = p} (Labels.pointer lt high half t_is back q_is rest)
    (Labels.pointer lt1 high1 half1 t_is1 back1 q1_is rest1) same = q_is ∙ sym q1_is

-- ---- questions and records

query_forward : (m : List ℕ) (p : ℕ) (x : Query) (q : ℕ) → QueryAt m p x q → p ≤ q
query_forward m p x q a = omega (arith, a.end, labels_forward a.name.labels)

query_same : (m n : List ℕ) (p : ℕ) (x y : Query) (q q1 : ℕ) → QueryAt m p x q → QueryAt n p y q1
    → SameOctets m n p (min q q1) → q ≡ q1
query_same m n p x y q q1 a b same =
    let name = labels_same a.name.labels b.name.labels
    (narrowed m n p (min q q1) p (min a.fixed b.fixed) (omega arith) (omega (arith, a.end, b.end)) same) in
    omega (arith, a.end, b.end, name)

record_forward : (table : Table) (m : List ℕ) (p : ℕ) (x : ResourceRecord) (q : ℕ) → RecordAt table m p x q → p ≤ q
record_forward table m p x q a = omega (arith, a.end, labels_forward a.name.labels)

record_same : (table : Table) (m n : List ℕ) (p : ℕ) (x y : ResourceRecord) (q q1 : ℕ) → RecordAt table m p x q
    → RecordAt table n p y q1 → SameOctets m n p (min q q1) → q ≡ q1
record_same table m n p x y q q1 a b same =
    let name = labels_same a.name.labels b.name.labels
    (narrowed m n p (min q q1) p (min a.fixed b.fixed) (omega arith) (omega (arith, a.end, b.end)) same) in
    let ahead = labels_forward a.name.labels in
    let other : NumberAt w16 n (a.fixed + 8) (length n) b.data_length (a.fixed + 10) = subst
    (λ k. NumberAt w16 n (k + 8) (length n) b.data_length (k + 10)) (sym name) b.rdlength in
    let len : a.data_length ≡ b.data_length = number_same w16 m n (a.fixed + 8) a.data_length b.data_length
    (a.fixed + 10) (a.fixed + 10) a.rdlength other
    (narrowed m n p (min q q1) (a.fixed + 8) (a.fixed + 8 + byte_len w16) (omega (arith, ahead))
    (omega (arith, a.end, b.end, name)) same) in
    omega (arith, a.end, b.end, name, len)

-- ---- several, one behind the other

each_forward : {A : Type 0} (at : ℕ → A → ℕ → Type 0) → ((p : ℕ) (x : A) (q : ℕ) → at p x q → p ≤ q)
    → (p : ℕ) (xs : List A) (q : ℕ) → EachAt at p xs q → p ≤ q
each_forward at forward p [] q s = omega (arith, s)
each_forward at forward p (x ∷ xs) q s = omega (arith, forward p x s.0 s.1, each_forward at forward s.0 xs q s.2)

each_same : {A : Type 0} (m n : List ℕ) (at at1 : ℕ → A → ℕ → Type 0) → ((p : ℕ) (x : A) (q : ℕ) → at p x q → p ≤ q)
    → ((p : ℕ) (x : A) (q : ℕ) → at1 p x q → p ≤ q)
    → ((p : ℕ) (x y : A) (q q1 : ℕ) → at p x q → at1 p y q1 → SameOctets m n p (min q q1) → q ≡ q1)
    → (p : ℕ) (xs ys : List A) (q q1 : ℕ) → length xs ≡ length ys → EachAt at p xs q → EachAt at1 p ys q1
    → SameOctets m n p (min q q1) → q ≡ q1
each_same m n at at1 forward forward1 one p [] [] q q1 count a b same = a ∙ sym b
each_same m n at at1 forward forward1 one p (x ∷ xs) (y ∷ ys) q q1 count a b same =
    let ahead = each_forward at forward a.0 xs q a.2 in
    let ahead1 = each_forward at1 forward1 b.0 ys q1 b.2 in
    let start = forward p x a.0 a.1 in
    let here : a.0 ≡ b.0 = one p x y a.0 b.0 a.1 b.1
    (narrowed m n p (min q q1) p (min a.0 b.0) (omega arith) (omega arith) same) in
    let fewer : length xs ≡ length ys = omega (arith, count) in
    each_same m n at at1 forward forward1 one a.0 xs ys q q1 fewer a.2 (subst (λ k. EachAt at1 k ys q1) (sym here) b.2)
    (narrowed m n p (min q q1) a.0 (min q q1) start (omega arith) same)
each_same m n at at1 forward forward1 one p [] (y ∷ ys) q q1 count a b same = absurd (omega (arith, count))
each_same m n at at1 forward forward1 one p (x ∷ xs) [] q q1 count a b same = absurd (omega (arith, count))

pub queries_forward : (m : List ℕ) (p : ℕ) (xs : List Query) (q : ℕ) → EachAt (QueryAt m) p xs q → p ≤ q
queries_forward m p xs q a = each_forward (QueryAt m) (query_forward m) p xs q a

pub queries_same : (m n : List ℕ) (p : ℕ) (xs ys : List Query) (q q1 : ℕ) → length xs ≡ length ys
    → EachAt (QueryAt m) p xs q → EachAt (QueryAt n) p ys q1 → SameOctets m n p (min q q1) → q ≡ q1
queries_same m n p xs ys q q1 = each_same m n (QueryAt m) (QueryAt n) (query_forward m) (query_forward n)
    (query_same m n) p xs ys q q1

pub records_forward : (table : Table) (m : List ℕ) (p : ℕ) (xs : List ResourceRecord) (q : ℕ)
    → EachAt (RecordAt table m) p xs q → p ≤ q
records_forward table m p xs q a = each_forward (RecordAt table m) (record_forward table m) p xs q a

pub records_same : (table : Table) (m n : List ℕ) (p : ℕ) (xs ys : List ResourceRecord) (q q1 : ℕ)
    → length xs ≡ length ys → EachAt (RecordAt table m) p xs q → EachAt (RecordAt table n) p ys q1
    → SameOctets m n p (min q q1) → q ≡ q1
records_same table m n p xs ys q q1 = each_same m n (RecordAt table m) (RecordAt table n) (record_forward table m)
    (record_forward table n) (record_same table m n) p xs ys q q1
