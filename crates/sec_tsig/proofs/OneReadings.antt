-- Octets under a MAC have one reading.
use Rattle.std.proofs.Common.{◌≡◌, ℕ, ◌-◌, ◌^◌, ◌<◌, ◌≤◌, Bool, true, false, List, [], ◌++◌, length}
use Rattle.std.proofs.Common.{slice_range, Some, refl, sym, ap, ◌∙◌, append_assoc, arith, inl}
use Rattle.std.specs.Int.{w16, from_be_bytes}
use Rattle.std.proofs.lemmas.List.{length-append, append-nil}
use Rattle.dns_wire.specs.Octets.{AreOctets, two_octets, four_octets, six_octets}
use Rattle.dns_wire.specs.Reading.{NumberAt}
use Rattle.dns_names.specs.Names.{wire, low, Same}
use Rattle.dns_grammar.specs.Extents.{IsPrefix}
use Rattle.dns_grammar.specs.Messages.{Signature, TsigData}
use Rattle.dns_grammar.proofs.StartLaws.{one_start, starts_inside}
use Rattle.dns_rdata.specs.RDataTable.{rdata_table}
use Rattle.sec_digest.specs.declared.hmac.HmacHash.{HmacHash}
use Rattle.sec_digest.specs.declared.hmac.HmacHash.TheVariants as hashes
use Rattle.sec_sigdata.specs.TsigRecords.{any_class, tsig_timers, key_variables, error_variables, tsig_variables}
use Rattle.sec_tsig.specs.Tsig.{prior_mac, message_without_tsig, covered_fields, mac_input}
use Rattle.sec_tsig.specs.Signers.{algorithm_name}
use Rattle.sec_tsig.specs.Laws.{InputHasOneReading}
use Rattle.sec_tsig.proofs.Pieces.{split, two_same, six_same, one_name, filled_low, slice_split, slice_same, length-slice}
use Rattle.sec_tsig.proofs.Pieces.{number_octets}
use Rattle.sec_tsig.proofs.Ranges.{number_fits, InRange, in_range}

-- ---- what is covered of the record

timers_same : (a b : TsigData) → a.time < 2 ^ 48 → b.time < 2 ^ 48 → a.fudge < 2 ^ 16 → b.fudge < 2 ^ 16
    → tsig_timers a ≡ tsig_timers b → (a.time ≡ b.time) × (a.fudge ≡ b.fudge)
unfolding tsig_timers
timers_same a b ta tb fa fb e =
    let p = split (six_octets a.time) (six_octets b.time) (two_octets a.fudge) (two_octets b.fudge) refl e in
    (six_same a.time b.time ta tb p.0, two_same a.fudge b.fudge fa fb p.1)

length-timers : (a : TsigData) → length (tsig_timers a) ≡ 8
unfolding tsig_timers
length-timers a = refl

variables_long : (n : List (List ℕ)) (a : TsigData) → 8 < length (tsig_variables n a)
unfolding tsig_variables key_variables error_variables
variables_long n a = simp (length-append, length-timers) (omega arith)

-- the two forms are told apart by their lengths
one_form : (first other : Bool) (n z : List (List ℕ)) (a b : TsigData)
    → covered_fields first n a ≡ covered_fields other z b → first ≡ other
one_form true true n z a b e = refl
one_form false false n z a b e = refl
one_form true false n z a b e = absurd (omega (arith, ap (λ (l : List ℕ). length l) e, variables_long n a, length-timers b))
one_form false true n z a b e = absurd (omega (arith, ap (λ (l : List ℕ). length l) e, variables_long z b, length-timers a))

-- what the variables say
record SameVariables (n z : List (List ℕ)) (a b : TsigData) : Type 0 where
  pub owners : Same n z
  pub algorithms : Same a.algorithm b.algorithm
  pub times : a.time ≡ b.time
  pub fudges : a.fudge ≡ b.fudge
  pub errors : a.error ≡ b.error
  pub others : a.other ≡ b.other

regroup : (a b c d e f g h i : List ℕ)
    → (a ++ b ++ c ++ d) ++ (e ++ f) ++ (g ++ h ++ i) ≡ a ++ (b ++ (c ++ (d ++ (e ++ (f ++ (g ++ (h ++ i)))))))
regroup a b c d e f g h i = simp append_assoc

-- the variables, one after the other
variables_apart : (n : List (List ℕ)) (a : TsigData) → tsig_variables n a
    ≡ wire (low n) ++ (two_octets any_class ++ (four_octets 0 ++ (wire (low a.algorithm) ++ (six_octets a.time
    ++ (two_octets a.fudge ++ (two_octets a.error ++ (two_octets (length a.other) ++ a.other)))))))
unfolding tsig_variables key_variables error_variables tsig_timers
variables_apart n a =
    regroup (wire (low n)) (two_octets any_class) (four_octets 0) (wire (low a.algorithm)) (six_octets a.time)
    (two_octets a.fudge) (two_octets a.error) (two_octets (length a.other)) a.other

variables_same : (s t : Signature) → InRange s → InRange t
    → tsig_variables s.name s.tsig ≡ tsig_variables t.name t.tsig → SameVariables s.name t.name s.tsig t.tsig
variables_same s t r u e =
    let whole = sym (variables_apart s.name s.tsig) ∙ e ∙ variables_apart t.name t.tsig in
    let p1 = one_name (low s.name) (low t.name) _ _ (filled_low s.name r.name.each) (filled_low t.name u.name.each) whole
    in
    let p2 = split (two_octets any_class) (two_octets any_class) _ _ refl p1.1 in
    let p3 = split (four_octets 0) (four_octets 0) _ _ refl p2.1 in
    let p4 = one_name (low s.tsig.algorithm) (low t.tsig.algorithm) _ _ (filled_low s.tsig.algorithm r.algorithm.each)
    (filled_low t.tsig.algorithm u.algorithm.each) p3.1 in
    let p5 = split (six_octets s.tsig.time) (six_octets t.tsig.time) _ _ refl p4.1 in
    let p6 = split (two_octets s.tsig.fudge) (two_octets t.tsig.fudge) _ _ refl p5.1 in
    let p7 = split (two_octets s.tsig.error) (two_octets t.tsig.error) _ _ refl p6.1 in
    let p8 = split (two_octets (length s.tsig.other)) (two_octets (length t.tsig.other)) _ _ refl p7.1 in
    record {
      owners = p1.0;
      algorithms = p4.0;
      times = six_same s.tsig.time t.tsig.time r.time u.time p5.0;
      fudges = two_same s.tsig.fudge t.tsig.fudge r.fudge u.fudge p6.0;
      errors = two_same s.tsig.error t.tsig.error r.error u.error p7.0;
      others = p8.1;
    }

-- names of algorithms are in lower case
algorithm_low : (hash : HmacHash) → low (algorithm_name hash) ≡ algorithm_name hash
algorithm_low hashes.Sha256 = refl
algorithm_low hashes.Sha384 = refl
algorithm_low hashes.Sha512 = refl

algorithm_same : (hash other : HmacHash) (a b : List (List ℕ)) → a ≡ algorithm_name hash → b ≡ algorithm_name other
    → Same a b → a ≡ b
algorithm_same hash other a b is is1 e =
    is ∙ sym (algorithm_low hash) ∙ ap low (sym is) ∙ e ∙ ap low is1 ∙ algorithm_low other ∙ sym is1

-- what a form covers
record SameCovered (first : Bool) (s t : Signature) : Type 0 where
  pub times : s.tsig.time ≡ t.tsig.time
  pub fudges : s.tsig.fudge ≡ t.tsig.fudge
  pub variables : first ≡ true → SameVariables s.name t.name s.tsig t.tsig

covered_same : (first : Bool) (s t : Signature) → InRange s → InRange t
    → covered_fields first s.name s.tsig ≡ covered_fields first t.name t.tsig → SameCovered first s t
covered_same true s t r u e =
    let same = variables_same s t r u e in
    record { times = same.times; fudges = same.fudges; variables = λ _. same }
covered_same false s t r u e =
    let same = timers_same s.tsig t.tsig r.time u.time r.fudge u.fudge e in
    record { times = same.0; fudges = same.1; variables = λ is. absurd cc }

-- ---- the message

-- the input as its parts, one after the other
abbrev parts : List ℕ → ℕ → ℕ → List ℕ → ℕ → List ℕ → List ℕ
parts mac oid additionals m start covered =
    two_octets (length mac)
    ++ (mac ++ (two_octets oid
    ++ (slice_range m 2 10 ++ (two_octets (additionals - 1) ++ (slice_range m 12 start ++ covered)))))

regrouped : (a b c d e f g : List ℕ)
    → (a ++ b) ++ (c ++ d ++ e ++ f) ++ g ≡ a ++ (b ++ (c ++ (d ++ (e ++ (f ++ g)))))
regrouped a b c d e f g = simp append_assoc

input_parts : (mac : List ℕ) (first : Bool) (oid additionals : ℕ) (m : List ℕ) (start : ℕ) (n : List (List ℕ))
    (a : TsigData) → mac_input (Some mac) first (message_without_tsig oid additionals m start) n a
    ≡ parts mac oid additionals m start (covered_fields first n a)
unfolding mac_input prior_mac message_without_tsig
input_parts mac first oid additionals m start n a =
    regrouped (two_octets (length mac)) mac (two_octets oid) (slice_range m 2 10) (two_octets (additionals - 1))
    (slice_range m 12 start) (covered_fields first n a)

-- the octets of the additional count
count_octets : (m : List ℕ) (k : ℕ) → AreOctets m → NumberAt w16 m 10 (length m) k 12
    → two_octets k ≡ slice_range m 10 12
count_octets m k octets at =
    number_octets m 10 k octets (omega (arith, at.1.inside)) (at.2 ∙ ap (from_be_bytes w16) at.1.value)

-- the octets from the flags up to the signature
front_split : (m : List ℕ) (start : ℕ) → 12 ≤ start
    → slice_range m 2 start ≡ slice_range m 2 10 ++ (slice_range m 10 12 ++ slice_range m 12 start)
front_split m start ahead =
    slice_split m 2 10 start (omega arith) (omega arith)
    ∙ ap (λ l. slice_range m 2 10 ++ l) (slice_split m 10 12 start (omega arith) ahead)

joined_same : (a b c d e f : List ℕ) → a ≡ d → b ≡ e → c ≡ f → a ++ (b ++ c) ≡ d ++ (e ++ f)
joined_same a b c d e f p q r = cc

pub one_reading : InputHasOneReading
one_reading chain other m n s t valid valid1 octets octets1 mac mac1 e =
    let has = valid.has in
    let has1 = valid1.has in
    let r = in_range m valid.message s valid.end octets has in
    let u = in_range n valid1.message t valid1.end octets1 has1 in
    let k = valid.message.header.additionals in
    let k1 = valid1.message.header.additionals in
    let at = starts_inside rdata_table m valid.message s valid.end has in
    let at1 = starts_inside rdata_table n valid1.message t valid1.end has1 in
    let number = has.stands.header.additionals in
    let number1 = has1.stands.header.additionals in
    let few = number_fits m 10 (length m) k 12 octets number in
    let few1 = number_fits n 10 (length n) k1 12 octets1 number1 in
    let f = covered_fields chain.first s.name s.tsig in
    let f1 = covered_fields other.first t.name t.tsig in
    let whole : parts chain.mac s.tsig.oid k m s.start f ≡ parts other.mac t.tsig.oid k1 n t.start f1 =
    sym (input_parts chain.mac chain.first s.tsig.oid k m s.start s.name s.tsig) ∙ e
    ∙ input_parts other.mac other.first t.tsig.oid k1 n t.start t.name t.tsig in
    let p1 = split (two_octets (length chain.mac)) (two_octets (length other.mac)) _ _ refl whole in
    let len = two_same (length chain.mac) (length other.mac) mac mac1 p1.0 in
    let p2 = split chain.mac other.mac _ _ len p1.1 in
    let p3 = split (two_octets s.tsig.oid) (two_octets t.tsig.oid) _ _ refl p2.1 in
    let head_len = length-slice m 2 10 (omega arith) (omega (arith, at.ahead, at.inside)) in
    let head_len1 = length-slice n 2 10 (omega arith) (omega (arith, at1.ahead, at1.inside)) in
    let p4 = split (slice_range m 2 10) (slice_range n 2 10) _ _ (head_len ∙ sym head_len1) p3.1 in
    let p5 = split (two_octets (k - 1)) (two_octets (k1 - 1)) _ _ refl p4.1 in
    let counts = two_same (k - 1) (k1 - 1) (omega (arith, few)) (omega (arith, few1)) p5.0 in
    let begins : IsPrefix (slice_range m 12 s.start ++ f) (slice_range n 12 t.start ++ f1) = (
      [],
      append-nil (slice_range m 12 s.start ++ f) ∙ p5.1,
    ) in
    let starts : s.start ≡ t.start = one_start rdata_table m n valid.message valid1.message s t valid.end valid1.end f f1
    has has1 (slice_same m n 2 10 p4.0) counts (inl begins) in
    let body_len = length-slice m 12 s.start at.ahead (omega (arith, at.inside)) in
    let body_len1 = length-slice n 12 t.start at1.ahead (omega (arith, at1.inside)) in
    let p6 = split (slice_range m 12 s.start) (slice_range n 12 t.start) f f1
    (body_len ∙ ap (λ (j : ℕ). j - 12) starts ∙ sym body_len1) p5.1 in
    let forms = one_form chain.first other.first s.name t.name s.tsig t.tsig p6.1 in
    let fields : f ≡ covered_fields chain.first t.name t.tsig = p6.1
    ∙ ap (λ b. covered_fields b t.name t.tsig) (sym forms) in
    let same = covered_same chain.first s t r u fields in
    let same_count : k ≡ k1 = omega (arith, counts, at.counted, at1.counted) in
    let count : slice_range m 10 12 ≡ slice_range n 10 12 = sym (count_octets m k octets number)
    ∙ ap two_octets same_count ∙ count_octets n k1 octets1 number1 in
    record {
      macs = p2.0;
      forms = forms;
      oids = two_same s.tsig.oid t.tsig.oid r.oid u.oid p3.0;
      octets = front_split m s.start at.ahead ∙ joined_same _ _ _ _ _ _ p4.0 count p6.0
          ∙ sym (front_split n t.start at1.ahead);
      times = same.times;
      fudges = same.fudges;
      owners = λ is. (same.variables is).owners;
      algorithms = λ is. algorithm_same chain.signer.algorithm other.signer.algorithm s.tsig.algorithm t.tsig.algorithm
          valid.algorithm valid1.algorithm (same.variables is).algorithms;
      errors = λ is. (same.variables is).errors;
      others = λ is. (same.variables is).others;
    }
