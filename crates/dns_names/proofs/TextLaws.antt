-- What reading a text gives is the name that the text spells.
use Rattle.std.proofs.Common.{◌≡◌, ◌≢◌, ◌⊎◌, inl, inr, ℕ, zero, suc, ◌+◌, ◌/◌, ◌%◌, ◌<◌, ◌≤◌, List, [], ◌∷◌, ◌++◌}
use Rattle.std.proofs.Common.{length, take, drop, refl, ap, sym, ◌∙◌, subst, arith, Result, Ok, Err, append_assoc}
use Rattle.std.proofs.Common.{append-nil, length-append}
use Rattle.std.proofs.Common.{nat_eq, nat_lt, cond, Bool, true, false, ◌&&◌, ◌||◌, IsTrue}
use Rattle.std.proofs.lemmas.List.{take-append-drop, drop_at, nil_from_length}
use Rattle.std.proofs.lemmas.Fmt.{decimal_digit}
use Rattle.std.proofs.lemmas.Bool.{eqb-true}
use Rattle.std.specs.Cmp.Lexicographic.{pointwise, bytes_decides}
use Rattle.std.specs.Fmt.{decimal}
use Rattle.std.proofs.lemmas.Bool.{cases_Bool}
use Rattle.std.proofs.lemmas.Bool.Decides.{nat_tests}
use Rattle.std.specs.List.{AllByRecursion, flat_map, list_any}
use Rattle.std.specs.Char.{is_ascii_digit, is_ascii_graphic}
use Rattle.dns_wire.specs.declared.error.NameError.{NameError}
use Rattle.dns_wire.specs.declared.error.NameError.TheVariants.{EmptyLabel, BadEscape, BadCharacter}
use Rattle.dns_wire.specs.Octets.{AreOctets}
use Rattle.dns_wire.specs.Reading.{◌>>=◌}
use Rattle.dns_names.specs.Names.{IsLabel, IsName, wire}
use Rattle.dns_names.specs.NameText.{specials, is_special, octet_text, label_text, name_text}
use Rattle.dns_names.specs.NameText.{dot, backslash, number_of_digits, SpellsOctet, SpellsLabel, SpellsLabels, Spells}
use Rattle.dns_names.specs.NameText.{octet_of_digits, escaped, first_octet, add_octet, add_label, name_at_end}
use Rattle.dns_names.specs.NameText.{completed_name, name_from_text}
use Rattle.dns_names.proofs.NamePush.{name_push}
use Rattle.dns_names.proofs.AboveBelow.{added_label, next_label, front_fits}
use Rattle.dns_names.proofs.TextSteps.{NameRead, choice_false, completed-end, completed-dot, completed-skipped}
use Rattle.dns_names.proofs.TextSteps.{completed-octet, added_octet}

-- ---- octets

abbrev OctetRead : Type 0
OctetRead = Result (ℕ × ℕ) NameError

ok_pair : (x y : ℕ × ℕ) → ◌≡◌ {A = OctetRead} (Ok x) (Ok y) → x ≡ y
ok_pair x y e = cc

-- what the first characters of a text spell
pub record FirstSpelled (c : ℕ) (rest : List ℕ) (octet k : ℕ) : Type 0 where
  spells : SpellsOctet (c ∷ take k rest) octet
  small : octet < 256
  within : k ≤ length rest

digits_spelled : (a octet k : ℕ) (rest : List ℕ) → IsTrue (is_ascii_digit a) → octet_of_digits a rest ≡ Ok (octet, k)
    → FirstSpelled backslash (a ∷ rest) octet k
digits_spelled a octet k [] digit h = absurd (cc)
digits_spelled a octet k (b ∷ []) digit h = absurd (cc)
digits_spelled a octet k (b ∷ c ∷ rest) digit h = at (is_ascii_digit b) (is_ascii_digit c)
    (nat_lt (number_of_digits a b c) 256) refl refl refl h
  where
    at : (s t u : Bool) → is_ascii_digit b ≡ s → is_ascii_digit c ≡ t → nat_lt (number_of_digits a b c) 256 ≡ u
        → cond {A = OctetRead} (s && t && u) (Ok (number_of_digits a b c, 3)) (Err BadEscape) ≡ Ok (octet, k)
        → FirstSpelled backslash (a ∷ b ∷ c ∷ rest) octet k
    at true true true second third fits e =
        let same = ok_pair (number_of_digits a b c, 3) (octet, k) e in
        let value : number_of_digits a b c ≡ octet = ap (λ x. x.0) same in
        let count : 3 ≡ k = ap (λ x. x.1) same in
        let below : number_of_digits a b c < 256 = grind (arith, nat_tests) in
        record {
          spells = SpellsOctet.numbered digit second third (sym value) (subst (λ n. n < 256) value below)
              (ap (λ j. backslash ∷ take j (a ∷ b ∷ c ∷ rest)) (sym count));
          small = subst (λ n. n < 256) value below;
          within = omega arith;
        }
    at true true false second third fits e = absurd (cc)
    at true false u second third fits e = absurd (cc)
    at false t u second third fits e = absurd (cc)

escaped_spelled : (octet k : ℕ) (rest : List ℕ) → escaped rest ≡ Ok (octet, k) → FirstSpelled backslash rest octet k
escaped_spelled octet k [] h = absurd (cc)
escaped_spelled octet k (a ∷ rest) h = at (is_ascii_digit a) (is_ascii_graphic a) refl refl h
  where
    at : (s t : Bool) → is_ascii_digit a ≡ s → is_ascii_graphic a ≡ t
        → cond s (octet_of_digits a rest) (cond {A = OctetRead} t (Ok (a, 1)) (Err BadEscape)) ≡ Ok (octet, k)
        → FirstSpelled backslash (a ∷ rest) octet k
    at true t digit graphic e = digits_spelled a octet k rest digit e
    at false true digit graphic e =
        let same = ok_pair (a, 1) (octet, k) e in
        let value : a ≡ octet = ap (λ x. x.0) same in
        let count : 1 ≡ k = ap (λ x. x.1) same in
        let no_digit : IsTrue (is_ascii_digit a) → ⊥ = λ is. false_true (sym digit ∙ is) in
        let below : a < 256 = grind (arith, nat_tests) in
        record {
          spells = subst (λ x. SpellsOctet (backslash ∷ take k (a ∷ rest)) x) value
              (SpellsOctet.quoted graphic no_digit (ap (λ j. backslash ∷ take j (a ∷ rest)) (sym count)));
          small = subst (λ n. n < 256) value below;
          within = omega arith;
        }
      where
        false_true : false ≡ true → ⊥
        false_true e = cc
    at false false digit graphic e = absurd (cc)

pub first_spelled : (c octet k : ℕ) (rest : List ℕ) → c ≢ dot → first_octet c rest ≡ Ok (octet, k)
    → FirstSpelled c rest octet k
first_spelled c octet k rest other h = at (cases_Bool (nat_eq c backslash)) (is_ascii_graphic c) refl
  where
    at : (nat_eq c backslash ≡ true) ⊎ (nat_eq c backslash ≡ false) → (t : Bool) → is_ascii_graphic c ≡ t
        → FirstSpelled c rest octet k
    at (inl is) t graphic =
        let same : c ≡ backslash = grind (arith, nat_tests) in
        subst (λ d. FirstSpelled d rest octet k) (sym same)
        (escaped_spelled octet k rest (ap
        (λ b. cond b (escaped rest) (cond {A = OctetRead} (is_ascii_graphic c) (Ok (c, 0)) (Err BadCharacter)))
        (sym is) ∙ h))
    at (inr is) true graphic =
        let e : ◌≡◌ {A = OctetRead} (Ok (c, 0)) (Ok (octet, k)) =
        (λ i. cond (sym is i) (escaped rest) (cond {A = OctetRead} (sym graphic i) (Ok (c, 0)) (Err BadCharacter)))
        ∙ h in
        let same = ok_pair (c, 0) (octet, k) e in
        let value : c ≡ octet = ap (λ x. x.0) same in
        let count : 0 ≡ k = ap (λ x. x.1) same in
        let apart : c ≢ backslash = grind (arith, nat_tests) in
        let below : c < 256 = grind (arith, nat_tests) in
        record {
          spells = subst (λ x. SpellsOctet (c ∷ take k rest) x) value
              (SpellsOctet.plain graphic other apart (ap (λ j. c ∷ take j rest) (sym count)));
          small = subst (λ n. n < 256) value below;
          within = omega arith;
        }
    at (inr is) false graphic =
        let e : ◌≡◌ {A = OctetRead} (Err BadCharacter) (Ok (octet, k)) =
        (λ i. cond (sym is i) (escaped rest) (cond {A = OctetRead} (sym graphic i) (Ok (c, 0)) (Err BadCharacter)))
        ∙ h in
        absurd (cc)

-- ---- what is read is spelled

-- a reading in two steps that went well
record Between {A B E : Type 0} (first : Result A E) (second : A → Result B E) (end : B) : Type 0 where
  value : A
  before : first ≡ Ok value
  behind : second value ≡ Ok end

between : {A B E : Type 0} (first : Result A E) (second : A → Result B E) (end : B) → (first >>= second) ≡ Ok end
    → Between first second end
between (Ok x) second end h = record { value = x; before = refl; behind = h }
between (Err e) second end h = absurd (cc)

-- the text completes a label of which these octets stand before it, and spells the labels behind that one; a label may
-- be left out behind a last dot
data Tail : List ℕ → List ℕ → List (List ℕ) → Type 0 where
  nothing : {label text : List ℕ} {labels : List (List ℕ)} → label ≡ [] → text ≡ [] → labels ≡ []
      → Tail label text labels
  end :
      {label text octets : List ℕ} {labels : List (List ℕ)}
      → SpellsLabel text octets
      → labels ≡ (label ++ octets) ∷ []
      → Tail label text labels
  on :
      {label text first others octets : List ℕ} {labels behind : List (List ℕ)}
      → SpellsLabel first octets
      → Tail [] others behind
      → text ≡ first ++ dot ∷ others
      → labels ≡ (label ++ octets) ∷ behind
      → Tail label text labels

-- an octet more before the text
tail_octet : {label first others : List ℕ} {octet : ℕ} {labels : List (List ℕ)} → SpellsOctet first octet
    → Tail (label ++ octet ∷ []) others labels → Tail label (first ++ others) labels
tail_octet {label} {first} {others} {octet} {labels} s (Tail.nothing l t n) = absurd (some label octet l)
  where
    some : (label : List ℕ) (octet : ℕ) → label ++ octet ∷ [] ≡ [] → ⊥
    some [] octet e = cc
    some (x ∷ label) octet e = cc
tail_octet {label} {first} {others} {octet} {labels} s (Tail.end {octets = octets} spells n) =
    Tail.end {octets = octet ∷ octets} (SpellsLabel.one_more s spells refl refl) (n
    ∙ ap (λ l. l ∷ []) (append_assoc label (octet ∷ []) octets))
tail_octet {label} {first} {others} {octet} {labels} s
    (Tail.on {first = front} {others = rest} {octets = octets} {behind = behind} spells tail t n) =
    Tail.on {octets = octet ∷ octets} (SpellsLabel.one_more s spells refl refl) tail (ap (λ r. first ++ r) t
    ∙ sym (append_assoc first front (dot ∷ rest))) (n
    ∙ ap (λ l. l ∷ behind) (append_assoc label (octet ∷ []) octets))

-- what the text behind the labels n completes
record Completed (n : List (List ℕ)) (label text : List ℕ) (z : List (List ℕ)) : Type 0 where
  labels : List (List ℕ)
  whole : z ≡ n ++ labels
  tail : Tail label text labels
  name : IsName z

-- a label that was added is the last
last_label : (n z : List (List ℕ)) (label : List ℕ) → IsName n → length label ≤ 63 → AreOctets label
    → add_label n label ≡ Ok z → Completed n label [] z
last_label n z label name few octets h =
    let a = added_label n z label h in
    let is : IsLabel label = record { nonempty = a.nonempty; at_most_63 = few; octets = octets } in
    record {
      labels = label ∷ [];
      whole = a.is;
      tail = Tail.end {octets = []} (SpellsLabel.none refl refl) (ap (λ l. l ∷ []) (sym (append-nil label)));
      name = subst IsName (sym a.is) (name_push n label name is a.fits);
    }

at_end_read : (n z : List (List ℕ)) (label : List ℕ) → IsName n → length label ≤ 63 → AreOctets label
    → name_at_end n label ≡ Ok z → Completed n label [] z
at_end_read n z label name few octets h = at (nat_eq (length label) 0) (nat_lt 0 (length n)) refl h
  where
    no_octets : nat_eq (length label) 0 ≡ true → label ≡ []
    no_octets e = let none : length label ≡ 0 = grind (arith, nat_tests) in nil_from_length label (omega arith)

    at : (none some : Bool) → nat_eq (length label) 0 ≡ none
        → cond {A = NameRead} (none && some) (Ok n) (add_label n label) ≡ Ok z → Completed n label [] z
    at true true none e =
        let same : n ≡ z = cc in
        record {
          labels = [];
          whole = sym same ∙ sym (append-nil n);
          tail = Tail.nothing
              (no_octets none) refl refl;
          name = subst IsName same name;
        }
    at true false none e = last_label n z label name few octets e
    at false some none e = last_label n z label name few octets e

are_octets-push : (label : List ℕ) (octet : ℕ) → AreOctets label → octet < 256 → AreOctets (label ++ octet ∷ [])
are_octets-push [] octet h small = (small, tt)
are_octets-push (x ∷ label) octet h small = (h.0, are_octets-push label octet h.1 small)

-- what was read from a text is what it completes
completed_sound : (text : List ℕ) (k : ℕ) (n : List (List ℕ)) (label : List ℕ) (z : List (List ℕ)) → IsName n
    → length label ≤ 63 → AreOctets label → completed_name k n label text ≡ Ok z → Completed n label (drop k text) z
unfolding completed_name
completed_sound [] zero n label z name few octets h = at_end_read n z label name few octets h
completed_sound [] (suc k) n label z name few octets h = at_end_read n z label name few octets h
completed_sound (c ∷ rest) (suc k) n label z name few octets h = completed_sound rest k n label z name few octets h
completed_sound (c ∷ rest) zero n label z name few octets h =
    elim (cases_Bool (nat_eq c dot)) [
      | inl is ↦
          let same : c ≡ dot = grind (arith, nat_tests) in
          let b = between (add_label n label) (λ longer. completed_name 0 longer [] rest) z
          (sym (completed-dot n label c rest same) ∙ h) in
          behind_dot same b.value (added_label n b.value label b.before).is
          (completed_sound rest 0 b.value [] z (last_label n b.value label name few octets b.before).name
          (omega arith) tt b.behind)
      | inr is ↦
          let other : c ≢ dot = grind (arith, nat_tests) in
          let b = between (first_octet c rest) (λ x. add_octet label x.0
          >>= (λ longer. completed_name x.1 n longer rest)) z (sym (completed-octet n label c rest other) ∙ h) in
          let l = between (add_octet label b.value.0) (λ longer. completed_name b.value.1 n longer rest) z b.behind in
          let first = first_spelled c b.value.0 b.value.1 rest other b.before in
          let a = added_octet label b.value.0 l.value l.before in
          behind_octet b.value.0 b.value.1 l.value first a.is
          (completed_sound rest b.value.1 n l.value z name a.few
          (subst AreOctets (sym a.is) (are_octets-push label b.value.0 octets first.small)) l.behind)
    ]
  where
    behind_dot : c ≡ dot → (longer : List (List ℕ)) → longer ≡ n ++ label ∷ [] → Completed longer [] rest z
        → Completed n label (c ∷ rest) z
    behind_dot is longer added r = record {
      labels = label ∷ r.labels;
      whole = r.whole ∙ ap (λ l. l ++ r.labels) added ∙ append_assoc n (label ∷ []) r.labels;
      tail = Tail.on {first = []} {octets = []} (SpellsLabel.none refl refl) r.tail (ap (λ d. d ∷ rest) is)
          (ap (λ l. l ∷ r.labels) (sym (append-nil label)));
      name = r.name;
    }

    behind_octet : (octet k : ℕ) (longer : List ℕ) → FirstSpelled c rest octet k → longer ≡ label ++ octet ∷ []
        → Completed n longer (drop k rest) z → Completed n label (c ∷ rest) z
    behind_octet octet k longer first is r = record {
      labels = r.labels;
      whole = r.whole;
      tail = subst (λ t. Tail label (c ∷ t) r.labels) (take-append-drop k rest)
          (tail_octet first.spells (subst (λ l. Tail l (drop k rest) r.labels) is r.tail));
      name = r.name;
    }

no_labels : {text : List ℕ} → Tail [] text [] → text ≡ []
no_labels (Tail.nothing l t n) = t
no_labels (Tail.end s n) = absurd (cc)
no_labels (Tail.on s tail t n) = absurd (cc)

-- whether there is any
none_or_some : (labels : List (List ℕ)) → (labels ≡ []) ⊎ (labels ≡ [] → ⊥)
none_or_some [] = inl refl
none_or_some (label ∷ labels) = inr (λ e. absurd (cc))

spelled_labels : {text : List ℕ} {labels : List (List ℕ)} → Tail [] text labels → (labels ≡ [] → ⊥)
    → SpellsLabels text labels
spelled_labels (Tail.nothing l t n) some = absurd (some n)
spelled_labels (Tail.end s n) some = SpellsLabels.last s n
spelled_labels (Tail.on {first = first} {others = others} {octets = octets} {behind = behind} s tail t n) some =
    elim (none_or_some behind) [
      | inl none ↦ SpellsLabels.dotted s (t ∙ ap (λ r. first ++ dot ∷ r) (no_labels (subst (Tail [] others) none tail)))
          (n ∙ ap (λ l. octets ∷ l) none)
      | inr any ↦ SpellsLabels.more s (spelled_labels tail any) t n
    ]

-- a name that was read is spelled
pub name_spelled : (text : List ℕ) (n : List (List ℕ)) → name_from_text text ≡ Ok n → Spells text n × IsName n
name_spelled text n h = at (pointwise nat_eq text (dot ∷ [])) refl h
  where
    root : IsName []
    root = record { each = tt; at_most_255 = omega arith }

    no_text : (z : List (List ℕ)) → completed_name 0 [] [] [] ≡ Ok z → ⊥
    no_text z e = let empty : ◌≡◌ {A = NameRead} (Err EmptyLabel) (Ok z) = sym (completed-end [] []) ∙ e in absurd (cc)

    at : (b : Bool) → pointwise nat_eq text (dot ∷ []) ≡ b → cond {A = NameRead} b (Ok []) (completed_name 0 [] [] text)
        ≡ Ok n → Spells text n × IsName n
    at true is e = let none : [] ≡ n = cc in (
      inl ((bytes_decides text (dot ∷ [])).0 is, sym none),
      subst IsName none
          root,
    )
    at false is e =
        let r = completed_sound text 0 [] [] n root (omega arith) tt e in (
          inr (subst (SpellsLabels text) (sym r.whole)
              (spelled_labels r.tail (λ none. no_text n
              (ap (completed_name 0 [] []) (sym (no_labels (subst (Tail [] text) none r.tail))) ∙ e)))),
          r.name,
        )

-- ---- what is spelled is read

-- the first character of an octet, and the others
record FirstRead (first : List ℕ) (octet : ℕ) : Type 0 where
  character : ℕ
  characters : List ℕ
  is : first ≡ character ∷ characters
  no_dot : character ≢ dot
  read : (others : List ℕ) → first_octet character (characters ++ others) ≡ Ok (octet, length characters)

-- the first of two choices, each of whose tests holds
both_hold : (s t u v : Bool) (x y z : OctetRead) → s ≡ true → t ≡ true → u ≡ true → v ≡ true
    → cond s (cond (t && u && v) x y) z ≡ x
both_hold s t u v x y z one two three four = λ i. cond (one i) (cond (two i && three i && four i) x y) z

digits_read : (a b c octet : ℕ) (others : List ℕ) → is_ascii_digit a ≡ true → is_ascii_digit b ≡ true
    → is_ascii_digit c ≡ true → octet ≡ number_of_digits a b c → octet < 256
    → first_octet backslash (a ∷ b ∷ c ∷ others) ≡ Ok (octet, 3)
digits_read a b c octet others one two three value small =
    let fits : nat_lt octet 256 ≡ true = grind (arith, nat_tests) in
    both_hold (is_ascii_digit a) (is_ascii_digit b) (is_ascii_digit c) (nat_lt (number_of_digits a b c) 256)
    (Ok (number_of_digits a b c, 3)) (Err BadEscape)
    (cond {A = OctetRead} (is_ascii_graphic a) (Ok (a, 1)) (Err BadEscape)) one two three
    (ap (λ n. nat_lt n 256) (sym value) ∙ fits)
    ∙ ap (λ x. Ok (x, 3)) (sym value)

plain_read : (octet : ℕ) (others : List ℕ) → is_ascii_graphic octet ≡ true → octet ≢ backslash
    → first_octet octet others ≡ Ok (octet, 0)
plain_read octet others graphic no_backslash =
    choice_false octet backslash (escaped others) (cond {A = OctetRead} (is_ascii_graphic octet) (Ok (octet, 0))
    (Err BadCharacter)) no_backslash
    ∙ ap (λ b. cond {A = OctetRead} b (Ok (octet, 0)) (Err BadCharacter)) graphic

is_no : (b : Bool) → (IsTrue b → ⊥) → b ≡ false
is_no true h = absurd (h refl)
is_no false h = refl

-- the second of two choices, whose test alone holds
second_holds : (s t : Bool) (x y z : OctetRead) → s ≡ false → t ≡ true → cond s x (cond t y z) ≡ y
second_holds s t x y z one two = λ i. cond (one i) x (cond (two i) y z)

quoted_read : (octet : ℕ) (others : List ℕ) → is_ascii_graphic octet ≡ true → is_ascii_digit octet ≡ false
    → first_octet backslash (octet ∷ others) ≡ Ok (octet, 1)
quoted_read octet others graphic no_digit =
    second_holds (is_ascii_digit octet) (is_ascii_graphic octet) (octet_of_digits octet others) (Ok (octet, 1))
    (Err BadEscape) no_digit graphic

backslash_no_dot : backslash ≢ dot
backslash_no_dot e = absurd (cc)

first_read : (first : List ℕ) (octet : ℕ) → SpellsOctet first octet → FirstRead first octet
first_read first octet (SpellsOctet.plain graphic no_dot no_backslash t) = record {
  character = octet;
  characters = [];
  is = t;
  no_dot = no_dot;
  read = λ others. plain_read octet others graphic no_backslash;
}
first_read first octet (SpellsOctet.quoted graphic no_digit t) = record {
  character = backslash;
  characters = octet ∷ [];
  is = t;
  no_dot = backslash_no_dot;
  read = λ others. quoted_read octet others graphic (is_no (is_ascii_digit octet) no_digit);
}
first_read first octet (SpellsOctet.numbered {a = a} {b = b} {c = c} one two three value small t) = record {
  character = backslash;
  characters = a ∷ b ∷ c ∷ [];
  is = t;
  no_dot = backslash_no_dot;
  read = λ others. digits_read a b c octet others one two three value small;
}

octet_read : (n : List (List ℕ)) (label first others : List ℕ) (octet : ℕ) → SpellsOctet first octet → length label < 63
    → completed_name 0 n label (first ++ others) ≡ completed_name 0 n (label ++ octet ∷ []) others
octet_read n label first others octet s room =
    let f = first_read first octet s in
    let fits : add_octet label octet ≡ Ok (label ++ octet ∷ []) = grind (arith, nat_tests) in
    ap (λ t. completed_name 0 n label (t ++ others)) f.is
    ∙ completed-octet n label f.character (f.characters ++ others) f.no_dot
    ∙ ap (λ o. o >>= (λ x. add_octet label x.0 >>= (λ longer. completed_name x.1 n longer (f.characters ++ others))))
    (f.read others)
    ∙ ap (λ o. o >>= (λ longer. completed_name (length f.characters) n longer (f.characters ++ others))) fits
    ∙ completed-skipped (length f.characters) n (label ++ octet ∷ []) (f.characters ++ others)
    ∙ ap (completed_name 0 n (label ++ octet ∷ [])) (drop_at f.characters others (length f.characters) refl)

label_read : {first octets : List ℕ} → SpellsLabel first octets → (n : List (List ℕ)) (label others : List ℕ)
    → length label + length octets ≤ 63
    → completed_name 0 n label (first ++ others) ≡ completed_name 0 n (label ++ octets) others
label_read {first} {octets} (SpellsLabel.none t l) n label others few =
    (λ i. completed_name 0 n label (t i ++ others))
    ∙ ap (λ l. completed_name 0 n l others) (sym (append-nil label) ∙ ap (λ o. label ++ o) (sym l))
label_read {first} {octets} (SpellsLabel.one_more {first = front} {others = behind} {octets = more} {octet = octet} s
    rest t l) n label others few =
    let long : length octets ≡ suc (length more) = ap length l in
    ap (λ t. completed_name 0 n label (t ++ others)) t
    ∙ ap (completed_name 0 n label) (append_assoc front behind others)
    ∙ octet_read n label front (behind ++ others) octet s (omega arith)
    ∙ label_read rest n (label ++ octet ∷ []) others (omega (arith, length-append label (octet ∷ [])))
    ∙ ap (λ l. completed_name 0 n l others) (append_assoc label (octet ∷ []) more ∙ ap (λ o. label ++ o) (sym l))

-- a label that fits is added
label_added : (n : List (List ℕ)) (label : List ℕ) (labels : List (List ℕ)) → IsName (n ++ label ∷ labels)
    → add_label n label ≡ Ok (n ++ label ∷ [])
label_added n label labels name =
    let is : IsLabel label = next_label n label labels (n ++ label ∷ labels) name.each refl in
    let some : 0 < length label = is.nonempty in
    let fits : length (wire n) + length label + 1 ≤ 255 = omega (arith, front_fits n label labels, name.at_most_255) in
    grind (arith, nat_tests)

few_octets : (n : List (List ℕ)) (label : List ℕ) (labels : List (List ℕ)) → IsName (n ++ label ∷ labels)
    → length label ≤ 63
few_octets n label labels name = (next_label n label labels (n ++ label ∷ labels) name.each refl).at_most_63

-- at the end of the text, with a label and without one
end_with_label : (n : List (List ℕ)) (label : List ℕ) → IsName (n ++ label ∷ [])
    → completed_name 0 n label [] ≡ Ok (n ++ label ∷ [])
end_with_label n label name =
    let some : 0 < length label = (next_label n label [] (n ++ label ∷ []) name.each refl).nonempty in
    completed-end n label ∙ at some ∙ label_added n label [] name
  where
    at : 0 < length label → name_at_end n label ≡ add_label n label
    at some = grind (arith, nat_tests)

end_with_dot : (n : List (List ℕ)) (label : List ℕ) → completed_name 0 (n ++ label ∷ []) [] [] ≡ Ok (n ++ label ∷ [])
end_with_dot n label = completed-end (n ++ label ∷ []) [] ∙ at (n ++ label ∷ []) (length-append n (label ∷ []))
  where
    at : (z : List (List ℕ)) → length z ≡ length n + 1 → name_at_end z [] ≡ Ok z
    at z e = let some : nat_lt 0 (length z) ≡ true = grind (arith, nat_tests) in ap
        (λ b. cond {A = NameRead} b (Ok z) (add_label z [])) some

labels_read : {text : List ℕ} {labels : List (List ℕ)} → SpellsLabels text labels → (n : List (List ℕ))
    → IsName (n ++ labels) → completed_name 0 n [] text ≡ Ok (n ++ labels)
labels_read {text} {labels} (SpellsLabels.last {label = label} s e) n name =
    let joined : n ++ labels ≡ n ++ label ∷ [] = ap (λ z. n ++ z) e in
    let is : IsName (n ++ label ∷ []) = subst IsName joined name in
    let few : length label ≤ 63 = few_octets n label [] is in
    ap (completed_name 0 n []) (sym (append-nil text))
    ∙ label_read s n [] [] (omega arith)
    ∙ end_with_label n label is
    ∙ ap (λ z. Ok z) (sym joined)
labels_read {text} {labels} (SpellsLabels.dotted {first = first} {label = label} s t e) n name =
    let joined : n ++ labels ≡ n ++ label ∷ [] = ap (λ z. n ++ z) e in
    let is : IsName (n ++ label ∷ []) = subst IsName joined name in
    let few : length label ≤ 63 = few_octets n label [] is in
    ap (completed_name 0 n []) t
    ∙ label_read s n [] (dot ∷ []) (omega arith)
    ∙ completed-dot n label dot [] refl
    ∙ ap (λ o. o >>= (λ longer. completed_name 0 longer [] [])) (label_added n label [] is)
    ∙ end_with_dot n label
    ∙ ap (λ z. Ok z) (sym joined)
labels_read {text} {labels} (SpellsLabels.more {first = first} {others = others} {label = label} {labels = behind} s
    rest t e) n name =
    let joined : n ++ labels ≡ n ++ label ∷ behind = ap (λ z. n ++ z) e in
    let is : IsName (n ++ label ∷ behind) = subst IsName joined name in
    let few : length label ≤ 63 = few_octets n label behind is in
    ap (completed_name 0 n []) t
    ∙ label_read s n [] (dot ∷ others) (omega arith)
    ∙ completed-dot n label dot others refl
    ∙ ap (λ o. o >>= (λ longer. completed_name 0 longer [] others)) (label_added n label behind is)
    ∙ labels_read rest (n ++ label ∷ []) (subst IsName (sym (append_assoc n (label ∷ []) behind)) is)
    ∙ ap (λ z. Ok z) (append_assoc n (label ∷ []) behind ∙ sym joined)

-- a name that is spelled is read
pub name_read : (text : List ℕ) (n : List (List ℕ)) → Spells text n → IsName n → name_from_text text ≡ Ok n
name_read text n (inl root) name = (λ i. name_from_text (root.0 i)) ∙ ap (λ z. Ok z) (sym root.1)
name_read text n (inr spells) name = at (pointwise nat_eq text (dot ∷ [])) refl
  where
    read : completed_name 0 [] [] text ≡ Ok n
    read = labels_read spells [] name

    at : (b : Bool) → pointwise nat_eq text (dot ∷ []) ≡ b → cond {A = NameRead} b (Ok []) (completed_name 0 [] [] text)
        ≡ Ok n
    at true is =
        let dotted : text ≡ dot ∷ [] = (bytes_decides text (dot ∷ [])).0 is in
        let empty : ◌≡◌ {A = NameRead} (Err EmptyLabel) (Ok n) = sym (completed-dot [] [] dot [] refl)
        ∙ ap (completed_name 0 [] []) (sym dotted) ∙ read in
        absurd (cc)
    at false is = read

-- ---- the text of a name spells it

-- what holds of each element holds of one that is among them
among : (P : ℕ → Type 0) (x : ℕ) (cs : List ℕ) → AllByRecursion P cs → list_any (nat_eq x) cs ≡ true → P x
among P x [] h e = absurd (cc)
among P x (c ∷ cs) h e = at (nat_eq x c) refl e (among P x cs h.1)
  where
    at : (b : Bool) → nat_eq x c ≡ b → b || list_any (nat_eq x) cs ≡ true → (list_any (nat_eq x) cs ≡ true → P x) → P x
    at true is e behind = subst P (sym (eqb-true x c is)) h.0
    at false is e behind = behind e

-- a special octet is visible and no digit
special_is : (x : ℕ) → is_special x ≡ true → (is_ascii_digit x ≡ false) × (is_ascii_graphic x ≡ true)
special_is x e = among (λ y. (is_ascii_digit y ≡ false) × (is_ascii_graphic y ≡ true)) x specials (
  (refl, refl),
  (
    (refl, refl),
    (
      (refl, refl),
      ((refl, refl), ((refl, refl), ((refl, refl), ((refl, refl), ((refl, refl), tt))))),
    ),
  ),
) e

-- an octet that is not special is no dot and no backslash
plain_is : (x : ℕ) → is_special x ≡ false → (x ≢ dot) × (x ≢ backslash)
plain_is x e = (λ is. absurd (no x dot e is refl), λ is. absurd (no x backslash e is refl))
  where
    no : (x c : ℕ) → is_special x ≡ false → x ≡ c → is_special c ≡ true → ⊥
    no x c e is special = let both : false ≡ true = sym e ∙ ap is_special is ∙ special in cc

three_digits : (x : ℕ) → x < 256 → backslash ∷ (decimal (x / 100) ++ decimal (x / 10 % 10) ++ decimal (x % 10))
    ≡ backslash ∷ (48 + x / 100) ∷ (48 + x / 10 % 10) ∷ (48 + x % 10) ∷ []
three_digits x small =
    let a : x / 100 < 10 = omega arith in
    let b : x / 10 % 10 < 10 = omega arith in
    let c : x % 10 < 10 = omega arith in
    λ i. backslash ∷ (decimal_digit (x / 100) a i ++ decimal_digit (x / 10 % 10) b i ++ decimal_digit (x % 10) c i)

digit_is : (a : ℕ) → a < 10 → is_ascii_digit (48 + a) ≡ true
digit_is a h = grind (arith, nat_tests)

octet_text_spells : (x : ℕ) → x < 256 → SpellsOctet (octet_text x) x
octet_text_spells x small = at (is_special x) (is_ascii_graphic x) refl refl
  where
    at : (s g : Bool) → is_special x ≡ s → is_ascii_graphic x ≡ g
        → SpellsOctet (cond s (backslash ∷ x ∷ [])
        (cond g (x ∷ []) (backslash ∷ (decimal (x / 100) ++ decimal (x / 10 % 10) ++ decimal (x % 10))))) x
    at true g special graphic =
        let is = special_is x special in
        SpellsOctet.quoted is.1 (λ digit. false_true (sym is.0 ∙ digit)) refl
      where
        false_true : false ≡ true → ⊥
        false_true e = cc
    at false true special graphic = let is = plain_is x special in SpellsOctet.plain graphic is.0 is.1 refl
    at false false special graphic =
        SpellsOctet.numbered (digit_is (x / 100) (omega arith)) (digit_is (x / 10 % 10) (omega arith))
        (digit_is (x % 10) (omega arith)) (omega arith) small (three_digits x small)

label_text_spells : (label : List ℕ) → AreOctets label → SpellsLabel (flat_map octet_text label) label
label_text_spells [] octets = SpellsLabel.none refl refl
label_text_spells (x ∷ label) octets = SpellsLabel.one_more (octet_text_spells x octets.0)
    (label_text_spells label octets.1) refl refl

labels_text_spells : (label : List ℕ) (n : List (List ℕ)) → IsLabel label → AllByRecursion IsLabel n
    → SpellsLabels (flat_map label_text (label ∷ n)) (label ∷ n)
labels_text_spells label [] is each = SpellsLabels.dotted (label_text_spells label is.octets)
    (append-nil (flat_map octet_text label ++ dot ∷ [])) refl
labels_text_spells label (next ∷ n) is each =
    SpellsLabels.more (label_text_spells label is.octets) (labels_text_spells next n each.0 each.1)
    (append_assoc (flat_map octet_text label) (dot ∷ []) (flat_map label_text (next ∷ n))) refl

pub name_text_spells : (n : List (List ℕ)) → IsName n → Spells (name_text n) n
name_text_spells [] name = inl (refl, refl)
name_text_spells (label ∷ n) name = inr (labels_text_spells label n name.each.0 name.each.1)
