-- Names as text, written and read (RFC 1035 5.1, RFC 4343 2.1).
use Rattle.std.specs.Prelude.{◌≡◌, ◌≢◌, ◌⊎◌, ℕ, zero, suc, ◌+◌, ◌-◌, ◌*◌, ◌/◌, ◌%◌, ◌<◌, List, [], ◌∷◌, ◌++◌}
use Rattle.std.specs.Prelude.{Bool, IsTrue, ◌&&◌, length, nat_eq, nat_lt, if◌then◌else◌, codes, Result, Ok, Err}
use Rattle.std.specs.List.{flat_map, list_any}
use Rattle.std.specs.Cmp.Lexicographic.{pointwise}
use Rattle.std.specs.Fmt.{decimal}
use Rattle.std.specs.Char.{is_ascii_digit, is_ascii_graphic}
use Rattle.dns_wire.specs.declared.error.NameError.{NameError}
use Rattle.dns_wire.specs.declared.error.NameError.TheVariants.{EmptyLabel, LabelTooLong, NameTooLong, BadEscape}
use Rattle.dns_wire.specs.declared.error.NameError.TheVariants.{BadCharacter}
use Rattle.dns_wire.specs.Reading.{◌>>=◌}
use Rattle.dns_names.specs.Names.{wire}

-- the codes of `.`, which ends a label, and of `\`, which escapes
abbrev pub dot : ℕ
dot = 46

abbrev pub backslash : ℕ
backslash = 92

-- ---- text out

-- the octets that have a meaning in text
abbrev pub specials : List ℕ
specials = codes ".\\\"();@$"

-- whether a backslash stands before the octet
abbrev pub is_special : ℕ → Bool
is_special octet = list_any (nat_eq octet) specials

-- A visible octet, 33 to 126, stands for itself, a special one behind a backslash, and any other as a backslash and
-- three decimal digits.
abbrev pub octet_text : ℕ → List ℕ
octet_text octet =
    if is_special octet then backslash ∷ octet ∷ []
    else if is_ascii_graphic octet then octet ∷ []
    else backslash ∷ (decimal (octet / 100) ++ decimal (octet / 10 % 10) ++ decimal (octet % 10))

-- the octets of a label
abbrev pub octets_text : List ℕ → List ℕ
octets_text = flat_map octet_text

-- a label and the dot behind it
abbrev pub label_text : List ℕ → List ℕ
label_text label = octets_text label ++ dot ∷ []

-- each label with its dot; the root is one dot
abbrev pub name_text : List (List ℕ) → List ℕ
name_text [] = dot ∷ []
name_text (label ∷ n) = flat_map label_text (label ∷ n)

-- the labels with a dot between each two; the root is one dot
abbrev pub name_text_without_dot : List (List ℕ) → List ℕ
name_text_without_dot [] = dot ∷ []
name_text_without_dot (label ∷ n) = octets_text label ++ flat_map (λ next. dot ∷ octets_text next) n

-- ---- what a text spells

-- the number of three decimal digits
abbrev pub number_of_digits : ℕ → ℕ → ℕ → ℕ
number_of_digits a b c = (a - 48) * 100 + (b - 48) * 10 + (c - 48)

-- the text spells the octet
pub data SpellsOctet (text : List ℕ) (octet : ℕ) : Type 0 where
  -- a visible character stands for itself, unless it is a dot or a backslash
  plain :
      IsTrue (is_ascii_graphic octet)
      → octet ≢ dot
      → octet ≢ backslash
      → text ≡ octet ∷ []
      → SpellsOctet text octet
  -- so does one that is no digit, behind a backslash
  quoted :
      IsTrue (is_ascii_graphic octet)
      → ¬ IsTrue (is_ascii_digit octet)
      → text ≡ backslash ∷ octet ∷ []
      → SpellsOctet text octet
  -- three decimal digits behind a backslash are the octet of that number
  numbered :
      {a b c : ℕ}
      → IsTrue (is_ascii_digit a)
      → IsTrue (is_ascii_digit b)
      → IsTrue (is_ascii_digit c)
      → octet ≡ number_of_digits a b c
      → octet < 256
      → text ≡ backslash ∷ a ∷ b ∷ c ∷ []
      → SpellsOctet text octet

-- the text spells the octets of the label, one behind the other
pub data SpellsLabel : List ℕ → List ℕ → Type 0 where
  none :
      {text label : List ℕ}
      → text ≡ []
      → label ≡ []
      → SpellsLabel text label
  one_more :
      {text first others label octets : List ℕ} {octet : ℕ}
      → SpellsOctet first octet
      → SpellsLabel others octets
      → text ≡ first ++ others
      → label ≡ octet ∷ octets
      → SpellsLabel text label

-- the text spells the labels
pub data SpellsLabels : List ℕ → List (List ℕ) → Type 0 where
  -- a last label may stand without a dot
  last :
      {text label : List ℕ} {n : List (List ℕ)}
      → SpellsLabel text label
      → n ≡ label ∷ []
      → SpellsLabels text n
  -- and with one
  dotted :
      {text first label : List ℕ} {n : List (List ℕ)}
      → SpellsLabel first label
      → text ≡ first ++ dot ∷ []
      → n ≡ label ∷ []
      → SpellsLabels text n
  -- a dot ends a label, and others follow
  more :
      {text first others label : List ℕ} {n labels : List (List ℕ)}
      → SpellsLabel first label
      → SpellsLabels others labels
      → text ≡ first ++ dot ∷ others
      → n ≡ label ∷ labels
      → SpellsLabels text n

-- the text spells the name: one dot is the root
abbrev pub Spells : List ℕ → List (List ℕ) → Type 0
Spells text n = ((text ≡ dot ∷ []) × (n ≡ [])) ⊎ SpellsLabels text n

-- ---- text in, faults in order from the left

-- three decimal digits, of which the first is here, as an octet, and how many characters they are with the backslash
abbrev pub octet_of_digits : ℕ → List ℕ → Result (ℕ × ℕ) NameError
octet_of_digits a [] = Err BadEscape
octet_of_digits a (b ∷ []) = Err BadEscape
octet_of_digits a (b ∷ c ∷ rest) =
    if is_ascii_digit b && is_ascii_digit c && nat_lt (number_of_digits a b c) 256 then Ok (number_of_digits a b c, 3)
    else Err BadEscape

-- the octet behind a backslash, and how many characters behind that spell it
abbrev pub escaped : List ℕ → Result (ℕ × ℕ) NameError
escaped [] = Err BadEscape
escaped (a ∷ rest) =
    if is_ascii_digit a then octet_of_digits a rest
    else if is_ascii_graphic a then Ok (a, 1)
    else Err BadEscape

-- the octet that a text of this first character begins with, and how many characters behind that one spell it too
abbrev pub first_octet : ℕ → List ℕ → Result (ℕ × ℕ) NameError
first_octet c rest =
    if nat_eq c backslash then escaped rest
    else if is_ascii_graphic c then Ok (c, 0)
    else Err BadCharacter

-- one more octet in a label
abbrev pub add_octet : List ℕ → ℕ → Result (List ℕ) NameError
add_octet label octet = if nat_lt (length label) 63 then Ok (label ++ octet ∷ []) else Err LabelTooLong

-- one more label in a name
abbrev pub add_label : List (List ℕ) → List ℕ → Result (List (List ℕ)) NameError
add_label n label =
    if nat_eq (length label) 0 then Err EmptyLabel
    else if nat_lt 255 (length (wire n) + length label + 1) then Err NameTooLong
    else Ok (n ++ label ∷ [])

-- the name at the end of the text: a last dot may stand
abbrev pub name_at_end : List (List ℕ) → List ℕ → Result (List (List ℕ)) NameError
name_at_end n label = if nat_eq (length label) 0 && nat_lt 0 (length n) then Ok n else add_label n label

-- The name that a text completes, or the first fault, where the labels n and these octets of a label stand before it.
-- So many characters are skipped, which belong to the octet before.
unfoldable pub completed_name : (skipped : ℕ) → List (List ℕ) → List ℕ → List ℕ → Result (List (List ℕ)) NameError
completed_name skipped n label [] = name_at_end n label
completed_name (suc skipped) n label (c ∷ rest) = completed_name skipped n label rest
completed_name zero n label (c ∷ rest) =
    if nat_eq c dot then add_label n label >>= (λ longer. completed_name 0 longer [] rest)
    else first_octet c rest >>= (λ x. add_octet label x.0 >>= (λ longer. completed_name x.1 n longer rest))

-- the name that the text spells, or the first fault; one dot is the root
abbrev pub name_from_text : List ℕ → Result (List (List ℕ)) NameError
name_from_text text = if pointwise nat_eq text (dot ∷ []) then Ok [] else completed_name 0 [] [] text
