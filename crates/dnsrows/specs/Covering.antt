-- The calls on whole messages, and on the octets that their signatures cover.
use Rattle.std.specs.Prelude.{ℕ, List, [], ◌∷◌, ◌++◌, codes, Option, Some, None, if◌then◌else◌, Result, Ok}
use Rattle.std.specs.Fmt.{decimal}
use Rattle.std.specs.List.{flat_map}
use Rattle.std.specs.Option.{ok_or}
use Rattle.std.specs.Str.{bytes_eq}
use Rattle.dns_text.specs.Words.{one_word}
use Rattle.dns_wire.specs.Reading.{◌>>=◌}
use Rattle.dns_names.specs.NameText.{name_text}
use Rattle.dns_grammar.specs.Messages.{ResourceRecord}
use Rattle.dns_message.specs.declared.section.Section.TheVariants as sections
use Rattle.sec_sigdata.specs.Signatures.{SigData}
use Rattle.sec_sign.specs.MessageSignatures.{rrsig_in}
use Rattle.sec_sign.specs.Sets.{set_octets}
use Rattle.sec_sign.specs.Signed.{set_covered, signed_of}
use Rattle.rrsig_input.specs.SignedSets.{signed_input}
use Rattle.dns_rows.specs.declared.refusal.Refusal.{Refusal}
use Rattle.dns_rows.specs.declared.refusal.Refusal.TheVariants.{NoCall}
use Rattle.dns_rows.specs.Refusals.{answer_text, input_refusal, tbs_refusal, with_refusal}
use Rattle.dns_rows.specs.Rows.{hex_word}
use Rattle.dns_rows.specs.CallTexts.{separated}
use Rattle.dns_rows.specs.CallWords.{octets_in}
use Rattle.dnsrows.specs.Messages.{message_in, octets_of_parts, of_message}
use Rattle.dnsrows.specs.Pairs.{pair_calls}

-- ---- a line for a signature

-- the octets that a signature covers and the signature itself, or why it covers none
abbrev pub covered_words : SigData → Result (List ℕ) Refusal → Result (List ℕ) Refusal
covered_words sig covered = do
  octets ← covered
  Ok (hex_word octets ++ codes " " ++ hex_word sig.sig)

-- the key tag, the signer's name, and these words
abbrev pub signature_line : SigData → List ℕ → List ℕ
signature_line sig words =
    decimal sig.input.key_tag ++ codes " " ++ name_text sig.input.signer_name ++ codes " " ++ words

-- ---- a line for each signature among the answers

-- the line of a record, where it is a signature
abbrev pub line_of : (SigData → Result (List ℕ) Refusal) → Option SigData → List (List ℕ)
line_of covered None = []
line_of covered (Some sig) = signature_line sig (answer_text (covered_words sig (covered sig))) ∷ []

-- what a signature covers of the records that have its owner and class and the type covered (RFC 4034 section 3.1.8.1)
abbrev pub covered_among : List ResourceRecord → ResourceRecord → SigData → Result (List ℕ) Refusal
covered_among answers rr sig =
    with_refusal tbs_refusal
    (signed_of sig.input rr.name rr.dns_class
    (set_octets (set_covered rr.name rr.dns_class sig.input) answers))

abbrev pub covered_line : List ResourceRecord → ResourceRecord → List (List ℕ)
covered_line answers rr = line_of (covered_among answers rr) (rrsig_in rr)

abbrev pub covered_lines : List ResourceRecord → List (List ℕ)
covered_lines answers = flat_map (covered_line answers) answers

-- the same by the place where the record starts in the octets of the message
abbrev pub covered_from : List ℕ → ResourceRecord → Result (List ℕ) Refusal
covered_from octets rr =
    with_refusal input_refusal (signed_input octets sections.Answer rr.name rr.dns_class rr.start)

abbrev pub placed_line : List ℕ → ResourceRecord → List (List ℕ)
placed_line octets rr = line_of (λ _. covered_from octets rr) (rrsig_in rr)

abbrev pub placed_lines : List ℕ → Result (List (List ℕ)) Refusal
placed_lines octets = of_message (λ message. flat_map (placed_line octets) message.answers) octets

-- ---- calls

-- `written HEX`
abbrev pub written_answer : List (List ℕ) → Result (List ℕ) Refusal
written_answer others = do
  word ← ok_or (one_word others) NoCall
  parts ← message_in word
  octets ← octets_of_parts parts
  Ok (hex_word octets)

-- `covered HEX`
abbrev pub covered_answer : List (List ℕ) → Result (List ℕ) Refusal
covered_answer others = do
  word ← ok_or (one_word others) NoCall
  parts ← message_in word
  Ok (separated (codes "\n") (covered_lines parts.answers))

-- `covered-in-place HEX`
abbrev pub placed_answer : List (List ℕ) → Result (List ℕ) Refusal
placed_answer others = do
  word ← ok_or (one_word others) NoCall
  octets ← octets_in word
  lines ← placed_lines octets
  Ok (separated (codes "\n") lines)

-- what the call of this word answers
abbrev pub covering_calls : List ℕ → List (List ℕ) → Result (List ℕ) Refusal
covering_calls word others =
    if bytes_eq word (codes "written") then written_answer others
    else if bytes_eq word (codes "covered") then covered_answer others
    else if bytes_eq word (codes "covered-in-place") then placed_answer others
    else pair_calls word others
