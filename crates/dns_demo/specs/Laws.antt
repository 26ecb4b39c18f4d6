-- What is true of the demo: each definition that falls back to nothing where a call refuses has an answer of the call.
use Rattle.std.specs.Prelude.{◌≡◌, ℕ, ◌^◌, ◌<◌, ◌%◌, ◌==◌, List, [], ◌∷◌, IsSome, Ok}
use Rattle.dns_types.specs.ClassNumbers as classes
use Rattle.sec_anchor.specs.Entries.{entries_of}
use Rattle.sec_sign.specs.Signed.{signed}
use Rattle.sec_tsig.specs.Requests.{signed_request}
use Rattle.sec_tsig.specs.Tsig.{with_record}
use Rattle.dns_demo.specs.Demo.{address, anchor_text, answer, demo_entries, demo_query, demo_request, demo_signer, demo_time}
use Rattle.dns_demo.specs.Demo.{demo_written, owner, record_of, records_under, signature_fields, signed_set}
use Rattle.dns_demo.specs.Demo.{unsigned_answer, with_mac_turned_if}

-- The anchor text is read.
abbrev pub AnchorIsRead : Type 0
AnchorIsRead = entries_of anchor_text ≡ Ok demo_entries

-- The request is what is written of its question.
abbrev pub RequestIsWritten : Type 0
RequestIsWritten = demo_written 0x0100 (demo_query ∷ []) [] ≡ Ok demo_request

-- The request is signed.
abbrev pub RequestIsSigned : Type 0
RequestIsSigned = IsSome (signed_request demo_signer demo_time demo_request)

-- The set of each answer has octets to sign.
abbrev pub SetsAreSigned : Type 0
SetsAreSigned = (k : ℕ) → signed signature_fields (owner k) classes.IN (address (owner k) k ∷ [])
    ≡ Ok (signed_set signature_fields (owner k) (address (owner k) k ∷ []))

-- Each answer is what is written of its records.
abbrev pub AnswersAreWritten : Type 0
AnswersAreWritten = (k : ℕ) → k < 2 ^ 16 → demo_written 0x8180 [] (records_under (owner k) k) ≡ Ok (unsigned_answer k)

-- A TSIG record is put behind each answer, whatever MAC it is behind.
abbrev pub AnswersHaveTsig : Type 0
AnswersHaveTsig = (mac : List ℕ) (k : ℕ) → k < 2 ^ 16
    → with_record (unsigned_answer k) (with_mac_turned_if (k % 4 == 0) (record_of mac k)) ≡ Ok (answer mac k)
