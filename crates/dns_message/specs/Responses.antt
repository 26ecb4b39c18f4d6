-- What reading a response answers.
use Rattle.std.specs.Prelude.{◌≡◌, ◌≢◌, ◌⊎◌, true, ℕ, List, Result, Ok, Err, if◌then◌else◌, IfOk, IsOkAnd}
use Rattle.dns_wire.specs.declared.error.DecodeError.{DecodeError}
use Rattle.dns_wire.specs.declared.error.DecodeError.TheVariants as faults
use Rattle.dns_wire.specs.Reading.{GivesUnless}
use Rattle.dns_grammar.specs.Messages as grammar
use Rattle.dns_grammar.specs.Messages.{MessageAt, message_at}
use Rattle.dns_rdata.specs.RDataTable.{rdata_table}
use Rattle.dns_message.specs.declared.message.Message.{Message}
use Rattle.dns_message.specs.declared.response.DnsResponse.{DnsResponse}
use Rattle.dns_message.specs.declared.response.ResponseError.{ResponseError}
use Rattle.dns_message.specs.declared.response.ResponseError.TheVariants.{Decode, NotAResponse, OutOfMemory}
use Rattle.dns_message.specs.OwnedMessages.{IsReadMessage}
use Rattle.dns_message.specs.Parts.{Parts, message_parts, parts_of, has_qr}

-- the message of a response, and the octets that it was read from
abbrev pub response_message : DnsResponse → Message
response_message response = response.message

abbrev pub response_octets : DnsResponse → List ℕ
response_octets response = response.buffer.items

-- the parts of a response
abbrev pub response_parts : DnsResponse → Parts
response_parts response = message_parts (response_message response)

-- the parts of a message whose bit QR is set
abbrev pub response_of : Result (grammar.Message × ℕ) DecodeError → Result Parts ResponseError
response_of (Err fault) = Err (Decode fault)
response_of (Ok x) = if has_qr x.0.header.flags then Ok (parts_of x.0) else Err NotAResponse

-- The answer of a call that reads octets as a response: its parts and its octets, exactly where a message stands in
-- them whose bit QR is set; or why not. Want of memory may come in place of any answer.
pub record ReadsResponse (m : List ℕ) (result : Result DnsResponse ResponseError) : Type 0 where
  -- what the reading function gives
  pub exact : GivesUnless OutOfMemory response_parts result (response_of (message_at rdata_table m))
  -- what is answered stands there
  pub found : IfOk result (λ response. (message : grammar.Message) × (e : ℕ) × MessageAt rdata_table m message e
      × (has_qr message.header.flags ≡ true) × (response_parts response ≡ parts_of message))
  -- what stands there is answered
  pub only : (message : grammar.Message) (e : ℕ) → MessageAt rdata_table m message e
      → has_qr message.header.flags ≡ true
      → (result ≡ Err OutOfMemory) ⊎ IsOkAnd result (λ response. response_parts response ≡ parts_of message)
  -- the octets are kept
  pub octets : IfOk result (λ response. response_octets response ≡ m)
  -- types and codes are those of their numbers, and nothing is proved
  pub as_read : IfOk result (λ response. IsReadMessage (response_message response))
  -- want of memory is no fault of the octets
  pub no_memory : result ≢ Err (Decode faults.OutOfMemory)
