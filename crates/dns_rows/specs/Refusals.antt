-- Why a call has no other answer, and what its line then says.
use Rattle.std.specs.Prelude.{ℕ, List, ◌++◌, codes, Result, Ok, Err}
use Rattle.dns_wire.specs.ErrorTexts.{name_error_text, decode_error_text, emit_error_text}
use Rattle.sec_codes.specs.ErrorTexts.{key_error_text}
use Rattle.sec_keydata.specs.ErrorTexts.{key_data_error_text, token_error_text}
use Rattle.dns_lexer.specs.ErrorTexts.{lex_error_text}
use Rattle.sec_anchor.specs.ErrorTexts.{parse_error_text}
use Rattle.sec_sigdata.specs.ErrorTexts.{dns_sec_error_text}
use Rattle.sec_sign.specs.ErrorTexts.{tbs_error_text, sign_error_text, verify_rrsig_error_text}
use Rattle.rrsig_input.specs.ErrorTexts.{input_error_text}
use Rattle.sec_tsig.specs.ErrorTexts.{request_error_text, tsig_sign_error_text}
use Rattle.dns_wire.specs.declared.error.NameError.{NameError}
use Rattle.dns_wire.specs.declared.error.DecodeError.{DecodeError}
use Rattle.dns_wire.specs.declared.error.DecodeError.TheVariants as decode_causes
use Rattle.dns_wire.specs.declared.error.EmitError.{EmitError}
use Rattle.dns_wire.specs.declared.error.EmitError.TheVariants as emit_causes
use Rattle.sec_codes.specs.declared.key_error.KeyError.{KeyError}
use Rattle.sec_codes.specs.declared.key_error.KeyError.TheVariants as key_causes
use Rattle.sec_keydata.specs.declared.key_data_error.KeyDataError.{KeyDataError}
use Rattle.sec_keydata.specs.declared.key_data_error.KeyDataError.TheVariants as key_data_causes
use Rattle.sec_keydata.specs.declared.token_error.TokenError.{TokenError}
use Rattle.sec_keydata.specs.declared.token_error.TokenError.TheVariants as token_causes
use Rattle.dns_lexer.specs.declared.lex_error.LexError.{LexError}
use Rattle.dns_lexer.specs.declared.lex_error.LexError.TheVariants as lex_causes
use Rattle.sec_anchor.specs.declared.parse_error.ParseError.{ParseError}
use Rattle.sec_anchor.specs.declared.parse_error.ParseError.TheVariants as anchor_causes
use Rattle.sec_sigdata.specs.declared.error.DnsSecError.{DnsSecError}
use Rattle.sec_sigdata.specs.declared.error.DnsSecError.TheVariants as mac_causes
use Rattle.sec_sign.specs.declared.tbs_error.TbsError.{TbsError}
use Rattle.sec_sign.specs.declared.tbs_error.TbsError.TheVariants as tbs_causes
use Rattle.sec_sign.specs.declared.sign_error.SignError.{SignError}
use Rattle.sec_sign.specs.declared.sign_error.SignError.TheVariants as sign_causes
use Rattle.sec_sign.specs.declared.verify_error.VerifyRrsigError.{VerifyRrsigError}
use Rattle.sec_sign.specs.declared.verify_error.VerifyRrsigError.TheVariants as verify_causes
use Rattle.rrsig_input.specs.declared.input_error.InputError.{InputError}
use Rattle.sec_tsig.specs.declared.request_error.RequestError.{RequestError}
use Rattle.sec_tsig.specs.declared.sign_error.TsigSignError.{TsigSignError}
use Rattle.sec_tsig.specs.declared.sign_error.TsigSignError.TheVariants as response_causes
use Rattle.dns_rows.specs.declared.refusal.Refusal.{Refusal}
use Rattle.dns_rows.specs.declared.refusal.Refusal.TheVariants as refusals

-- ---- the refusals of the library as those of calls, want of memory as the one of calls

abbrev pub name_refusal : NameError → Refusal
name_refusal cause = refusals.Name cause

abbrev pub decode_refusal : DecodeError → Refusal
decode_refusal decode_causes.OutOfMemory = refusals.OutOfMemory
decode_refusal cause = refusals.Decode cause

abbrev pub emit_refusal : EmitError → Refusal
emit_refusal emit_causes.OutOfMemory = refusals.OutOfMemory
emit_refusal cause = refusals.Emit cause

abbrev pub key_refusal : KeyError → Refusal
key_refusal key_causes.OutOfMemory = refusals.OutOfMemory
key_refusal cause = refusals.Key cause

abbrev pub key_data_refusal : KeyDataError → Refusal
key_data_refusal key_data_causes.OutOfMemory = refusals.OutOfMemory
key_data_refusal cause = refusals.KeyData cause

abbrev pub token_refusal : TokenError → Refusal
token_refusal token_causes.OutOfMemory = refusals.OutOfMemory
token_refusal cause = refusals.Token cause

abbrev pub lex_refusal : LexError → Refusal
lex_refusal lex_causes.OutOfMemory = refusals.OutOfMemory
lex_refusal cause = refusals.Lex cause

abbrev pub anchor_refusal : ParseError → Refusal
anchor_refusal anchor_causes.OutOfMemory = refusals.OutOfMemory
anchor_refusal cause = refusals.Anchor cause

abbrev pub mac_refusal : DnsSecError → Refusal
mac_refusal mac_causes.OutOfMemory = refusals.OutOfMemory
mac_refusal cause = refusals.Mac cause

abbrev pub tbs_refusal : TbsError → Refusal
tbs_refusal tbs_causes.OutOfMemory = refusals.OutOfMemory
tbs_refusal cause = refusals.Tbs cause

abbrev pub sign_refusal : SignError → Refusal
sign_refusal sign_causes.OutOfMemory = refusals.OutOfMemory
sign_refusal cause = refusals.Sign cause

abbrev pub verify_refusal : VerifyRrsigError → Refusal
verify_refusal verify_causes.OutOfMemory = refusals.OutOfMemory
verify_refusal cause = refusals.Verify cause

abbrev pub input_refusal : InputError → Refusal
input_refusal cause = refusals.Input cause

abbrev pub request_refusal : RequestError → Refusal
request_refusal cause = refusals.Request cause

abbrev pub response_refusal : TsigSignError → Refusal
response_refusal response_causes.OutOfMemory = refusals.OutOfMemory
response_refusal cause = refusals.Response cause

-- an answer with its refusal as that of a call
abbrev pub with_refusal : {A E : Type 0} → (E → Refusal) → Result A E → Result A Refusal
with_refusal refusal (Ok x) = Ok x
with_refusal refusal (Err cause) = Err (refusal cause)

-- ---- what the line says

-- `no call`; else `refused` and what the cause prints
abbrev pub refusal_text : Refusal → List ℕ
refusal_text refusals.NoCall = codes "no call"
refusal_text (refusals.Name cause) = codes "refused " ++ name_error_text cause
refusal_text (refusals.Decode cause) = codes "refused " ++ decode_error_text cause
refusal_text (refusals.Emit cause) = codes "refused " ++ emit_error_text cause
refusal_text (refusals.Key cause) = codes "refused " ++ key_error_text cause
refusal_text (refusals.KeyData cause) = codes "refused " ++ key_data_error_text cause
refusal_text (refusals.Token cause) = codes "refused " ++ token_error_text cause
refusal_text (refusals.Lex cause) = codes "refused " ++ lex_error_text cause
refusal_text (refusals.Anchor cause) = codes "refused " ++ parse_error_text cause
refusal_text (refusals.Mac cause) = codes "refused " ++ dns_sec_error_text cause
refusal_text (refusals.Tbs cause) = codes "refused " ++ tbs_error_text cause
refusal_text (refusals.Sign cause) = codes "refused " ++ sign_error_text cause
refusal_text (refusals.Verify cause) = codes "refused " ++ verify_rrsig_error_text cause
refusal_text (refusals.Input cause) = codes "refused " ++ input_error_text cause
refusal_text (refusals.Request cause) = codes "refused " ++ request_error_text cause
refusal_text (refusals.Response cause) = codes "refused " ++ tsig_sign_error_text cause
refusal_text refusals.OutOfMemory = codes "refused OutOfMemory"

-- what a call is answered
abbrev pub answer_text : Result (List ℕ) Refusal → List ℕ
answer_text (Ok text) = text
answer_text (Err refusal) = refusal_text refusal
