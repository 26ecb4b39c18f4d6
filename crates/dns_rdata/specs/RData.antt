-- What a contract sees of record data: the type, the fields, their values, and the text.
use Rattle.std.specs.Prelude.{◌≡◌, ◌≢◌, ℕ, List, [], ◌∷◌, Option, Some, None, Result, Ok}
use Rattle.std.specs.Net.Addr.{segments_of}
use Rattle.std.specs.Net.Text.{ipv4_text, ipv6_text}
use Rattle.base64.specs.Engines.{standard}
use Rattle.base64.specs.GeneralPurpose.{encode_of}
use Rattle.dns_wire.specs.declared.error.DecodeError.{DecodeError}
use Rattle.dns_wire.specs.Lookup.{lookup}
use Rattle.dns_wire.specs.Reading.{◌>>=◌}
use Rattle.dns_names.specs.NameText.{name_text}
use Rattle.dns_types.specs.TypeNumbers as types
use Rattle.dns_grammar.specs.Fields.{Value, Str, Field, unknown_row, row_of}
use Rattle.dns_grammar.specs.Messages.{tsig_values}
use Rattle.dns_grammar.specs.RecordData.{tsig_type, one_type_data_at}
use Rattle.sec_keydata.specs.DnsKeys.{dnskey_data, dnskey_values, dnskey_text, DnsKeyIsByNumber}
use Rattle.sec_keydata.specs.DnsKeys.{cdnskey_data, cdnskey_values, cdnskey_text, CdnsKeyIsByNumber}
use Rattle.sec_keydata.specs.DsData.{ds_data, ds_values, ds_text, DsIsByNumber}
use Rattle.sec_keydata.specs.DsData.{cds_data, cds_values, cds_text, CdsIsByNumber}
use Rattle.sec_keydata.specs.KeyData.{key_data, key_values, key_text, KeyIsByNumber}
use Rattle.sec_sigdata.specs.HashParameters.{nsec3param_data, hash_values, hash_text}
use Rattle.sec_sigdata.specs.Nsec.{nsec_data, nsec_values, nsec_text}
use Rattle.sec_sigdata.specs.Nsec3.{nsec3_data, nsec3_values, nsec3_text}
use Rattle.sec_sigdata.specs.Signatures.{sig_data, rrsig_data, sig_values, sig_text, SigIsByNumber}
use Rattle.sec_sigdata.specs.TsigRecords.{tsig_data, tsig_fields, tsig_text, TsigIsByNumber, TsigFits}
use Rattle.dns_rdata.specs.declared.dnssec_rdata.DNSSECRData.{DNSSECRData}
use Rattle.dns_rdata.specs.declared.dnssec_rdata.DNSSECRData.TheVariants as dnssec
use Rattle.dns_rdata.specs.declared.rdata.RData.{RData}
use Rattle.dns_rdata.specs.declared.rdata.RData.TheVariants as rdata
use Rattle.dns_rdata.specs.PlainData.{name_values, mx_values, afsdb_values, rt_values, kx_values, px_values}
use Rattle.dns_rdata.specs.PlainData.{minfo_values, rp_values, soa_values, srv_values, naptr_values, txt_values}
use Rattle.dns_rdata.specs.PlainData.{txt_strings, null_octets, null_values}
use Rattle.dns_rdata.specs.RDataTable.{rdata_table}
use Rattle.dns_rdata.specs.Texts.{unknown_text, strings_text, number_name_text, two_names_text}
use Rattle.dns_rdata.specs.Texts.{number_two_names_text, soa_text, srv_text, naptr_text}

-- what a contract sees of record data: the type of a record that has them, the values of the fields, and the text
pub record DataView : Type 0 where
  pub rtype : ℕ
  pub values : List Value
  pub text : List ℕ

abbrev view : ℕ → List Value → List ℕ → DataView
view rtype values text = record { rtype = rtype; values = values; text = text }

-- ---- the data of DNSSEC

-- each type: its number, the values of its fields, its text
abbrev pub dnssec_view : DNSSECRData → DataView
dnssec_view (dnssec.CDNSKEY key) =
    view types.CDNSKEY (cdnskey_values (cdnskey_data key)) (cdnskey_text (cdnskey_data key))
dnssec_view (dnssec.CDS cds) = view types.CDS (cds_values (cds_data cds)) (cds_text (cds_data cds))
dnssec_view (dnssec.DNSKEY key) = view types.DNSKEY (dnskey_values (dnskey_data key)) (dnskey_text (dnskey_data key))
dnssec_view (dnssec.DS ds) = view types.DS (ds_values (ds_data ds)) (ds_text (ds_data ds))
dnssec_view (dnssec.KEY key) = view types.KEY (key_values (key_data key)) (key_text (key_data key))
dnssec_view (dnssec.NSEC nsec) = view types.NSEC (nsec_values (nsec_data nsec)) (nsec_text (nsec_data nsec))
dnssec_view (dnssec.NSEC3 nsec3) = view types.NSEC3 (nsec3_values (nsec3_data nsec3)) (nsec3_text (nsec3_data nsec3))
dnssec_view (dnssec.NSEC3PARAM param) =
    view types.NSEC3PARAM (hash_values (nsec3param_data param)) (hash_text (nsec3param_data param))
dnssec_view (dnssec.RRSIG rrsig) = view types.RRSIG (sig_values (rrsig_data rrsig)) (sig_text (rrsig_data rrsig))
dnssec_view (dnssec.SIG sig) = view types.SIG (sig_values (sig_data sig)) (sig_text (sig_data sig))
dnssec_view (dnssec.Unknown code null) = view code (null_values null) (encode_of standard (null_octets null))

-- the type of a record that has the data
abbrev pub dnssec_type : DNSSECRData → ℕ
dnssec_type x = (dnssec_view x).rtype

-- the fields of the data
abbrev pub dnssec_row : DNSSECRData → List Field
dnssec_row (dnssec.Unknown _ _) = unknown_row
dnssec_row known = row_of rdata_table (dnssec_type known)

-- the values of the fields
abbrev pub dnssec_values : DNSSECRData → List Value
dnssec_values x = (dnssec_view x).values

-- the text
abbrev pub dnssec_text : DNSSECRData → List ℕ
dnssec_text x = (dnssec_view x).text

-- No code that has a name of its own is called unknown, and the type isn't.
abbrev pub DnssecIsByNumber : DNSSECRData → Type 0
DnssecIsByNumber (dnssec.CDNSKEY key) = CdnsKeyIsByNumber (cdnskey_data key)
DnssecIsByNumber (dnssec.CDS cds) = CdsIsByNumber (cds_data cds)
DnssecIsByNumber (dnssec.DNSKEY key) = DnsKeyIsByNumber (dnskey_data key)
DnssecIsByNumber (dnssec.DS ds) = DsIsByNumber (ds_data ds)
DnssecIsByNumber (dnssec.KEY key) = KeyIsByNumber (key_data key)
DnssecIsByNumber (dnssec.RRSIG rrsig) = SigIsByNumber (rrsig_data rrsig)
DnssecIsByNumber (dnssec.SIG sig) = SigIsByNumber (sig_data sig)
DnssecIsByNumber (dnssec.Unknown _ _) = ⊥
DnssecIsByNumber _ = Unit {0}

-- equal, the vectors of a key as the lists that they hold
abbrev pub IsDnssecCopy : DNSSECRData → DNSSECRData → Type 0
IsDnssecCopy (dnssec.CDNSKEY x) (dnssec.CDNSKEY y) = cdnskey_data x ≡ cdnskey_data y
IsDnssecCopy (dnssec.DNSKEY x) (dnssec.DNSKEY y) = dnskey_data x ≡ dnskey_data y
IsDnssecCopy x y = x ≡ y

-- ---- the data of every type

-- each type: its number, the values of its fields, its text
abbrev pub rdata_view : RData → DataView
rdata_view (rdata.A octets) = view types.A (Str octets ∷ []) (ipv4_text octets)
rdata_view (rdata.AAAA octets) = view types.AAAA (Str octets ∷ []) (ipv6_text (segments_of octets))
rdata_view (rdata.NS n) = view types.NS (name_values n) (name_text n)
rdata_view (rdata.MD n) = view types.MD (name_values n) (name_text n)
rdata_view (rdata.MF n) = view types.MF (name_values n) (name_text n)
rdata_view (rdata.CNAME n) = view types.CNAME (name_values n) (name_text n)
rdata_view (rdata.MB n) = view types.MB (name_values n) (name_text n)
rdata_view (rdata.MG n) = view types.MG (name_values n) (name_text n)
rdata_view (rdata.MR n) = view types.MR (name_values n) (name_text n)
rdata_view (rdata.PTR n) = view types.PTR (name_values n) (name_text n)
rdata_view (rdata.DNAME n) = view types.DNAME (name_values n) (name_text n)
rdata_view (rdata.MX mx) = view types.MX (mx_values mx) (number_name_text mx.preference mx.exchange)
rdata_view (rdata.AFSDB afsdb) = view types.AFSDB (afsdb_values afsdb) (number_name_text afsdb.subtype afsdb.hostname)
rdata_view (rdata.RT rt) = view types.RT (rt_values rt) (number_name_text rt.preference rt.intermediate)
rdata_view (rdata.KX kx) = view types.KX (kx_values kx) (number_name_text kx.preference kx.exchanger)
rdata_view (rdata.PX px) = view types.PX (px_values px) (number_two_names_text px.preference px.map822 px.mapx400)
rdata_view (rdata.MINFO minfo) = view types.MINFO (minfo_values minfo) (two_names_text minfo.rmailbx minfo.emailbx)
rdata_view (rdata.RP rp) = view types.RP (rp_values rp) (two_names_text rp.mbox rp.txt)
rdata_view (rdata.SOA soa) = view types.SOA (soa_values soa) (soa_text soa)
rdata_view (rdata.SRV srv) = view types.SRV (srv_values srv) (srv_text srv)
rdata_view (rdata.NAPTR naptr) = view types.NAPTR (naptr_values naptr) (naptr_text naptr)
rdata_view (rdata.TXT txt) = view types.TXT (txt_values txt) (strings_text (txt_strings txt))
rdata_view (rdata.NULL null) = view types.NULL (null_values null) (unknown_text (null_octets null))
rdata_view (rdata.OPT null) = view types.OPT (null_values null) (unknown_text (null_octets null))
rdata_view (rdata.DNSSEC data_of) = dnssec_view data_of
rdata_view (rdata.TSIG tsig) = view types.TSIG (tsig_values (tsig_data tsig)) (tsig_text (tsig_fields tsig))
rdata_view (rdata.Unknown rtype null) = view rtype (null_values null) (unknown_text (null_octets null))
rdata_view (rdata.Update0 rtype) = view rtype [] (unknown_text [])

-- the type of a record that has the data
abbrev pub rdata_type : RData → ℕ
rdata_type x = (rdata_view x).rtype

-- The fields of the data. Those that are called unknown are octets, whatever their type.
abbrev pub rdata_row : RData → List Field
rdata_row (rdata.DNSSEC data_of) = dnssec_row data_of
rdata_row (rdata.Unknown _ _) = unknown_row
rdata_row known = row_of rdata_table (rdata_type known)

-- the values of the fields, and none of empty data
abbrev pub rdata_values : RData → Option (List Value)
rdata_values (rdata.Update0 _) = None
rdata_values x = Some (rdata_view x).values

-- the text
abbrev pub rdata_text : RData → List ℕ
rdata_text x = (rdata_view x).text

-- No type and no code that has a name of its own is called unknown, and no TSIG is empty.
abbrev pub RDataIsByNumber : RData → Type 0
RDataIsByNumber (rdata.DNSSEC data_of) = DnssecIsByNumber data_of
RDataIsByNumber (rdata.TSIG tsig) = TsigIsByNumber (tsig_fields tsig) × TsigFits (tsig_fields tsig)
RDataIsByNumber (rdata.Unknown rtype _) = lookup rdata_table rtype ≡ None
RDataIsByNumber (rdata.Update0 rtype) = rtype ≢ tsig_type
RDataIsByNumber _ = Unit {0}

-- What reading data of this type that are not empty gives, len octets from p, and the place behind them; or the first
-- fault.
abbrev pub filled_data_at : ℕ → List ℕ → ℕ → ℕ → Result (Option (List Value) × ℕ) DecodeError
filled_data_at rtype m p len =
    one_type_data_at (row_of rdata_table rtype) m p len >>= λ values. Ok (Some values.0, values.1)

-- the data of a record of this type, as reading gives them
pub record IsOfType (rtype : ℕ) (x : RData) : Type 0 where
  pub same_type : rdata_type x ≡ rtype
  pub by_number : RDataIsByNumber x

-- equal, vectors as the lists that they hold
abbrev pub IsCopy : RData → RData → Type 0
IsCopy (rdata.TXT x) (rdata.TXT y) = txt_strings x ≡ txt_strings y
IsCopy (rdata.DNSSEC x) (rdata.DNSSEC y) = IsDnssecCopy x y
IsCopy (rdata.TSIG x) (rdata.TSIG y) = tsig_fields x ≡ tsig_fields y
IsCopy x y = x ≡ y
