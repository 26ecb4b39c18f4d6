-- The fields of each type of record whose data are known. Of NULL and OPT that is octets. The data of every type that
-- isn't here are octets too, of which nothing is known (RFC 3597 3).
use Rattle.std.specs.Prelude.{List, [], ◌∷◌}
use Rattle.dns_wire.specs.declared.error.EmitError.TheVariants.{StringTooLong}
use Rattle.dns_types.specs.TypeNumbers as types
use Rattle.dns_grammar.specs.Fields.{One, Two, Four, Number, Fixed, Counted, Strings, LoweredName, Field, Table, any}
use Rattle.dns_grammar.specs.Fields.{unknown_row}
use Rattle.dns_grammar.specs.Tables.{tsig_row}
use Rattle.sec_keydata.specs.KeyRows.{dnskey_row, ds_row, key_row}
use Rattle.sec_sigdata.specs.SignatureRows.{sig_row, nsec_row, nsec3_row, nsec3param_row}

-- ---- rows; canonical form lowers each of these names (RFC 4034 6.2)

-- an address (RFC 1035 3.4.1)
abbrev pub a_row : List Field
a_row = any (Fixed 4) ∷ []

-- an address of IPv6 (RFC 3596 2.2)
abbrev pub aaaa_row : List Field
aaaa_row = any (Fixed 16) ∷ []

-- a name
abbrev pub name_row : List Field
name_row = any LoweredName ∷ []

-- a number, as a preference, and the name of a host
abbrev pub number_name_row : List Field
number_name_row = any (Number Two) ∷ any LoweredName ∷ []

-- two names
abbrev pub two_names_row : List Field
two_names_row = any LoweredName ∷ any LoweredName ∷ []

-- a number and two names
abbrev pub number_two_names_row : List Field
number_two_names_row = any (Number Two) ∷ any LoweredName ∷ any LoweredName ∷ []

-- the primary server, the mailbox of who is responsible, serial, refresh, retry, expire, minimum (RFC 1035 3.3.13)
abbrev pub soa_row : List Field
soa_row =
    any LoweredName ∷ any LoweredName ∷ any (Number Four) ∷ any (Number Four) ∷ any (Number Four) ∷ any (Number Four)
    ∷ any (Number Four) ∷ []

-- priority, weight, port, target (RFC 2782)
abbrev pub srv_row : List Field
srv_row = any (Number Two) ∷ any (Number Two) ∷ any (Number Two) ∷ any LoweredName ∷ []

-- order, preference, flags, services, regular expression, replacement (RFC 3403 4.1)
abbrev pub naptr_row : List Field
naptr_row =
    any (Number Two) ∷ any (Number Two) ∷ any (Counted One StringTooLong) ∷ any (Counted One StringTooLong)
    ∷ any (Counted One StringTooLong) ∷ any LoweredName ∷ []

-- strings, at least one of them, since data of no octets are empty (RFC 1035 3.3.14)
abbrev pub txt_row : List Field
txt_row = any Strings ∷ []

-- ---- the table

abbrev pub rdata_table : Table
rdata_table =
    -- RFC 1035 3.4.1
    (types.A, a_row)
    -- RFC 1035 3.3.11
    ∷ (types.NS, name_row)
    -- RFC 1035 3.3.4
    ∷ (types.MD, name_row)
    -- RFC 1035 3.3.5
    ∷ (types.MF, name_row)
    -- RFC 1035 3.3.1
    ∷ (types.CNAME, name_row)
    -- RFC 1035 3.3.13
    ∷ (types.SOA, soa_row)
    -- RFC 1035 3.3.3
    ∷ (types.MB, name_row)
    -- RFC 1035 3.3.6
    ∷ (types.MG, name_row)
    -- RFC 1035 3.3.8
    ∷ (types.MR, name_row)
    -- RFC 1035 3.3.10
    ∷ (types.NULL, unknown_row)
    -- RFC 1035 3.3.12
    ∷ (types.PTR, name_row)
    -- RFC 1035 3.3.7: responsible mailbox, mailbox for errors
    ∷ (types.MINFO, two_names_row)
    -- RFC 1035 3.3.9: preference, exchange
    ∷ (types.MX, number_name_row)
    -- RFC 1035 3.3.14
    ∷ (types.TXT, txt_row)
    -- RFC 1183 2.2: mailbox, name of a TXT record
    ∷ (types.RP, two_names_row)
    -- RFC 1183 1: subtype, host
    ∷ (types.AFSDB, number_name_row)
    -- RFC 1183 3.3: preference, intermediate host
    ∷ (types.RT, number_name_row)
    -- RFC 2535 4.1
    ∷ (types.SIG, sig_row)
    -- RFC 2535 3.1
    ∷ (types.KEY, key_row)
    -- RFC 2163 4: preference, RFC 822 domain, X.400 domain
    ∷ (types.PX, number_two_names_row)
    -- RFC 3596 2.2
    ∷ (types.AAAA, aaaa_row)
    -- RFC 2782
    ∷ (types.SRV, srv_row)
    -- RFC 3403 4.1
    ∷ (types.NAPTR, naptr_row)
    -- RFC 2230 3.1: preference, exchanger
    ∷ (types.KX, number_name_row)
    -- RFC 6672 2.1
    ∷ (types.DNAME, name_row)
    -- RFC 6891 6.1.2
    ∷ (types.OPT, unknown_row)
    -- RFC 4034 5.1
    ∷ (types.DS, ds_row)
    -- RFC 4034 3.1
    ∷ (types.RRSIG, sig_row)
    -- RFC 4034 4.1
    ∷ (types.NSEC, nsec_row)
    -- RFC 4034 2.1
    ∷ (types.DNSKEY, dnskey_row)
    -- RFC 5155 3.2
    ∷ (types.NSEC3, nsec3_row)
    -- RFC 5155 4.2
    ∷ (types.NSEC3PARAM, nsec3param_row)
    -- RFC 7344 3.1
    ∷ (types.CDS, ds_row)
    -- RFC 7344 3.2
    ∷ (types.CDNSKEY, dnskey_row)
    -- RFC 8945 4.2
    ∷ (types.TSIG, tsig_row)
    ∷ []
