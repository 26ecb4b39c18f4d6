-- The fields of the table whose values are tested.
use Rattle.dns_grammar.specs.Fields.{One, Two, Number, Field}
use Rattle.sec_keydata.specs.KeyRows.{protocol_fault, key_flags_fault}
use Rattle.sec_sigdata.specs.SignatureRows.{type_set, hash_algorithm, nsec3_flags}
use Rattle.dns_rdata.specs.declared.data_fields.FieldCheck.{FieldCheck}
use Rattle.dns_rdata.specs.declared.data_fields.FieldCheck.TheVariants as tests

abbrev pub tested_field : FieldCheck → Field
tested_field tests.DnskeyProtocol = record { kind = Number One; fault = protocol_fault }
tested_field tests.KeyFlags = record { kind = Number Two; fault = key_flags_fault }
tested_field tests.HashAlgorithm = hash_algorithm
tested_field tests.Nsec3Flags = nsec3_flags
tested_field tests.TypeSet = type_set
