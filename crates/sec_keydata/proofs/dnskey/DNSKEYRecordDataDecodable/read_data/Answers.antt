use Rattle.std.proofs.Common.{rules}
use Rattle.dns_grammar.proofs.RowReaderLaws.{reads_row}
use Rattle.sec_keydata.proofs.dnskey.DNSKEYRecordDataDecodable.read_data.Goals as goal

pub returns-in_err-fields-clause-read : goal.returns-in_err-fields-clause-read
returns-in_err-fields-clause-read c = reads_row _ _ _ _ _ _ _ (search rules) (search rules)

pub returns-clause-read : goal.returns-clause-read
returns-clause-read c = reads_row _ _ _ _ _ _ _ (search rules) (search rules)
