use Rattle.dns_grammar.proofs.RowReaderLaws.{fields_found, fields_only}
use Rattle.dns_grammar.proofs.check.check_fields.Goals as goal

pub returns-clause-found : goal.returns-clause-found
returns-clause-found g c = fields_found _ c.args.end c.args.decoder.now _ _ c.requires.inside c.pass_fields.ensures.exact

pub returns-clause-only : goal.returns-clause-only
returns-clause-only g c = fields_only _ c.args.end c.args.decoder.now _ _ c.requires.inside c.pass_fields.ensures.exact
