use Rattle.dns_types.proofs.CodeTexts.{type_is_named, class_is_named}
use Rattle.dns_types.proofs.laws.code_texts_name_their_codes.Goals as goal

pub returns : goal.returns
returns c = record { types = type_is_named; classes = class_is_named }
