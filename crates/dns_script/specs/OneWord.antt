-- Lines of one word after the first.
use Rattle.std.specs.Prelude.{ℕ, List, Result}
use Rattle.std.specs.Option.{ok_or}
use Rattle.dns_wire.specs.Reading.{◌>>=◌}
use Rattle.dns_text.specs.Words.{words, one_word, number_below, decode_hex}
use Rattle.dns_script.specs.declared.reason.Reason.{Reason}
use Rattle.dns_script.specs.declared.error.LineError.{LineError}
use Rattle.dns_script.specs.declared.error.LineError.TheVariants.{Fault}

-- `N`, a number below an end
abbrev pub number_word : ℕ → Reason → List ℕ → Result ℕ LineError
number_word end reason text = do
  word ← ok_or (one_word (words text)) (Fault reason)
  ok_or (number_below end word) (Fault reason)

-- `HEX`, octets
abbrev pub octets_word : Reason → List ℕ → Result (List ℕ) LineError
octets_word reason text = do
  word ← ok_or (one_word (words text)) (Fault reason)
  ok_or (decode_hex word) (Fault reason)
