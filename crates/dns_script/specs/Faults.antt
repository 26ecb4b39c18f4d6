-- The one line that is the text where octets are no script.
use Rattle.std.specs.Prelude.{ℕ, List, ◌++◌, codes}
use Rattle.std.specs.Fmt.{decimal}
use Rattle.dns_script.specs.declared.reason.Reason.{Reason}
use Rattle.dns_script.specs.declared.reason.Reason.TheVariants as reasons

-- the word of a reason
abbrev pub reason_word : Reason → List ℕ
reason_word reasons.Text = codes "text"
reason_word reasons.Word = codes "word"
reason_word reasons.Order = codes "order"
reason_word reasons.Anchor = codes "anchor"
reason_word reasons.Key = codes "key"
reason_word reasons.Request = codes "request"
reason_word reasons.Answer = codes "answer"
reason_word reasons.Moment = codes "moment"
reason_word reasons.Step = codes "step"
reason_word reasons.Records = codes "records"
reason_word reasons.Zone = codes "zone"
reason_word reasons.Message = codes "message"
reason_word reasons.Set = codes "set"
reason_word reasons.End = codes "end"

-- the first faulty line, or the line after the last as one that is missing
abbrev pub fault_text : ℕ → Reason → List ℕ
fault_text line reason = codes "fault " ++ decimal line ++ codes " " ++ reason_word reason ++ codes "\n"
