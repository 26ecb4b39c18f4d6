-- What the answers of a script come to, one after the other.
use Rattle.std.specs.Prelude.{List, [], ◌∷◌, Ok, Err}
use Rattle.sec_anchor.specs.Entries.{EntryData}
use Rattle.sec_sign.specs.Verifying.{Relation}
use Rattle.sec_tsig.specs.Verdict.{TsigChain}
use Rattle.sec_check.specs.Marks.{Trust}
use Rattle.sec_check.specs.Reports.{Answered, answered}
use Rattle.check_script.specs.Script.{Answer, Script}

-- what is trusted when an answer is checked: what the scheme accepts, and the entries, at the moment of the answer
abbrev pub trust_for : Relation → List EntryData → Answer → Trust
trust_for accepts entries answer = record { accepts = accepts; moment = answer.moment; entries = entries }

-- what an answer comes to for a chain: it is accepted with its report, or refused for a cause
abbrev pub answer_found : Relation → List EntryData → TsigChain → Answer → Answered
answer_found accepts entries chain answer = answered (trust_for accepts entries answer) chain answer.octets

-- the chain with which the answers after it are checked; a refused answer leaves the chain as it was
abbrev pub next_chain : TsigChain → Answered → TsigChain
next_chain chain (Ok accepted) = accepted.next
next_chain chain (Err _) = chain

-- what each of these answers comes to, in turn, for the chain of those accepted before it
unfoldable pub answers_found : Relation → List EntryData → TsigChain → List Answer → List Answered
answers_found accepts entries chain [] = []
answers_found accepts entries chain (answer ∷ others) =
    answer_found accepts entries chain answer
    ∷ answers_found accepts entries (next_chain chain (answer_found accepts entries chain answer)) others

-- What each answer of a script comes to, in turn, where a scheme accepts these signatures.
abbrev pub found : Relation → Script → List Answered
found accepts script = answers_found accepts script.entries script.request.chain script.answers
