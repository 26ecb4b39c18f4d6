-- What a call leaves in the caller's memory.
use Rattle.std.specs.Prelude.{ℕ, List, ◌++◌, length, drop, nat_lt, if◌then◌else◌, Result, Ok, Err}
use Rattle.dns_c.specs.declared.status.Status.{Status}
use Rattle.dns_c.specs.declared.status.Status.TheVariants as status

-- the number of a status, as it stands in the header for C
abbrev pub number_of : Status → ℕ
number_of status.Done = 0
number_of status.OutTooShort = 1
number_of status.UnknownHash = 2
number_of status.UnknownDigestType = 3
number_of status.DataTooLong = 4
number_of status.SaltTooLong = 5
number_of status.BadName = 6
number_of status.NotUtf8 = 7
number_of status.EmptyLabel = 8
number_of status.LabelTooLong = 9
number_of status.NameTooLong = 10
number_of status.BadEscape = 11
number_of status.BadCharacter = 12
number_of status.TimeTooLarge = 13
number_of status.NotARequest = 14
number_of status.CountTooLarge = 15
number_of status.MessageTooLong = 16
number_of status.BadChain = 17
number_of status.NotAMessage = 18
number_of status.MissingTsig = 19
number_of status.WrongKey = 20
number_of status.TruncatedMac = 21
number_of status.WrongMac = 22
number_of status.Outdated = 23
number_of status.NotAResponse = 24
number_of status.BadSection = 25
number_of status.NoRecord = 26
number_of status.NoRrsig = 27
number_of status.LabelsExceedOwner = 28

-- The status of a call, and a value of the caller's behind it: what was found, or the status of a refusal, which leaves
-- the value as it was.
abbrev pub answered : {X : Type 0} → Result X Status → X → ℕ × X
answered (Ok x) old = (number_of status.Done, x)
answered (Err refusal) old = (number_of refusal, old)

-- The status of a call, the caller's room and the number of those found behind it: what was found in the first places of
-- the room; or, where they are more than the room has, only how many they are; or the status of a refusal, which leaves
-- both as they were.
abbrev pub answered_list : {X : Type 0} → Result (List X) Status → List X → ℕ → ℕ × List X × ℕ
answered_list (Ok xs) out out_len =
    if nat_lt (length out) (length xs) then (number_of status.OutTooShort, out, length xs)
    else (number_of status.Done, xs ++ drop (length xs) out, length xs)
answered_list (Err refusal) out out_len = (number_of refusal, out, out_len)
