use Rattle.std.proofs.Common.{rules, ◌≡◌, ap, arith, length}
use Rattle.sec_tsig.specs.Tsig.{tsig_record}
use Rattle.dns_demo.specs.Demo.{record_of}
use Rattle.dns_demo.proofs.AnswersWritten.{behind_counted, can_be_followed}
use Rattle.dns_demo.proofs.answering.answer.Goals as goal

pub answer_record-requires : goal.answer_record-requires
answer_record-requires c = omega (arith, ap length c.as_slice.ensures.value, c.requires.counted)

pub followed_by_tsig-requires-clause-joinable : goal.followed_by_tsig-requires-clause-joinable
followed_by_tsig-requires-clause-joinable c =
    let record_is : tsig_record c.in_ok-rr.rr ≡ record_of c.args.mac.items c.args.number = search rules in
    can_be_followed c.length_of_hmac.ensures c.args.mac.items c.in_ok-octets.octets.items c.args.number
    (tsig_record c.in_ok-rr.rr) (tsig_record c.turn_mac_if.result) (omega arith) c.in_ok-octets.ensures.exact record_is
    c.turn_mac_if.ensures

pub returns-clause-counted : goal.returns-clause-counted
returns-clause-counted c =
    let record_is : tsig_record c.in_ok-rr.rr ≡ record_of c.args.mac.items c.args.number = search rules in
    behind_counted c.length_of_hmac.ensures c.args.mac.items c.in_ok-behind.behind.items c.args.number
    (tsig_record c.in_ok-rr.rr) c.requires.counted record_is c.in_ok-behind.ensures
