use Rattle.std.proofs.Common.{◌<◌, ℕ, subst, sym}
use Rattle.sec_tsig.proofs.Joins.{counted_start, put_and_counted}
use Rattle.sec_tsig.proofs.joining.append_record.Goals as goal

pub count_one_more-requires-clause-counted : goal.count_one_more-requires-clause-counted
count_one_more-requires-clause-counted g c =
    subst (λ (k : ℕ). k < 65535) (sym (counted_start c.args.buffer.now _ c.args.end c.requires.header c.requires.inside))
    c.requires.counted

pub returns : goal.returns
returns g c message rest octets is len written =
    put_and_counted c.args.buffer.now message rest octets c.put_at_start.new.buffer c.count_one_more.new.octets c.args.end
    c.requires.header is len (c.put_at_start.ensures octets written) c.count_one_more.ensures
