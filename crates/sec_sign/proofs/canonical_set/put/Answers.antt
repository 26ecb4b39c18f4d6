use Rattle.std.proofs.Common.{◌<◌, length, map, ◌∙◌, ap}
use Rattle.sec_sign.proofs.Ascending.{map-insert_key, all-insert_key}
use Rattle.sec_sign.proofs.canonical_set.put.Goals as goal

pub returns-clause-put : goal.returns-clause-put
returns-clause-put c =
    ap (map (λ v. v.items)) c.in_ok-insert.ensures.keys
    ∙ map-insert_key (λ v. v.items) c.args.so_far.now.keys c.args.octets

pub returns-clause-each : goal.returns-clause-each
returns-clause-each c =
    rw c.in_ok-insert.ensures.keys
    (all-insert_key (λ v. v.items) (λ v. length v.items < 65536) c.args.so_far.now.keys c.args.octets c.requires.each
    c.requires.short)
