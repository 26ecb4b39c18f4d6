-- What is put, at Some, is `insert_key` of the data.
use Rattle.std.proofs.Common.{sym, ◌∙◌, subst}
use Rattle.std.specs.List.{All}
use Rattle.sec_sign.specs.Ascending.{Ascend}
use Rattle.rrsig_input.proofs.PlaceLists.{ascend_put, map-insert, all_put}
use Rattle.rrsig_input.proofs.place_list.PlaceList.insert.Goals as goal

pub returns-in-Some-clause-put : goal.returns-in-Some-clause-put
returns-in-Some-clause-put g c =
    rw c.insert_at.ensures
    (map-insert (g.D.DataByPlace.canonical (g.D.DataByPlace.source c.args.records.now)) c.args.self.now c.in-Some.index c.args.place
    ∙ sym (rw c.as_slice.ensures at c.in-Some.ensures.missing))

pub returns-in-Some-clause-ascend : goal.returns-in-Some-clause-ascend
returns-in-Some-clause-ascend g c =
    subst Ascend (sym (returns-in-Some-clause-put g c)) (ascend_put _ _ c.requires.ascend)

pub returns-in-Some-clause-listed : goal.returns-in-Some-clause-listed
returns-in-Some-clause-listed g c =
    let stands = g.D.DataByPlace.stands (g.D.DataByPlace.source c.args.records.now) in
    subst (All stands) (sym c.insert_at.ensures)
    (all_put stands c.args.self.now c.in-Some.index c.args.place c.requires.listed c.requires.stands)
