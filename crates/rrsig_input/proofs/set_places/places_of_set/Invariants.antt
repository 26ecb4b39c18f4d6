use Rattle.std.proofs.Common.{◌≡◌, ◌+◌, ◌≤◌, length, map}
use Rattle.std.specs.Prelude.{IsOk}
use Rattle.std.specs.List.{All, AllByRecursion}
use Rattle.dns_names.specs.PointerCache.{IsPointerCache}
use Rattle.dns_grammar.specs.Messages.{message_at}
use Rattle.dns_rdata.specs.RDataTable.{rdata_table}
use Rattle.message_walk.specs.Places.{data_at}
use Rattle.sec_sign.specs.Ascending.{Ascend}
use Rattle.sec_sign.specs.Pairs.{set_named}
use Rattle.sec_sign.specs.Sets.{SetName}
use Rattle.rrsig_input.specs.SignedSets.{data_from, set_in}
use Rattle.rrsig_input.proofs.Walks.{data_of_each}
use Rattle.rrsig_input.proofs.MessageSteps.{IsPlace}
use Rattle.rrsig_input.proofs.SetSteps.{put_each}
use Rattle.rrsig_input.proofs.set_places.places_of_set.Given as goal

abbrev pub invariant-records : goal.invariant-records
invariant-records l =
    let set : SetName = set_named l.set in
    record {
      read : put_each (map (data_from l.message) l.places) (data_of_each l.message l.section set l.walk.left)
          ≡ set_in (message_at rdata_table l.message) l.section set;
      same : l.walk.message ≡ l.message;
      order : l.order ≡ l.message;
      cache : IsPointerCache l.message l.cache;
      stand : AllByRecursion (IsPlace l.message) l.walk.left;
      listed : All (λ place. IsOk (data_at l.message place)) l.places;
      ascend : Ascend (map (data_from l.message) l.places);
      room : length l.places + length l.walk.left ≤ 5956;
      short : length l.message ≤ 65535;
    }

abbrev pub decreases-records : goal.decreases-records
decreases-records l = length l.walk.left
