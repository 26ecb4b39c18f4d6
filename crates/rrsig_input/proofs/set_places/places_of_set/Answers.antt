use Rattle.std.proofs.Common.{◌≡◌, ℕ, [], List, length, map, ap, sym, subst, ◌∙◌, arith, rules}
use Rattle.std.specs.Prelude.{IsOk}
use Rattle.std.specs.List.{All}
use Rattle.message_walk.specs.Places.{data_at}
use Rattle.sec_sign.specs.Ascending.{Ascend, ascending}
use Rattle.sec_sign.proofs.AscendingLaws.{ascends}
use Rattle.sec_sign.specs.Pairs.{set_named}
use Rattle.sec_sign.specs.Sets.{SetName}
use Rattle.rrsig_input.specs.SignedSets.{data_from}
use Rattle.rrsig_input.proofs.Walks.{data_of_each}
use Rattle.rrsig_input.proofs.MessageSteps.{each_stands, few_places, short_message}
use Rattle.rrsig_input.proofs.SetSteps.{from_none, put_each}
use Rattle.rrsig_input.proofs.set_places.places_of_set.Goals as goal

pub records-init : goal.records-init
unfolding ascending
records-init c =
    let m = c.args.message.now in
    let left = c.args.walk.left in
    let set : SetName = set_named c.args.set.now in
    let none : c.new-places.result ≡ [] = c.new-places.ensures in
    let Listed : List ℕ → Type 0 = λ places. All (λ place. IsOk (data_at m place)) places in
    let Ascends : List ℕ → Type 0 = λ places. Ascend (map (data_from m) places) in
    let no_length : length c.new-places.result ≡ 0 = ap length none in
    let few = few_places m left c.requires.whole in
    record {
      read =
          ap (λ (places : List ℕ). put_each (map (data_from m) places) (data_of_each m c.args.section set left)) none
          ∙ from_none m c.args.section set left c.requires.whole;
      same = c.requires.message;
      order = c.new-order.ensures;
      cache = c.empty_cache-cache.ensures m;
      stand = each_stands m left c.requires.whole;
      listed = subst Listed (sym none) (search rules);
      ascend = subst Ascends (sym none) (ascends []);
      room = omega arith;
      short = short_message m left c.requires.whole;
    }
