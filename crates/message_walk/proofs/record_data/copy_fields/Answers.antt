use Rattle.std.proofs.Common.{◌≤◌, ◌∙◌, ◌+◌, drop, length, sym, ap, subst, rules}
use Rattle.dns_wire.specs.Reading.{octets, place}
use Rattle.dns_names.specs.PointerCache.{IsPointerCache}
use Rattle.dns_grammar.specs.FieldKinds.{kind_fields}
use Rattle.message_walk.specs.Copies.{canonical_from, put}
use Rattle.dns_rdata.specs.FieldChecks.{tested_field}
use Rattle.message_walk.proofs.CopySteps.{copies_next, copies_refused, copies_stop, put_small}
use Rattle.message_walk.proofs.record_data.copy_fields.Goals as goal

pub returns-in_err-copy_field-clause-exact : goal.returns-in_err-copy_field-clause-exact
returns-in_err-copy_field-clause-exact c =
    let refused = sym c.loop-field.invariant.left
    ∙ copies_refused tested_field c.args.fields.now c.loop-field.field-index _ (octets c.loop-field.decoder)
    (place c.loop-field.decoder) c.args.end c.loop-field.buffer _ c.loop-field-test.true (search rules)
    c.in_err-copy_field.ensures.exact in
    search rules

pub loop-field-preserved : goal.loop-field-preserved
loop-field-preserved c = record {
  left = ap (λ m. put c.copy_field.new.buffer (canonical_from (kind_fields tested_field
      (drop (c.loop-field.field-index + 1) c.args.fields.now)) m (place c.copy_field.new.decoder) c.args.end))
      c.in_ok-copy_field.ensures.octets
      ∙ sym (copies_next tested_field c.args.fields.now c.loop-field.field-index _ (octets c.loop-field.decoder)
      (place c.loop-field.decoder) c.args.end (place c.copy_field.new.decoder) c.loop-field.buffer
      c.copy_field.new.buffer c.loop-field-test.true (search rules) c.in_ok-copy_field.ensures.moved
      c.in_ok-copy_field.ensures.exact)
      ∙ c.loop-field.invariant.left;
  room = put_small c.loop-field.buffer _ c.copy_field.new.buffer c.in_ok-copy_field.ensures.exact;
  inside = c.in_ok-copy_field.ensures.inside;
  end = subst (λ m. c.args.end ≤ length m) (sym c.in_ok-copy_field.ensures.octets) c.loop-field.invariant.end;
  same = c.in_ok-copy_field.ensures.octets ∙ c.loop-field.invariant.same;
  cache = subst (λ m. IsPointerCache m c.copy_field.new.cache) (sym c.in_ok-copy_field.ensures.octets)
      c.in_ok-copy_field.ensures.cache;
}

pub returns-clause-exact : goal.returns-clause-exact
returns-clause-exact c =
    sym c.loop-field.invariant.left
    ∙ copies_stop tested_field c.args.fields.now c.loop-field.field-index (octets c.loop-field.decoder)
    (place c.loop-field.decoder) c.args.end c.loop-field.buffer c.loop-field-test.false c.loop-field.invariant.room
