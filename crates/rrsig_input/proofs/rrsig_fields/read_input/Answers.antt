use Rattle.std.proofs.Common.{◌≡◌, ℕ, true, eqb, List, Ok, Err, sym, ap, ◌∙◌, rules}
use Rattle.dns_wire.specs.Reading.{octets, place}
use Rattle.dns_types.specs.TypeNumbers as types
use Rattle.dns_grammar.specs.Fields.{fields_at}
use Rattle.dns_grammar.specs.Messages.{head_at}
use Rattle.dns_message.specs.Views.{head_view}
use Rattle.sec_sigdata.specs.Signatures.{input_row, input_values}
use Rattle.rrsig_input.proofs.RrsigSteps.{end_of_data, fields_fault, fields_read, no_data}
use Rattle.rrsig_input.proofs.rrsig_fields.read_input.Goals as goal

pub returns-in-Ok-read_with : goal.returns-in-Ok-read_with
returns-in-Ok-read_with c =
    let m = c.args.message.now in
    let start : octets c.set_index.new.self ≡ m = c.set_index.ensures.octets ∙ c.new-reader.ensures.octets in
    let behind : octets c.read_with.new.decoder ≡ m = c.in-Ok.ensures.exact.1 ∙ start in
    let q = place c.read_with.new.decoder in
    let read : head_at m c.args.start ≡ Ok (head_view c.in-Ok.head, q) =
    sym (λ i. head_at (start i) (c.set_index.ensures.place i)) ∙ c.in-Ok.ensures.exact.0 in
    let is : eqb c.in-Ok.head.rtype types.RRSIG ≡ true = search rules in
    let end : end_of_data m q c.in-Ok.head.length ≡ Ok c.in-Ok-data_end.end =
    sym (ap (λ (k : List ℕ). end_of_data k q c.in-Ok.head.length) behind) ∙ sym c.in-Ok-data_end.ensures in
    let r = place c.read_with-in-Ok-data_end.new.decoder in
    let fields : fields_at input_row m q c.in-Ok-data_end.end ≡ Ok (input_values c.in-Ok-read_with.input, r) =
    sym (ap (λ (k : List ℕ). fields_at input_row k q c.in-Ok-data_end.end) behind)
    ∙ c.in-Ok-read_with.ensures.exact.0 in
    fields_read m c.args.start (head_view c.in-Ok.head) q c.in-Ok-data_end.end r c.in-Ok-read_with.input read is end
    fields c.in-Ok-read_with.ensures.by_number

pub returns-in-Err-read_with : goal.returns-in-Err-read_with
returns-in-Err-read_with c =
    let m = c.args.message.now in
    let start : octets c.set_index.new.self ≡ m = c.set_index.ensures.octets ∙ c.new-reader.ensures.octets in
    let behind : octets c.read_with.new.decoder ≡ m = c.in-Ok.ensures.exact.1 ∙ start in
    let q = place c.read_with.new.decoder in
    let read : head_at m c.args.start ≡ Ok (head_view c.in-Ok.head, q) =
    sym (λ i. head_at (start i) (c.set_index.ensures.place i)) ∙ c.in-Ok.ensures.exact.0 in
    let is : eqb c.in-Ok.head.rtype types.RRSIG ≡ true = search rules in
    let end : end_of_data m q c.in-Ok.head.length ≡ Ok c.in-Ok-data_end.end =
    sym (ap (λ (k : List ℕ). end_of_data k q c.in-Ok.head.length) behind) ∙ sym c.in-Ok-data_end.ensures in
    let fields : fields_at input_row m q c.in-Ok-data_end.end ≡ Err c.in-Err-read_with.field-0 =
    sym (ap (λ (k : List ℕ). fields_at input_row k q c.in-Ok-data_end.end) behind)
    ∙ c.in-Err-read_with.ensures.exact.0 in
    fields_fault m c.args.start (head_view c.in-Ok.head) q c.in-Ok-data_end.end c.in-Err-read_with.field-0 read is end
    fields

pub returns-in-Err-data_end : goal.returns-in-Err-data_end
returns-in-Err-data_end c =
    let m = c.args.message.now in
    let start : octets c.set_index.new.self ≡ m = c.set_index.ensures.octets ∙ c.new-reader.ensures.octets in
    let behind : octets c.read_with.new.decoder ≡ m = c.in-Ok.ensures.exact.1 ∙ start in
    let q = place c.read_with.new.decoder in
    let read : head_at m c.args.start ≡ Ok (head_view c.in-Ok.head, q) =
    sym (λ i. head_at (start i) (c.set_index.ensures.place i)) ∙ c.in-Ok.ensures.exact.0 in
    let is : eqb c.in-Ok.head.rtype types.RRSIG ≡ true = search rules in
    let end : end_of_data m q c.in-Ok.head.length ≡ Err c.in-Err-data_end.field-0 =
    sym (ap (λ (k : List ℕ). end_of_data k q c.in-Ok.head.length) behind) ∙ sym c.in-Err-data_end.ensures in
    no_data m c.args.start (head_view c.in-Ok.head) q c.in-Err-data_end.field-0 read is end
