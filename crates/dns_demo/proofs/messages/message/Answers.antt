use Rattle.std.proofs.Common.{None, refl}
use Rattle.dns_message.specs.declared.message.Message.{Message}
use Rattle.dns_demo.proofs.Written.{can_be_written, written_plain}
use Rattle.dns_demo.proofs.messages.message.Goals as goal

pub written-requires : goal.written-requires
written-requires c =
    let message : Message = record {
      id = 4660;
      flags = c.args.flags;
      queries = c.args.queries;
      answers = c.args.answers;
      authorities = c.new.result;
      additionals = c.new-2.result;
      signature = None;
    } in
    can_be_written message c.requires.rows refl c.new.ensures.items c.new-2.ensures.items refl c.requires.writable

pub returns-clause-exact : goal.returns-clause-exact
returns-clause-exact c =
    let message : Message = record {
      id = 4660;
      flags = c.args.flags;
      queries = c.args.queries;
      answers = c.args.answers;
      authorities = c.new.result;
      additionals = c.new-2.result;
      signature = None;
    } in
    written_plain message c.in_ok-octets.octets.items c.requires.rows refl c.new.ensures.items c.new-2.ensures.items refl
    c.in_ok-octets.ensures
