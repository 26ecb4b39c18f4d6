use Rattle.std.proofs.Common.{◌<◌, length, map, ap, ◌∙◌, arith}
use Rattle.std.proofs.lemmas.Bool.Decides.{nat_tests}
use Rattle.std.proofs.lemmas.List.{map_push}
use Rattle.std.specs.String.{string_bytes}
use Rattle.dnsrows.proofs.ListSteps.{lines_one}
use Rattle.dnsrows.proofs.scripts.text_lines.Goals as goal

pub lines-preserved : goal.lines-preserved
lines-preserved c =
    let some : 0 < length c.lines.rest.now = grind (arith, nat_tests, c.lines-test.ensures) in
    record {
      utf8 = c.first_line.ensures.rest_is_text;
      left = lines_one c.args.text.now c.lines.rest.now (string_bytes c.in_ok-from_str.field-0)
          c.first_line.result.1.now (map string_bytes c.lines.found.items) (map string_bytes c.push.new.self.items) some
          (c.in_ok-from_str.ensures.ok ∙ c.first_line.ensures.line) c.first_line.ensures.rest
          (ap (map string_bytes) c.in_ok-push.ensures.items
          ∙ map_push string_bytes c.lines.found.items c.in_ok-from_str.field-0)
          c.lines.invariant.left;
    }
