use Rattle.std.proofs.Common.{◌≡◌, ◌<◌, ℕ, List, [], ◌∷◌, nat_eq, length, IsTrue, arith, length-append, ◌∙◌, ap}
use Rattle.std.proofs.lemmas.Bool.Decides.{nat_tests}
use Rattle.dns_names.specs.Names.{wire}
use Rattle.dns_names.specs.NameLaws.{length_lt-wire}
use Rattle.dns_names.proofs.name.Name.is_root.Goals as goal

-- the root alone has a wire form of one octet
one_octet : (n : List (List ℕ)) (len : ℕ) → len ≡ length (wire n)
    → (IsTrue (nat_eq len 1) → n ≡ []) × (n ≡ [] → IsTrue (nat_eq len 1))
one_octet [] len e = grind (arith, nat_tests)
one_octet (label ∷ n) len e = let long : 1 < len = omega
    (arith, length-append label (wire n), length_lt-wire n) in grind (arith, nat_tests)

pub returns-clause-root : goal.returns-clause-root
returns-clause-root c = one_octet c.args.self.now c.self.inside.len (c.self.invariant.counted
    ∙ ap (λ n. length (wire n)) c.self.view_is)
