use Rattle.std.proofs.Common.{◌≡◌, ◌+◌, ◌-◌, ℕ, List, ◌++◌, length, take, drop, Result, Ok, sym, ap, ◌∙◌, arith}
use Rattle.std.proofs.lemmas.List.{append-nil, drop_all, length-replicate, take_all, take_at}
use Rattle.std.specs.Vec.{vec_len}
use lib.ListN.{replicate}
use Rattle.dns_wire.specs.declared.error.EmitError.{EmitError}
use Rattle.sec_tsig.specs.Tsig.{join, tsig_record, with_record}
use Rattle.sec_tsig.proofs.Joins.{length-join}
use Rattle.sec_tsig.proofs.joining.append_tsig.Goals as goal

pub returns : goal.returns
returns c =
    let old = c.args.octets.now.items in
    let rr = tsig_record c.args.rr.now in
    let n = c.in_ok-joined.joined in
    let same = c.as_slice.ensures.value in
    let found = c.in_ok-joined.ensures.exact in
    let behind = found.0 in
    let size : n ≡ length old + length behind = found.3 ∙ ap (λ (l : List ℕ). length l + length behind) same in
    let zeros : List ℕ = replicate (n - vec_len c.args.octets.now) 0 in
    let zeros_len : length zeros ≡ length behind = length-replicate (n - vec_len c.args.octets.now) 0
    ∙ omega (arith, size, c.as_slice.ensures.len, ap (λ (l : List ℕ). length l) same) in
    let grown : c.resize.new.self.items ≡ old ++ zeros = c.in_ok-resize.ensures.items
    ∙ ap (λ (l : List ℕ). l ++ zeros) (take_all n old (omega (arith, size))) in
    let put : c.append_record.new.buffer ≡ join old behind ++ drop (length behind) zeros =
    c.append_record.ensures old zeros behind (c.as_mut_slice.ensures.value ∙ grown) (omega (arith, c.len-end.ensures, c.as_slice.ensures.len, ap (λ (l : List ℕ). length l) same)) found.1 in
    let done : c.append_record.new.buffer ≡ join old behind = put
    ∙ ap (λ (l : List ℕ). join old behind ++ l) (drop_all (length behind) zeros (omega (arith, zeros_len)))
    ∙ append-nil (join old behind) in
    let whole : take c.resize.new.self.len (c.append_record.new.buffer ++ drop (length c.append_record.new.buffer)
    c.resize.new.self.items) ≡ c.append_record.new.buffer = take_at _ _ _
    (omega (arith, ap (λ (l : List ℕ). length l) done, length-join old behind c.requires, c.in_ok-resize.ensures.len, size)) in
    ap (λ (l : List ℕ). with_record l rr) (sym same) ∙ found.2
    ∙ ap (λ (l : List ℕ). let ok : Result (List ℕ) EmitError = Ok l in ok)
    (ap (λ (l : List ℕ). join l behind) same ∙ sym (whole ∙ done))
