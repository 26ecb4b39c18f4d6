-- What the answers of a script come to, counted.
use Rattle.std.specs.Prelude.{Bool, ◌==◌, ℕ, ◌+◌, List, [], map, Ok, Err, is_ok, is_err}
use Rattle.std.specs.List.{count_by, flat_map}
use Rattle.sec_codes.specs.declared.proof.Proof.{Proof}
use Rattle.sec_codes.specs.declared.proof.Proof.TheVariants.{Secure, Bogus, Indeterminate}
use Rattle.sec_codes.specs.Proofs.{proof_number}
use Rattle.sec_check.specs.declared.set_proof.SetProof.{SetProof}
use Rattle.sec_check.specs.Reports.{Answered}
use Rattle.check_script.specs.Taking.{Taking}
use Rattle.dnscheck.specs.declared.counts.Counts.{Counts}

-- the marks of record sets
abbrev pub marks : List SetProof → List Proof
marks sets = map (λ set. set.proof) sets

-- the marks of the record sets of an answer; a refused one has none
abbrev pub marks_of : Answered → List Proof
marks_of (Ok accepted) = marks accepted.report.sets
marks_of (Err _) = []

-- how many of these marks are this one
abbrev pub how_many : Proof → List Proof → ℕ
how_many proof all = count_by (λ mark. proof_number mark == proof_number proof) all

-- How many answers are accepted and refused, and how many record sets of the accepted ones have each mark (none is marked
-- Insecure).
unfoldable pub counted : List Answered → Counts
counted found = record {
  accepted = count_by is_ok found;
  refused = count_by is_err found;
  secure = how_many Secure (flat_map marks_of found);
  bogus = how_many Bogus (flat_map marks_of found);
  indeterminate = how_many Indeterminate (flat_map marks_of found);
}

-- ---- one answer more

abbrev pub no_counts : Counts
no_counts = record { accepted = 0; refused = 0; secure = 0; bogus = 0; indeterminate = 0 }

-- with these marks
abbrev pub with_marks : Counts → List Proof → Counts
with_marks counts all = record counts {
  secure = counts.secure + how_many Secure all;
  bogus = counts.bogus + how_many Bogus all;
  indeterminate = counts.indeterminate + how_many Indeterminate all;
}

-- with an accepted answer, which has these record sets
abbrev pub with_accepted : Counts → List SetProof → Counts
with_accepted counts sets = with_marks (record counts { accepted = counts.accepted + 1 }) (marks sets)

-- with a refused answer
abbrev pub with_refused : Counts → Counts
with_refused counts = record counts { refused = counts.refused + 1 }

abbrev pub counting : Taking Counts
counting = record {
  accepted = λ counts number report. with_accepted counts report.sets;
  refused = λ counts number cause. with_refused counts;
}
