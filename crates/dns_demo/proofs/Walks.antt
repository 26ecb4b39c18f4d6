-- The answers, one behind the other.
use Rattle.std.proofs.Common.{◌≡◌, ℕ, suc, ◌+◌, ◌-◌, ◌<◌, ◌≤◌, List, [], ◌∷◌, ◌++◌, map, refl, sym, ap, ◌∙◌, arith, append_assoc}
use Rattle.std.proofs.lemmas.List.{append-nil, map-append}
use Rattle.dns_demo.specs.Demo.{answer, answers_from, mac_behind}

-- the answers so far, and those from this MAC on, are all
pub record SoFar (first : List ℕ) (count : ℕ) (answers : List (List ℕ)) (mac : List ℕ) (before : ℕ) : Type 0 where
  pub all : answers ++ answers_from mac (before + 1) (count - before) ≡ answers_from first 1 count

one : (mac : List ℕ) (k others : ℕ)
    → answers_from mac k (suc others) ≡ answer mac k ∷ answers_from (mac_behind mac k) (k + 1) others
unfolding answers_from
one mac k others = refl

none : (mac : List ℕ) (k : ℕ) → answers_from mac k 0 ≡ []
unfolding answers_from
none mac k = refl

pub so_far_none : (first : List ℕ) (count : ℕ) → SoFar first count [] first 0
so_far_none first count =
    let e : count - 0 ≡ count = omega arith in
    record { all = ap (λ (n : ℕ). answers_from first 1 n) e }

pub so_far_more : {A : Type 0} (octets_of : A → List ℕ) (first : List ℕ) (count : ℕ) (answers : List A) (x : A)
    (mac behind : List ℕ) (before : ℕ) → before < count → octets_of x ≡ answer mac (before + 1)
    → behind ≡ mac_behind mac (before + 1) → SoFar first count (map octets_of answers) mac before
    → SoFar first count (map octets_of (answers ++ x ∷ [])) behind (before + 1)
so_far_more octets_of first count answers x mac behind before lt is moved so_far =
    let others = count - (before + 1) in
    let k = before + 1 in
    let e : count - before ≡ suc others = omega arith in
    let rest = answers_from (mac_behind mac k) (k + 1) others in
    record {
      all = ap (λ (l : List (List ℕ)). l ++ answers_from behind (k + 1) others) (map-append octets_of answers (x ∷ []))
          ∙ append_assoc (map octets_of answers) (octets_of x ∷ []) (answers_from behind (k + 1) others)
          ∙ (λ i. map octets_of answers ++ is i ∷ answers_from (moved i) (k + 1) others)
          ∙ ap (λ (l : List (List ℕ)). map octets_of answers ++ l) (sym (one mac k others))
          ∙ ap (λ (n : ℕ). map octets_of answers ++ answers_from mac k n) (sym e) ∙ so_far.all;
    }

pub so_far_all : (first : List ℕ) (count : ℕ) (answers : List (List ℕ)) (mac : List ℕ) (before : ℕ) → count ≤ before
    → SoFar first count answers mac before → answers ≡ answers_from first 1 count
so_far_all first count answers mac before le so_far =
    let e : count - before ≡ 0 = omega arith in
    sym (append-nil answers) ∙ ap (λ (l : List (List ℕ)). answers ++ l) (sym (none mac (before + 1)))
    ∙ ap (λ (n : ℕ). answers ++ answers_from mac (before + 1) n) (sym e) ∙ so_far.all

pub ruleset steps = (so_far_none, so_far_more, so_far_all)
