-- Names of algorithms: a name is told by its wire form, and is that of its algorithm.
use Rattle.std.proofs.Common.{Some, None, ◌≡◌, ℕ, Bool, true, false, List, [], ◌∷◌, ◌++◌, length, take, drop, refl, sym}
use Rattle.std.proofs.Common.{ap, ◌∙◌}
use Rattle.std.specs.Str.{bytes_eq}
use Rattle.std.proofs.Math.Seq.{take-append_seam, drop-append_seam}
use Rattle.std.proofs.lemmas.Slice.Eq.{bytes_eq-Decides}
use Rattle.dns_names.specs.Names.{wire}
use Rattle.sec_digest.specs.declared.hmac.HmacHash.{HmacHash}
use Rattle.sec_digest.specs.declared.hmac.HmacHash.TheVariants.{Sha256, Sha384, Sha512}
use Rattle.sec_sigdata.specs.declared.tsig_algorithm.TsigAlgorithm.{TsigAlgorithm}
use Rattle.sec_sigdata.specs.TsigAlgorithms.{algorithm_name, algorithm_among, tsig_algorithm_named, algorithm_with}
use Rattle.sec_sigdata.specs.TsigAlgorithms.{hash_of}

both_same : {A : Type 0} (x y : A) (xs ys : List A) → x ≡ y → xs ≡ ys → x ∷ xs ≡ y ∷ ys
both_same x y xs ys p q = cc

-- the front of equal lists, and what is behind it
same_front : (a b c d : List ℕ) → length a ≡ length b → a ++ c ≡ b ++ d → a ≡ b
same_front a b c d len e = sym (take-append_seam a c) ∙ (λ i. take (len i) (e i)) ∙ take-append_seam b d

same_rest : (a b c d : List ℕ) → length a ≡ length b → a ++ c ≡ b ++ d → c ≡ d
same_rest a b c d len e = sym (drop-append_seam a c) ∙ (λ i. drop (len i) (e i)) ∙ drop-append_seam b d

first_same : (x y : ℕ) (xs ys : List ℕ) → x ∷ xs ≡ y ∷ ys → x ≡ y
first_same x y xs ys e = cc

rest_same : (x y : ℕ) (xs ys : List ℕ) → x ∷ xs ≡ y ∷ ys → xs ≡ ys
rest_same x y xs ys e = cc

no_wire : (n : List (List ℕ)) → [] ≡ wire n → ⊥
no_wire [] e = cc
no_wire (l ∷ n) e = cc

-- names of equal wire forms are equal
pub one_wire : (n z : List (List ℕ)) → wire n ≡ wire z → n ≡ z
one_wire [] [] e = refl
one_wire [] ([] ∷ z) e = absurd (no_wire z (rest_same _ _ _ _ e))
one_wire [] ((x ∷ l) ∷ z) e = absurd cc
one_wire ([] ∷ n) [] e = absurd (no_wire n (sym (rest_same _ _ _ _ e)))
one_wire ((x ∷ l) ∷ n) [] e = absurd cc
one_wire (l ∷ n) (k ∷ z) e =
    let len : length l ≡ length k = first_same (length l) (length k) (l ++ wire n) (k ++ wire z) e in
    let behind : l ++ wire n ≡ k ++ wire z = rest_same (length l) (length k) (l ++ wire n) (k ++ wire z) e in
    both_same l k n z (same_front l k (wire n) (wire z) len behind)
    (one_wire n z (same_rest l k (wire n) (wire z) len behind))

first_named : (a : TsigAlgorithm) (rest : List TsigAlgorithm) (n : List (List ℕ)) (b : Bool)
    → bytes_eq (wire (algorithm_name a)) (wire n) ≡ b → algorithm_name (algorithm_among rest n) ≡ n
    → algorithm_name (algorithm_among (a ∷ rest) n) ≡ n
first_named a rest n true e named = rw e (one_wire (algorithm_name a) n
    (let d = bytes_eq-Decides (wire (algorithm_name a)) (wire n) in d.0 e))
first_named a rest n false e named = rw e named

-- the algorithm of a name has that name
pub among_named : (algorithms : List TsigAlgorithm) (n : List (List ℕ))
    → algorithm_name (algorithm_among algorithms n) ≡ n
among_named [] n = refl
among_named (a ∷ rest) n = first_named a rest n (bytes_eq (wire (algorithm_name a)) (wire n)) refl (among_named rest n)

of_with : (hash : HmacHash) → tsig_algorithm_named (algorithm_name (algorithm_with hash)) ≡ algorithm_with hash
of_with Sha256 = refl
of_with Sha384 = refl
of_with Sha512 = refl

hash_with : (hash : HmacHash) → hash_of (algorithm_with hash) ≡ Some hash
hash_with Sha256 = refl
hash_with Sha384 = refl
hash_with Sha512 = refl

no_hash : (algorithm : TsigAlgorithm) (hash : HmacHash) → hash_of algorithm ≡ None → hash_of algorithm ≡ Some hash → ⊥
no_hash algorithm hash none some = cc

-- an algorithm that is not supported has another name than those that are
pub other_name : (algorithm : TsigAlgorithm) (hash : HmacHash)
    → algorithm ≡ tsig_algorithm_named (algorithm_name algorithm) → hash_of algorithm ≡ None
    → false ≡ bytes_eq (wire (algorithm_name (algorithm_with hash))) (wire (algorithm_name algorithm))
other_name algorithm hash named none = at (bytes_eq (wire (algorithm_name (algorithm_with hash)))
    (wire (algorithm_name algorithm))) refl
  where
    at : (b : Bool) → bytes_eq (wire (algorithm_name (algorithm_with hash))) (wire (algorithm_name algorithm)) ≡ b
        → false ≡ b
    at false e = refl
    at true e =
        let d = bytes_eq-Decides (wire (algorithm_name (algorithm_with hash))) (wire (algorithm_name algorithm)) in
        let name : algorithm_name (algorithm_with hash) ≡ algorithm_name algorithm = one_wire _ _ (d.0 e) in
        let same : algorithm ≡ algorithm_with hash = named ∙ (ap tsig_algorithm_named (sym name) ∙ of_with hash) in
        absurd (no_hash algorithm hash none (ap hash_of same ∙ hash_with hash))
