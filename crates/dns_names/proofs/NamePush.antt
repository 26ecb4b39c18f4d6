-- A label put at the end of a name in memory.
use Rattle.std.proofs.Common.{◌≡◌, ℕ, suc, ◌+◌, ◌-◌, ◌≤◌, List, [], ◌∷◌, ◌++◌, length, set, take, drop, replicate, refl}
use Rattle.std.proofs.Common.{ap, sym, ◌∙◌, append_assoc, arith, length-append}
use Rattle.std.proofs.lemmas.List.{take_at, drop_at, set_at, drop-replicate, append-nil}
use Rattle.std.specs.List.{AllByRecursion, flat_map}
use borrow.Rule.Slice.PartMut.{put_mid}
use Rattle.dns_names.specs.Names.{IsLabel, IsName, wire, padded}

-- the wire form without the zero octet at its end
abbrev pub body : List (List ℕ) → List ℕ
body = flat_map (λ label. length label ∷ label)

pub wire-body : (n : List (List ℕ)) → wire n ≡ body n ++ 0 ∷ []
wire-body [] = refl
wire-body (label ∷ n) = ap (λ t. length label ∷ (label ++ t)) (wire-body n)
    ∙ ap (λ t. length label ∷ t) (sym (append_assoc label (body n) (0 ∷ [])))

pub body_push : (n : List (List ℕ)) (label : List ℕ) → body (n ++ label ∷ []) ≡ body n ++ (length label ∷ label)
body_push [] label = ap (λ t. length label ∷ t) (append-nil label)
body_push (l ∷ n) label = ap (λ t. length l ∷ (l ++ t)) (body_push n label)
    ∙ ap (λ t. length l ∷ t) (sym (append_assoc l (body n) (length label ∷ label)))

-- a name in memory
pub padded-body : (n : List (List ℕ)) → padded n ≡ body n ++ (0 ∷ replicate (255 - (length (body n) + 1)) 0)
padded-body n =
    let len : length (wire n) ≡ length (body n) + 1 = ap length (wire-body n) ∙ length-append (body n) (0 ∷ []) in
    ap (λ k. wire n ++ replicate (255 - k) 0) len ∙ ap (λ t. t ++ replicate (255 - (length (body n) + 1)) 0)
    (wire-body n) ∙ append_assoc (body n) (0 ∷ []) (replicate (255 - (length (body n) + 1)) 0)

-- the two writes, of the length and of the octets
pub put_label : (b label octets : List ℕ) (s k : ℕ) → length b + 1 ≡ s → length label ≡ k → s + k + 1 ≤ 255
    → octets ≡ b ++ (0 ∷ replicate (255 - s) 0)
    → put_mid s (s + k - s) (set octets (s - 1) k) label ≡ b ++ (k ∷ (label ++ (0 ∷ replicate (255 - (s + k + 1)) 0)))
put_label b label octets s k at len fits e =
    let zeros : List ℕ = replicate (255 - s) 0 in
    let front : List ℕ = b ++ k ∷ [] in
    let at_front : length front ≡ s = length-append b (k ∷ []) ∙ at in
    let first : set octets (s - 1) k ≡ front ++ zeros = ap (λ o. set o (s - 1) k) e
    ∙ set_at b 0 zeros k (s - 1) (omega arith) ∙ sym (append_assoc b (k ∷ []) zeros) in
    let before : take s (set octets (s - 1) k) ≡ front = ap (take s) first ∙ take_at front zeros s at_front in
    let behind : drop s (set octets (s - 1) k) ≡ zeros = ap (drop s) first ∙ drop_at front zeros s at_front in
    let shorter : s + k - s ≡ k = omega arith in
    let one_more : 255 - s - k ≡ suc (255 - (s + k + 1)) = omega arith in
    let rest : drop (s + k - s) (drop s (set octets (s - 1) k))
    ≡ 0 ∷ replicate (255 - (s + k + 1)) 0 = ap (drop (s + k - s)) behind ∙ ap (λ j. drop j zeros) shorter
    ∙ drop-replicate k (255 - s) 0 ∙ ap (λ j. replicate j 0) one_more in
    ap (λ t. t ++ (label ++ drop (s + k - s) (drop s (set octets (s - 1) k)))) before
    ∙ ap (λ t. front ++ (label ++ t)) rest
    ∙ append_assoc b (k ∷ []) (label ++ (0 ∷ replicate (255 - (s + k + 1)) 0))

pub length-wire-push : (n : List (List ℕ)) (label : List ℕ)
    → length (wire (n ++ label ∷ [])) ≡ length (wire n) + 1 + length label
length-wire-push [] label = omega (arith, length-append label (0 ∷ []))
length-wire-push (l ∷ n) label = omega (
  arith,
  length-append l (wire (n ++ label ∷ [])),
  length-append l
      (wire n),
  length-wire-push n label,
)

each_push : (n : List (List ℕ)) (label : List ℕ) → AllByRecursion IsLabel n → IsLabel label
    → AllByRecursion IsLabel (n ++ label ∷ [])
each_push [] label h is = (is, tt)
each_push (l ∷ n) label h is = (h.0, each_push n label h.1 is)

pub name_push : (n : List (List ℕ)) (label : List ℕ) → IsName n → IsLabel label
    → length (wire n) + length label + 1 ≤ 255 → IsName (n ++ label ∷ [])
name_push n label name is fits = record {
  each = each_push n label name.each is;
  at_most_255 = omega
      (arith, length-wire-push n label);
}

pub pushed_padded : (n : List (List ℕ)) (label octets : List ℕ) (s k : ℕ) → s ≡ length (wire n) → length label ≡ k
    → s + k + 1 ≤ 255 → octets ≡ padded n
    → put_mid s (s + k - s) (set octets (s - 1) k) label ≡ padded (n ++ label ∷ [])
pushed_padded n label octets s k at len fits e =
    let s_is : length (body n) + 1 ≡ s = omega (arith, ap length (wire-body n), length-append (body n) (0 ∷ [])) in
    let pushed : body (n ++ label ∷ []) ≡ body n ++ (k ∷ label) = body_push n label
    ∙ ap (λ j. body n ++ (j ∷ label)) len in
    let length_is : length (body (n ++ label ∷ [])) + 1
    ≡ s + k + 1 = omega (arith, ap length pushed, length-append (body n) (k ∷ label)) in
    put_label (body n) label octets s k s_is len fits (e ∙ padded-body n
    ∙ ap (λ j. body n ++ (0 ∷ replicate (255 - j) 0)) s_is)
    ∙ sym (append_assoc (body n) (k ∷ label) (0 ∷ replicate (255 - (s + k + 1)) 0))
    ∙ ap (λ t. t ++ (0 ∷ replicate (255 - (s + k + 1)) 0)) (sym pushed)
    ∙ ap (λ j. body (n ++ label ∷ []) ++ (0 ∷ replicate (255 - j) 0)) (sym length_is)
    ∙ sym (padded-body (n ++ label ∷ []))
