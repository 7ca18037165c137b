-- What the proof of encode goes by.
use Rattle.std.proofs.Common.{◌≡◌, ℕ, suc, ◌+◌, ◌-◌, ◌*◌, ◌<◌, ◌≤◌, true, List, [], ◌∷◌, ◌++◌, length, get_or, take, drop, set, replicate, sym, ap, ◌∙◌, add-zero, zero-add, arith, length-append}
use lib.Seq.{sets, sets-eq}
use Rattle.std.specs.List.{flat_map}
use Rattle.std.proofs.lemmas.List.{drop-replicate, drop_more, drop-drop, append_assoc}
use borrow.Rule.Slice.PartMut.{put_mid}
use Rattle.leb128.specs.Encoding.{encoding}
use Rattle.leb128.proofs.Groups.{length_groups}
use Rattle.stripe_set.specs.Rising.{rising}
use Rattle.stripe_set.proofs.Lists.{rising_weaker, rising_tail}
use Rattle.record.specs.Form.{distances, opening, body, block}

pub sets_append : (l : List ℕ) (i : ℕ) (xs ys : List ℕ) → sets l i (xs ++ ys) ≡ sets (sets l i xs) (i + length xs) ys
sets_append l i [] ys = rw (add-zero i)
sets_append l i (x ∷ xs) ys =
    let e : i + suc (length xs) ≡ suc i + length xs = omega arith in
    rw e (sets_append (set l i x) (suc i) xs ys)

length_distances : (from : ℕ) (ss : List ℕ) → length (flat_map encoding (distances from ss)) ≤ 5 * length ss
length_distances from [] = omega arith
length_distances from (s ∷ ss) =
    omega (arith, length-append (encoding (s - from)) (flat_map encoding (distances s ss)), length_groups 4 (s - from), length_distances s ss)

pub length_body : (v : ℕ) (ss : List ℕ) → length ss ≤ 64 → length (body v ss) ≤ 512
unfolding body
length_body v ss h =
    let rest = flat_map encoding (distances 0 ss) in
    omega (arith, length-append (encoding v) (encoding (length ss) ++ rest), length-append (encoding (length ss)) rest, length_groups 4 v, length_groups 4 (length ss), length_distances 0 ss)

-- written over zeros it is the record
pub whole : (v : ℕ) (ss : List ℕ) → length ss ≤ 64 → sets (replicate 512 0) 0 (body v ss) ≡ block (record { version = v; stripes = ss })
whole v ss h =
    sets-eq (body v ss) (replicate 512 0) 0 (omega (arith, length_body v ss h))
    ∙ rw (zero-add (length (body v ss)), drop-replicate {X = ℕ} (length (body v ss)) 512 0)

pub begun : (v : ℕ) (ss b0 b1 b2 : List ℕ) (a1 a2 : ℕ) → b0 ≡ sets (replicate 512 0) 0 opening → b1 ≡ sets b0 4 (encoding v) → a1 ≡ 4 + length (encoding v) → b2 ≡ sets b1 a1 (encoding (length ss)) → a2 ≡ a1 + length (encoding (length ss)) → sets b2 a2 (flat_map encoding (distances 0 ss)) ≡ sets (replicate 512 0) 0 (body v ss)
unfolding body
begun v ss b0 b1 b2 a1 a2 e0 e1 f1 e2 f2 =
    let z : List ℕ = replicate 512 0 in
    let rest : List ℕ = flat_map encoding (distances 0 ss) in
    let p = sets_append z 0 opening (encoding v ++ (encoding (length ss) ++ rest)) in
    let q = sets_append (sets z 0 opening) 4 (encoding v) (encoding (length ss) ++ rest) in
    let r = sets_append (sets (sets z 0 opening) 4 (encoding v)) (4 + length (encoding v)) (encoding (length ss)) rest in
    let t : sets b2 a2 rest ≡ sets (sets (sets (sets z 0 opening) 4 (encoding v)) (4 + length (encoding v)) (encoding (length ss))) ((4 + length (encoding v)) + length (encoding (length ss))) rest = cc in
    t ∙ sym (p ∙ q ∙ r)

-- one stripe more
pub written_more : (buf buf' ss : List ℕ) (at at' b i : ℕ) → i < length ss → buf' ≡ sets buf at (encoding (get_or ss i 0 - b)) → at' ≡ at + length (encoding (get_or ss i 0 - b)) → sets buf' at' (flat_map encoding (distances (get_or ss i 0) (drop (i + 1) ss))) ≡ sets buf at (flat_map encoding (distances b (drop i ss)))
written_more buf buf' ss at at' b i h e f =
    rw (drop_more ss i 0 h, e, f) (sym (sets_append buf at (encoding (get_or ss i 0 - b)) (flat_map encoding (distances (get_or ss i 0) (drop (i + 1) ss)))))

pub next : (ss : List ℕ) (b i : ℕ) → i < length ss → rising b (drop i ss) ≡ true → (b ≤ get_or ss i 0) × (rising (get_or ss i 0) (drop (i + 1) ss) ≡ true)
next ss b i h r =
    let t : rising b (get_or ss i 0 ∷ drop (i + 1) ss) ≡ true = rw (drop_more ss i 0 h) at r in
    let u = rising_tail b (get_or ss i 0) (drop (i + 1) ss) t in
    (u.0, rising_weaker (get_or ss i 0) (get_or ss i 0 + 1) (drop (i + 1) ss) (omega arith) u.2)

pub opened : (x y : List ℕ) → x ≡ replicate 512 0 → y ≡ opening → put_mid 0 4 x y ≡ sets (replicate 512 0) 0 opening
opened x y e f = rw (e, f)

-- a number that is copied in is set byte by byte
pub copied : (buf bs digits : List ℕ) (at end : ℕ) → digits ≡ bs → end ≡ at + length bs → end ≤ length buf → put_mid at (end - at) buf digits ≡ sets buf at bs
copied buf bs digits at end e f h =
    let k : at + (end - at) ≡ at + length bs = omega arith in
    let l : at + length bs ≤ length buf = omega arith in
    ap (put_mid at (end - at) buf) e
    ∙ ap (λ (t : List ℕ). take at buf ++ (bs ++ t)) (drop-drop (end - at) at buf ∙ ap (λ (n : ℕ). drop n buf) k)
    ∙ sym (append_assoc (take at buf) bs (drop (at + length bs) buf))
    ∙ sym (sets-eq bs buf at l)
