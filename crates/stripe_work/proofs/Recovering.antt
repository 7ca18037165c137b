-- One member's block out of the others: the reads, the bytes, and that they are what that member held. Assumes nothing.
use Rattle.std.proofs.Common.{◌≡◌, ℕ, zero, suc, ◌+◌, ◌-◌, ◌<◌, Bool, true, false, cond, eqb, List, [], ◌∷◌, ◌++◌, length, get_or, sym, refl, ap, ◌∙◌, subst, ⊎_elim, add-one, arith}
use lib.Bits.{bit_xor, xor_assoc, xor_comm, xor_self, xor_zero_l, xor_zero_r}
use Rattle.std.proofs.lemmas.List.{ext_get_or}
use Rattle.std.proofs.lemmas.List.FromFn.{length-map-range_with_len, get_or-map-range_with_len}
use Rattle.std.proofs.lemmas.Bool.{cases_eq, eq-eqb, ne_eqb, eqb-false}
use Rattle.geometry.specs.Layouts.{Arrangement, Lawful}
use Rattle.parity.specs.Xor.{parity_of, Whole, without, byte_sum}
use Rattle.parity.proofs.Others.{parity_length, any_block, laws}
use Rattle.member_store.specs.Meaning.{Meaning, current}
use Rattle.member_store.specs.declared.refusal.Refusal.{Refusal}
use Rattle.device_calls.specs.Lists.{DeviceCall, read, Completed, Stopped, for_each}
use Rattle.device_calls.specs.Effects.{Every, InRange, Spares, Avoids, Reading, CutShort}
use Rattle.device_calls.proofs.Append.{for_each_more, for_each_stopped}
use Rattle.device_calls.proofs.Properties.{every_for_each, every_weaker, written_not, reading_spares}
use Rattle.device_calls.proofs.Left.{completed_reading, cut_short, cut_weaker}
use Rattle.stripe_work.specs.Stripe.{Stripe, stripe_at, listed, data_at, stripe_data, RightParity}
use Rattle.stripe_work.specs.Work.{other_reads, reconstructed}
use Rattle.stripe_work.specs.Outcomes.{Recovers, OthersInStore}
use Rattle.stripe_work.proofs.Rows.{listed_more}
use Rattle.stripe_work.proofs.Sums.{sum, sum_splits, sum_by_position}
use Rattle.stripe_work.proofs.Without.{rest_absent, rest_more}

-- the reads

module _ (b d : ℕ) (s : Meaning) where
  abbrev reads : ℕ → List DeviceCall
  reads t = cond (eqb t d) [] (read t b ∷ [])

  pub pass_absent : (t : ℕ) → t ≡ d → Completed (for_each reads t) s s → Completed (for_each reads (t + 1)) s s
  pass_absent t e k = for_each_more reads t s s s k (subst (λ q. Completed (cond q [] (read t b ∷ [])) s s) (sym (eq-eqb t d e)) refl)

  pub more_other : (t : ℕ) (u v : Meaning) → (t ≡ d → ⊥) → u ≡ s → v ≡ u → Completed (read t b ∷ []) u v → Completed (for_each reads t) s s → Completed (for_each reads (t + 1)) s s
  more_other t u v ne e h r k =
      for_each_more reads t s s s k
      (subst (λ q. Completed (cond q [] (read t b ∷ [])) s s) (sym (ne_eqb t d ne))
      (subst (λ x. Completed (read t b ∷ []) s x) (h ∙ e) (subst (λ x. Completed (read t b ∷ []) x v) e r)))

  pub stop_other : (t n : ℕ) (u v : Meaning) (e : Refusal) → t < n → (t ≡ d → ⊥) → u ≡ s → Stopped (read t b ∷ []) u e v → Completed (for_each reads t) s s → Stopped (for_each reads n) s e v
  stop_other t n u v e l ne h r k =
      for_each_stopped reads n t s s e v l k
      (subst (λ q. Stopped (cond q [] (read t b ∷ [])) s e v) (sym (ne_eqb t d ne)) (subst (λ x. Stopped (read t b ∷ []) x e v) h r))

others_every : (P : DeviceCall → Type 0) (m b d : ℕ) → ((t : ℕ) → t < m → (t ≡ d → ⊥) → P (read t b)) → Every P (other_reads m b d)
others_every P m b d h = every_for_each P (λ t. cond (eqb t d) [] (read t b ∷ [])) m (λ t l. one t (eqb t d) refl (h t l))
  where
    one : (t : ℕ) (q : Bool) → eqb t d ≡ q → ((t ≡ d → ⊥) → P (read t b)) → Every P (cond q [] (read t b ∷ []))
    one t true e k = tt
    one t false e k = (k (eqb-false t d e), tt)

pub others_avoid : (m b d : ℕ) → Every (Avoids d) (other_reads m b d)
others_avoid m b d = others_every (Avoids d) m b d (λ t l ne. ne)

others_read : (m b d : ℕ) → Every Reading (other_reads m b d)
others_read m b d = others_every Reading m b d (λ t l ne. tt)

pub others_keep : (m b d : ℕ) (s t : Meaning) → Completed (other_reads m b d) s t → t ≡ s
others_keep m b d s t k = completed_reading (other_reads m b d) s t (others_read m b d) k

pub others_cut : (m b d : ℕ) (s : Meaning) (e : Refusal) (t : Meaning) → Stopped (other_reads m b d) s e t → CutShort (OthersInStore d m b s) [] s e t
others_cut m b d s e t k =
    cut_weaker (Every (InRange s) (other_reads m b d)) (OthersInStore d m b s) (other_reads m b d) [] s e t
    (λ h. others_every (InRange s) m b d h)
    (λ i j v z. absurd (written_not i j v (other_reads m b d) (every_weaker Reading (Spares i j) (reading_spares i j) (other_reads m b d) (others_read m b d)) z))
    (cut_short (other_reads m b d) s e t k)

-- bytes of lists of blocks

byte_push : (xs : List (List ℕ)) (y : List ℕ) (i : ℕ) → byte_sum (xs ++ y ∷ []) i ≡ bit_xor (byte_sum xs i) (get_or y i 0)
byte_push [] y i = xor_zero_r (get_or y i 0) ∙ sym (xor_zero_l (get_or y i 0))
byte_push (x ∷ xs) y i = ap (bit_xor (get_or x i 0)) (byte_push xs y i) ∙ sym (xor_assoc (get_or x i 0) (byte_sum xs i) (get_or y i 0))

byte_listed : (f : ℕ → List ℕ) (i n : ℕ) → byte_sum (listed f n) i ≡ sum (λ j. get_or (f j) i 0) n
byte_listed f i zero = refl
byte_listed f i (suc n) =
    ap (λ (k : ℕ). byte_sum (listed f k) i) (sym (add-one n)) ∙ ap (λ l. byte_sum l i) (listed_more f n) ∙ byte_push (listed f n) (f n) i
    ∙ ap (λ (x : ℕ). bit_xor x (get_or (f n) i 0)) (byte_listed f i n)

byte_without : (d : ℕ) (xs : List (List ℕ)) (i : ℕ) → d < length xs → byte_sum xs i ≡ bit_xor (byte_sum (without d xs) i) (get_or (get_or xs d []) i 0)
byte_without d [] i h = absurd (omega arith)
byte_without zero (x ∷ xs) i h = xor_comm (get_or x i 0) (byte_sum xs i)
byte_without (suc d) (x ∷ xs) i h =
    ap (bit_xor (get_or x i 0)) (byte_without d xs i (omega arith)) ∙ sym (xor_assoc (get_or x i 0) (byte_sum (without d xs) i) (get_or (get_or xs d []) i 0))

xor_cancel : (a b y : ℕ) → bit_xor a y ≡ bit_xor b y → a ≡ b
xor_cancel a b y e =
    sym (xor_zero_r a) ∙ ap (bit_xor a) (sym (xor_self y)) ∙ sym (xor_assoc a y y) ∙ ap (λ (x : ℕ). bit_xor x y) e ∙ xor_assoc b y y ∙ ap (bit_xor b) (xor_self y) ∙ xor_zero_r b

whole_push : (xs : List (List ℕ)) (y : List ℕ) → Whole xs → length y ≡ 512 → Whole (xs ++ y ∷ [])
whole_push [] y h e = (e, tt)
whole_push (x ∷ xs) y h e = (h.0, whole_push xs y h.1 e)

whole_listed : (f : ℕ → List ℕ) (n : ℕ) → ((j : ℕ) → j < n → length (f j) ≡ 512) → Whole (listed f n)
whole_listed f zero h = tt
whole_listed f (suc n) h =
    subst (λ (k : ℕ). Whole (listed f k)) (add-one n) (subst Whole (sym (listed_more f n)) (whole_push (listed f n) (f n) (whole_listed f n (λ j l. h j (omega arith))) (h n (omega arith))))

whole_without : (d : ℕ) (xs : List (List ℕ)) → Whole xs → Whole (without d xs)
whole_without d [] h = tt
whole_without zero (x ∷ xs) h = h.1
whole_without (suc d) (x ∷ xs) h = (h.0, whole_without d xs h.1)

-- what the parity of a stripe says by member

module _ (arrange : ℕ → ℕ → Arrangement) (m k : ℕ) (lawful : Lawful m (arrange m k)) (u : Meaning) where
  abbrev w : Stripe
  w = stripe_at arrange m k

  abbrev cell : ℕ → List ℕ
  cell t = current u t w.block

  abbrev cells : List (List ℕ)
  cells = listed cell m

  same_byte : (i : ℕ) → byte_sum (stripe_data w u) i ≡ byte_sum (without w.parity cells) i
  same_byte i =
      let p = w.parity in
      let g : ℕ → ℕ = (λ t. get_or (cell t) i 0) in
      let long : p < length cells = subst (λ (n : ℕ). p < n) (sym (length-map-range_with_len cell 0 m)) lawful.parity_below in
      let here : get_or cells p [] ≡ cell p = get_or-map-range_with_len cell 0 m p p [] lawful.parity_below (omega arith) in
      let all : bit_xor (byte_sum (stripe_data w u) i) (g p) ≡ byte_sum cells i =
      ap (λ (x : ℕ). bit_xor x (g p)) (byte_listed (data_at w u) i (m - 1) ∙ sum_by_position g m p (m - 1) w.member (arrange m k).position lawful.member_below lawful.apart lawful.position_of_member lawful.position_below lawful.member_of_position)
      ∙ sym (sum_splits g m p lawful.parity_below) ∙ sym (byte_listed cell i m) in
      xor_cancel (byte_sum (stripe_data w u) i) (byte_sum (without p cells) i) (g p)
      (all ∙ byte_without p cells i long ∙ ap (λ x. bit_xor (byte_sum (without p cells) i) (get_or x i 0)) here)

  module _ (whole : (t : ℕ) → t < m → length (cell t) ≡ 512) where
    whole_data : Whole (stripe_data w u)
    whole_data = whole_listed (data_at w u) (m - 1) (λ j l. whole (w.member j) (lawful.member_below j l))

    whole_cells : Whole cells
    whole_cells = whole_listed cell m whole

    whole_rest : Whole (without w.parity cells)
    whole_rest = whole_without w.parity cells whole_cells

    same_parity : parity_of (stripe_data w u) ≡ parity_of (without w.parity cells)
    same_parity =
        ext_get_or 0 (parity_of (stripe_data w u)) (parity_of (without w.parity cells))
        (parity_length (stripe_data w u) whole_data ∙ sym (parity_length (without w.parity cells) whole_rest))
        (λ i l.
        let h : i < 512 = subst (λ (n : ℕ). i < n) (parity_length (stripe_data w u) whole_data) l in
        laws.each_byte (stripe_data w u) i whole_data h ∙ same_byte i ∙ sym (laws.each_byte (without w.parity cells) i whole_rest h))

    -- any member's block is the exclusive or of the others
    member_block : (d : ℕ) → d < m → RightParity w u → parity_of (without d cells) ≡ cell d
    member_block d l right =
        let e = length-map-range_with_len cell 0 m in
        let p = w.parity in
        let at_p : get_or cells p [] ≡ cell p = get_or-map-range_with_len cell 0 m p p [] lawful.parity_below (omega arith) in
        let at_d : get_or cells d [] ≡ cell d = get_or-map-range_with_len cell 0 m d d [] l (omega arith) in
        sym (any_block cells p d whole_cells (subst (λ (n : ℕ). p < n) (sym e) lawful.parity_below) (at_p ∙ right ∙ same_parity) (subst (λ (n : ℕ). d < n) (sym e) l)) ∙ at_d

-- lists that agree but at d
without_same : (f g : ℕ → List ℕ) (d n : ℕ) → ((t : ℕ) → t < n → (t ≡ d → ⊥) → f t ≡ g t) → without d (listed f n) ≡ without d (listed g n)
without_same f g d zero h = refl
without_same f g d (suc n) h =
    ap (λ (k : ℕ). without d (listed f k)) (sym (add-one n))
    ∙ ⊎_elim
    (λ e. rest_absent f d n e ∙ without_same f g d n (λ t l ne. h t (omega arith) ne) ∙ sym (rest_absent g d n e))
    (λ ne. rest_more f d n ne ∙ ap (λ l. l ++ f n ∷ []) (without_same f g d n (λ t l z. h t (omega arith) z)) ∙ ap (λ x. without d (listed g n) ++ x ∷ []) (h n (omega arith) ne) ∙ sym (rest_more g d n ne))
    (cases_eq n d)
    ∙ ap (λ (k : ℕ). without d (listed g k)) (add-one n)

pub recovers : (arrange : ℕ → ℕ → Arrangement) (m k d : ℕ) (s : Meaning) → Lawful m (arrange m k) → d < m → Recovers (stripe_at arrange m k) m d s (reconstructed m (stripe_at arrange m k).block d s)
recovers arrange m k d s lawful l u same right =
    let b = (stripe_at arrange m k).block in
    ap parity_of (without_same (λ t. current s t b) (λ t. current u t b) d m (λ t i ne. sym (same.others t i ne)))
    ∙ member_block arrange m k lawful u same.whole d l right
