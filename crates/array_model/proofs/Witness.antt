-- A run of format, open, finish, write and close, over any layout and counts within the limits. Assumes nothing.
use Rattle.std.proofs.Common.{◌≡◌, ℕ, zero, suc, ◌<◌, Bool, true, false, cond, ◌&&◌, eqb, ltb, leb, List, [], ◌∷◌, ◌++◌, length, get_or, is_some, Some, None, Ok, Option, sym, refl, ap, ◌∙◌, subst, inl, inr, zero-le, arith}
use Rattle.std.proofs.lemmas.Bool.{true≢false, false≢true, lt-ltb, eq-eqb, eqb-true, le-leb, leb-true, and_parts, and_from, and_right}
use Rattle.std.specs.Option.{option_map, option_or}
use Rattle.geometry.specs.Counts.{counts_allowed, members_allowed}
use Rattle.geometry.specs.Places.{data_blocks}
use Rattle.geometry.specs.declared.place.Location.{Location}
use Rattle.parity.specs.Xor.{zeros, parity_of}
use Rattle.member_store.specs.Meaning as store
use Rattle.member_store.specs.Meaning.{In}
use Rattle.device_calls.specs.Lists.{DeviceCall, barrier}
use Rattle.device_calls.specs.Effects.{Every, InRange}
use Rattle.device_calls.proofs.Properties.{every_then}
use Rattle.intent_log.specs.Meaning.{listed}
use Rattle.intent_log.specs.Calls as log
use Rattle.intent_log.specs.declared.refusal.LogRefusal.TheVariants.{WrongList}
use Rattle.cache.specs.Contents.{Blocks, Contents, empty, no_blocks, put_into, exchanged}
use Rattle.cache.specs.Stripes.{stripe_of_block, HasStripe, Lowest, Listed, by_position, in_stripe, is_number, stripe_freed}
use Rattle.stripe_work.specs.Stripe.{Stripe}
use Rattle.stripe_work.specs.Work.{CachedBlocks, data_reads, data_stores, parity_store, merged_data, destage_calls}
use Rattle.stripe_work.proofs.Parts.{reads_every, stores_every}
use Rattle.array_model.specs.Meaning.{Meaning, array, in_state, with_caches, Arrange, LawfulLayout, Geometry, geometry, stripe, block_count, home, position, held}
use Rattle.array_model.specs.Work.{Performs}
use Rattle.array_model.specs.Calls.{Plain, Checked, zero_calls, format_actions, Formats, begun, Opens, totals, Finishes, Writes, Destages, begin, then_moved, then_changed, Flushes, Closes}
use Rattle.array_model.specs.Book.{Book, InBook, newest_of, holding, add, settled, Since, open_whole, finish, write, close}
use Rattle.array_model.specs.Runs.{Run, formatted, next}
use Rattle.array_model.specs.Witness.{WrittenAndClosed, RunsExist}
use Rattle.array_model.specs.declared.state.State.{State}
use Rattle.array_model.specs.declared.state.State.TheVariants.{Down, Resync, Ready}
use Rattle.array_model.specs.declared.answer.Destage.TheVariants.{Moved, Changed, Idle}
use Rattle.array_model.specs.declared.refusal.ArrayRefusal.{ArrayRefusal}
use Rattle.array_model.specs.declared.refusal.ArrayRefusal.TheVariants.{Limits, NoBlock, WrongLength}
use Rattle.array_model.proofs.Places.{Facts, in_array, num_back, home_below, position_below'}
use Rattle.array_model.proofs.Inv.{InvIn, stands, member_below, parity_below}
use Rattle.array_model.proofs.Effects.{zero_range}
use Rattle.array_model.proofs.Cases.{allowed_low}
use Rattle.array_model.proofs.Kept.{geo, same_geometry, so_far}
use Rattle.array_model.proofs.Working.{Versions, Filled, store_of, performed, performed_filled, can_perform, log_of, can_log}

-- in an array that is down every block is by the book
down_booked : (arrange : Arrange) (law : LawfulLayout arrange) (b : Book) (z : Since) (s : Meaning) → Run arrange b z s → s.state ≡ Down → (k : ℕ) → k < block_count (geometry arrange s) → InBook b k (held (geometry arrange s) s.members k)
down_booked arrange law b z s run e k h =
    let x = so_far arrange law b z s run in
    let q = same_geometry arrange b z s x in
    subst (λ (g : Geometry). k < block_count g → InBook b k (held g s.members k)) (sym q) (λ l. go (geo arrange x.m x.n) x.facts (subst (λ (u : State). InvIn (geo arrange x.m x.n) b z u s) e x.inv) l) h
  where
    go : (g : Geometry) (f : Facts g) → InvIn g b z Down s → k < block_count g → InBook b k (held g s.members k)
    go g f i l =
        subst (λ (u : ℕ). InBook b u (held g s.members k)) (num_back g f k)
        (i.crash.known (home g k) (position g k) (held g s.members k) (home_below g f k l) (position_below' g f k)
        (stands g s.members i.full ((stripe g (home g k)).member (position g k)) (stripe g (home g k)).block (member_below g f (home g k) (position g k) (position_below' g f k)) (home_below g f k l)))

module _ (arrange : Arrange) (m n k : ℕ) (x : List ℕ) (law : LawfulLayout arrange) (allowed : counts_allowed m n ≡ true) (inside : k < data_blocks m n) (len : length x ≡ 512) where
  abbrev g : Geometry
  g = geo arrange m n

  abbrev st : Versions → store.Meaning
  st vs = store_of m n vs

  abbrev nobody : ℕ → Bool
  nobody s = false

  abbrev everybody : ℕ → Bool
  everybody s = true

  facts : Facts g
  facts = let l = allowed_low m n allowed in record { low = l.0; lawful = λ s. law m s l.0 l.1 }

  abbrev s_home : ℕ
  s_home = home g k

  there : s_home < n
  there = home_below g facts k inside

  home_small : s_home < 4294967296
  home_small =
      let p = (and_parts (members_allowed m) (leb 1 n && leb n 16777216) allowed).1 in
      let q = leb-true n 16777216 (and_parts (leb 1 n) (leb n 16777216) p).1 in
      let l : s_home < n = there in
      omega arith

  cleared : (a : Bool) (f : ℕ → Bool) → log.Clears {U = Unit {0}} (log_of a f) (Ok tt) (log_of true nobody)
  cleared a f = (refl, can_log (λ c. (c.stands ≡ true) × log.NamesNothing c) a true f nobody (refl, λ s. refl))

  -- FORMAT
  abbrev v₀ : Versions
  v₀ i b = zeros ∷ []

  abbrev v₁ : Versions
  v₁ = performed m n (zero_calls g ++ barrier ∷ []) v₀

  abbrev s₀ : Meaning
  s₀ = array Down empty (st v₀) (log_of true nobody)

  abbrev s₁ : Meaning
  s₁ = array Down empty (st v₁) (log_of true nobody)

  f₀ : Filled v₀
  f₀ i b = inl refl

  formats : Formats g s₀ (Ok tt) s₁
  formats =
      subst (λ (q : Bool). Checked {A = Unit {0}} (cond q None (Some (Limits m n))) s₀ (Ok tt) s₁ (Performs (format_actions g) tt Down empty s₀ (Ok tt) s₁)) (sym allowed) (
        refl,
        (
          st v₀,
          log_of false nobody,
          (refl, (refl, can_log (λ c. (c.stands ≡ false) × log.NamesNothing c) true false nobody nobody (refl, λ s. refl))),
          (
            st v₁,
            log_of false nobody,
            (can_perform m n (zero_calls g ++ barrier ∷ []) v₀ f₀ (zero_range g (st v₀) (record { members = refl; blocks = refl })), refl),
            (st v₁, log_of true nobody, (refl, cleared false nobody), (refl, refl)),
          ),
        ),
        refl,
      )

  f₁ : Filled v₁
  f₁ = performed_filled m n (zero_calls g ++ barrier ∷ []) v₀ f₀

  -- OPEN AND FINISH
  abbrev s₂ : Meaning
  s₂ = in_state (Resync begun) s₁

  opens : Opens g s₁ (Ok tt) s₂
  opens =
      subst (λ (q : Bool). Checked {A = Unit {0}} (option_or (cond q None (Some (Limits m n))) None) s₁ (Ok tt) s₂ ((◌≡◌ {A = Plain} (Ok tt) (Ok tt)) × (s₂ ≡ in_state (Resync begun) s₁))) (sym allowed) (refl, refl)

  abbrev v₂ : Versions
  v₂ = performed m n (barrier ∷ []) v₁

  abbrev s₃ : Meaning
  s₃ = array Ready empty (st v₂) (log_of true nobody)

  finishes : Finishes g s₂ (Ok (totals begun)) s₃
  finishes = (
    None,
    (λ t h. and_right (ltb t n) false refl),
    (refl, (st v₂, log_of true nobody, (can_perform m n (barrier ∷ []) v₁ f₁ (tt, tt), refl), (st v₂, log_of true nobody, (refl, cleared true nobody), (refl, refl))), refl),
  )

  f₂ : Filled v₂
  f₂ = performed_filled m n (barrier ∷ []) v₁ f₁

  -- WRITE
  abbrev c₄ : Contents
  c₄ = put_into k x empty

  abbrev s₄ : Meaning
  s₄ = with_caches c₄ s₃

  writes : Writes g k x s₃ (Ok tt) s₄
  writes =
      subst (λ (o : Option ArrayRefusal). Checked {A = Unit {0}} (option_or o None) s₃ (Ok tt) s₄ ((◌≡◌ {A = Plain} (Ok tt) (Ok tt)) × (s₄ ≡ s₄)))
      (sym (ap (λ (q : Bool). option_or (cond q None (Some (NoBlock k))) (cond (eqb (length x) 512) None (Some (WrongLength (length x))))) (lt-ltb k (data_blocks m n) inside)
      ∙ ap (λ (q : Bool). cond q None (Some (WrongLength (length x)))) (eq-eqb (length x) 512 len)))
      (refl, refl)

  -- what the caches hold
  abbrev mine : Blocks
  mine = c₄.buffering

  mine_is : (i : ℕ) → is_some (mine i) ≡ true → i ≡ k
  mine_is i = go (eqb i k) refl
    where
      go : (q : Bool) → eqb i k ≡ q → is_some (cond q (Some x) None) ≡ true → i ≡ k
      go true e h = eqb-true i k e
      go false e h = absurd (false≢true h)

  mine_has : is_some (mine k) ≡ true
  mine_has = ap (λ (q : Bool). is_some (cond q (Some x) None)) (eq-eqb k k refl)

  stripe_of_k : stripe_of_block m n k ≡ Some s_home
  stripe_of_k = ap (λ (q : Bool). option_map (λ (l : Location). l.stripe) (cond q (Some (record { stripe = s_home; position = position g k })) None)) (lt-ltb k (data_blocks m n) inside)

  has_home : HasStripe m n mine s_home
  has_home = (k, mine_has, stripe_of_k)

  only_home : (s : ℕ) → HasStripe m n mine s → s_home ≡ s
  only_home s h = ap (home g) (sym (mine_is h.0 h.1)) ∙ (in_array g facts h.0 s h.2).1

  none_here : (s : ℕ) → HasStripe m n no_blocks s → ⊥
  none_here s h = false≢true h.1

  listed_home : Listed m n mine (s_home ∷ [])
  listed_home = record {
    few = omega arith;
    rising = λ i j l h. absurd (omega arith);
    cached = λ i h. at_zero i h;
    all = λ s h. (0, omega arith, only_home s h);
  }
    where
      at_zero : (i : ℕ) → i < 1 → HasStripe m n mine (get_or (s_home ∷ []) i 0)
      at_zero zero h = has_home
      at_zero (suc i) h = absurd (omega arith)

  is_list : listed (s_home ∷ []) ≡ true
  is_list = and_from (leb 0 s_home) (ltb s_home 4294967296 && true) (le-leb 0 s_home zero-le) (and_from (ltb s_home 4294967296) true (lt-ltb s_home 4294967296 home_small) refl)

  -- THE CACHES CHANGE PLACES
  abbrev s₅ : Meaning
  s₅ = array Ready (exchanged c₄) (st v₂) (log_of true everybody)

  marks : log.Marks {U = Unit {0}} (s_home ∷ []) (log_of true nobody) (Ok tt) (log_of true everybody)
  marks = (
    ap (λ (q : Bool). cond q None (Some (WrongList 1))) is_list,
    can_log (λ c. (c.stands ≡ true) × log.Includes c (record { stands = true; names = nobody }) × log.NamesList c (s_home ∷ [])) true true nobody everybody (refl, (λ s h. refl), (λ s h. refl)),
  )

  changes : Destages g s₄ (Ok (Changed 1)) s₅
  changes = (None, none_here, (s_home ∷ [], listed_home, (refl, (st v₂, log_of true everybody, (refl, marks), (refl, refl)), refl)))

  -- THE STRIPE IS MOVED
  abbrev w : Stripe
  w = stripe g s_home

  abbrev cached : CachedBlocks
  cached = by_position m n mine s_home

  abbrev os : List DeviceCall
  os = destage_calls w cached (st v₂)

  in_range : Every (InRange (st v₂)) os
  in_range =
      every_then (InRange (st v₂)) (data_reads w cached ++ data_stores w cached) (parity_store w (parity_of (merged_data w cached (st v₂))))
      (every_then (InRange (st v₂)) (data_reads w cached) (data_stores w cached)
      (reads_every (InRange (st v₂)) w cached (λ j h. (member_below g facts s_home j h, there)))
      (stores_every (InRange (st v₂)) w cached (λ j y h. (member_below g facts s_home j h, there))))
      ((parity_below g facts s_home, there), tt)

  abbrev v₆ : Versions
  v₆ = performed m n os v₂

  abbrev c₆ : Contents
  c₆ = stripe_freed m n s_home (exchanged c₄)

  abbrev s₆ : Meaning
  s₆ = array Ready c₆ (st v₆) (log_of true everybody)

  lowest_home : Lowest m n mine (Some s_home)
  lowest_home = (has_home, λ s h. let e : s_home ≡ s = only_home s h in omega arith)

  moves : Destages g s₅ (Ok (Moved s_home)) s₆
  moves = (Some s_home, lowest_home, (refl, (st v₆, log_of true everybody, (can_perform m n os v₂ f₂ in_range, refl), (refl, refl)), refl))

  f₆ : Filled v₆
  f₆ = performed_filled m n os v₂ f₂

  -- IDLE
  gone : (s : ℕ) → HasStripe m n c₆.destaging s → ⊥
  gone s h = go (in_stripe m n s_home h.0) refl h.1
    where
      go : (q : Bool) → in_stripe m n s_home h.0 ≡ q → is_some (cond q None (mine h.0)) ≡ true → ⊥
      go true e p = false≢true p
      go false e p =
          true≢false (sym (ap (in_stripe m n s_home) (mine_is h.0 p) ∙ ap (is_number s_home) stripe_of_k ∙ eq-eqb s_home s_home refl) ∙ e)

  idles : Destages g s₆ (Ok Idle) s₆
  idles = (None, gone, ([], record { few = omega arith; rising = λ i j l h. absurd (omega arith); cached = λ i h. absurd (omega arith); all = λ s h. absurd (none_here s h) }, (refl, refl)))

  abbrev v₇ : Versions
  v₇ = performed m n (barrier ∷ []) v₆

  abbrev s₇ : Meaning
  s₇ = array Ready c₆ (st v₇) (log_of true everybody)

  flushes : Flushes g s₄ (Ok (record { stripes = 1; puts = 1 })) s₇
  flushes = (
    1,
    1,
    s₆,
    then_moved s_home s₆ (then_changed 1 s₅ begin changes) moves,
    inl (idles, (refl, (st v₇, log_of true everybody, (can_perform m n (barrier ∷ []) v₆ f₆ (tt, tt), refl), (refl, refl)), refl)),
  )

  -- CLOSE
  abbrev s₈ : Meaning
  s₈ = array Down empty (st v₇) (log_of true nobody)

  closes : Closes g s₄ (Ok tt) s₈
  closes = (Ok (record { stripes = 1; puts = 1 }), s₇, flushes, (refl, (st v₇, log_of true nobody, (refl, cleared true everybody), (refl, refl)), refl))

  abbrev z₀ : Since
  z₀ = record { names = nobody; members = st v₀; mended = [] }

  abbrev b₃ : Book
  b₃ = holding (held g (st v₂))

  abbrev z₂ : Since
  z₂ = record { names = nobody; members = st v₁; mended = [] }

  whole_run : Run arrange (settled (add k x b₃)) z₂ s₈
  whole_run =
      next {s = s₄} s₈ close (Ok tt)
      (next {s = s₃} s₄ (write k x) (Ok tt)
      (next {s = s₂} s₃ finish (Ok (totals begun)) (next {s = s₁} s₂ open_whole (Ok tt) (formatted {z = z₀} s₀ s₁ refl formats) opens) finishes)
      writes)
      closes

  pub written_and_closed : WrittenAndClosed arrange m n k x
  written_and_closed = record {
    book = b₃;
    since = z₂;
    left = s₈;
    run = whole_run;
    down = refl;
    counts = (refl, refl);
    holds = go (down_booked arrange law (settled (add k x b₃)) z₂ s₈ whole_run refl k inside);
  }
    where
      go : InBook (settled (add k x b₃)) k (held g (st v₇) k) → held g (st v₇) k ≡ x
      go (inl e) = e ∙ ap (λ (q : Bool). newest_of (b₃.base k) (cond q (x ∷ []) [])) (eq-eqb k k refl)
      go (inr u) = absurd u

pub runs_exist : RunsExist
runs_exist = record { witness = written_and_closed }
