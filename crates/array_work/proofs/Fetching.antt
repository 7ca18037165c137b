-- Reads, as what the array's calls do. Assumes nothing.
use Rattle.std.proofs.Common.{◌≡◌, ℕ, Bool, cond, List, [], ◌∷◌, length, None, Ok, Err, Result, sym, refl, ap, ◌∙◌, subst, inl, inr}
use Rattle.std.proofs.lemmas.Bool.{eq-eqb, ne_eqb}
use Rattle.std.specs.Option as options
use Rattle.member_store.specs.Meaning as members
use Rattle.member_store.specs.Calls.{Reads}
use Rattle.member_store.specs.declared.refusal.Refusal.{Refusal}
use Rattle.device_calls.specs.Lists.{DeviceCall, read, Stopped}
use Rattle.device_calls.proofs.Single.{read_performs}
use Rattle.intent_log.specs.Meaning as intent
use Rattle.cache.specs.Contents.{Contents, newest}
use Rattle.stripe_work.specs.Work.{other_reads, reconstructed}
use Rattle.array_model.specs.Meaning.{Geometry, array, stripe, home, holder, held}
use Rattle.array_model.specs.Work.{Action, devices, mark, fresh, clear, blank, FirstRefused}
use Rattle.array_model.specs.Calls.{Fetches, read_calls, ReadsNewest, ReadsWithout}
use Rattle.array_model.specs.declared.state.State.{State}
use Rattle.array_model.specs.declared.state.State.TheVariants.{Fallen}
use Rattle.array_model.specs.declared.refusal.ArrayRefusal.{ArrayRefusal}
use Rattle.array_work.specs.Outcomes.{Fetched, state_told, state_after}

-- a read of the block at i and b, which are j and d, was refused
pub unread : (i b j d : ℕ) (old new : List ℕ) (s : members.Meaning) (e : Refusal) (t : members.Meaning) → i ≡ j → b ≡ d → length old ≡ 512 → Reads {U = Unit {0}} s i b old (Err e) new t → Stopped (read j d ∷ []) s e t
unread i b j d old new s e t p q n h =
    subst (λ (y : ℕ). Stopped (read j y ∷ []) s e t) q (subst (λ (x : ℕ). Stopped (read x b ∷ []) s e t) p (read_performs {U = Unit {0}} i b old new s t (Err e) n h))

-- whichever action is refused, the array is fallen
pub fell : (q : State) (acts : List Action) (m : members.Meaning) (l : intent.Meaning) (e : ArrayRefusal) (m' : members.Meaning) (l' : intent.Meaning) → FirstRefused acts m l e m' l' → state_told q e ≡ Fallen
fell q [] m l e m' l' h = elim h [ ]
fell q (devices os ∷ acts) m l e m' l' (inl h) = ap (state_told q) h.1
fell q (mark w ∷ acts) m l e m' l' (inl h) = ap (state_told q) h.1
fell q (fresh w ∷ acts) m l e m' l' (inl h) = ap (state_told q) h.1
fell q (clear ∷ acts) m l e m' l' (inl h) = ap (state_told q) h.1
fell q (blank ∷ acts) m l e m' l' (inl h) = ap (state_told q) h.1
fell q (devices os ∷ acts) m l e m' l' (inr h) = fell q acts h.0 h.1 e m' l' h.3
fell q (mark w ∷ acts) m l e m' l' (inr h) = fell q acts h.0 h.1 e m' l' h.3
fell q (fresh w ∷ acts) m l e m' l' (inr h) = fell q acts h.0 h.1 e m' l' h.3
fell q (clear ∷ acts) m l e m' l' (inr h) = fell q acts h.0 h.1 e m' l' h.3
fell q (blank ∷ acts) m l e m' l' (inr h) = fell q acts h.0 h.1 e m' l' h.3

module _ (q : State) (c : Contents) (l : intent.Meaning) (old new : List ℕ) (m : members.Meaning) where
  pub fetches : (os : List DeviceCall) (x : List ℕ) (r : Result (Unit {0}) ArrayRefusal) (m' : members.Meaning) → Fetched os x old new m r m' → Fetches os x old new (array q c m l) r (array (state_after q r) c m' l)
  fetches os x (Ok u) m' d = (((d.0 l).0, (d.0 l).1, refl), d.1)
  fetches os x (Err e) m' d = ((d.0 l, ap (λ p. array p c m' l) (fell q (devices os ∷ []) m l e m' l (d.0 l))), d.1)

  module _ (g : Geometry) (k : ℕ) (r : Result (Unit {0}) ArrayRefusal) (m' : members.Meaning) where
    pub newest_fetched : newest k c ≡ None → Fetched (read_calls g k) (held g m k) old new m r m' → ReadsNewest g k old new (array q c m l) r (array (state_after q r) c m' l)
    newest_fetched e d =
        subst (λ o. options.MatchOption o
        (Fetches (read_calls g k) (held g m k) old new (array q c m l) r (array (state_after q r) c m' l))
        (λ x. (r ≡ Ok tt) × (new ≡ x) × (array (state_after q r) c m' l ≡ array q c m l))) (sym e) (fetches (read_calls g k) (held g m k) r m' d)

    module _ (d : ℕ) where
      abbrev Missing : ℕ → ℕ → Type 0
      Missing i b = Fetched (other_reads g.members b i) (reconstructed g.members b i m) old new m r m'

      abbrev Whole : Bool → Type 0
      Whole t =
          cond t
          (Fetches (other_reads g.members (stripe g (home g k)).block d) (reconstructed g.members (stripe g (home g k)).block d m) old new (array q c m l) r (array (state_after q r) c m' l))
          (Fetches (read_calls g k) (held g m k) old new (array q c m l) r (array (state_after q r) c m' l))

      pub without_missing : (i b : ℕ) → i ≡ holder g k → b ≡ (stripe g (home g k)).block → i ≡ d → Missing i b → ReadsWithout g d k old new (array q c m l) r (array (state_after q r) c m' l)
      without_missing i b p s e h =
          let f : Missing d (stripe g (home g k)).block = subst (λ (y : ℕ). Missing d y) s (subst (λ (x : ℕ). Missing x b) e h) in
          subst Whole (sym (eq-eqb (holder g k) d (sym p ∙ e))) (fetches (other_reads g.members (stripe g (home g k)).block d) (reconstructed g.members (stripe g (home g k)).block d m) r m' f)

      pub without_held : (i : ℕ) → i ≡ holder g k → (i ≡ d → ⊥) → Fetched (read_calls g k) (held g m k) old new m r m' → ReadsWithout g d k old new (array q c m l) r (array (state_after q r) c m' l)
      without_held i p n h = subst Whole (sym (ne_eqb (holder g k) d (λ e. n (p ∙ e)))) (fetches (read_calls g k) (held g m k) r m' h)
