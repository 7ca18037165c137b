-- What accepted actions keep: the counts of the members, and the log's power. Assumes nothing.
use Rattle.std.proofs.Common.{◌≡◌, ℕ, true, List, [], ◌∷◌, sym, ap, ◌∙◌, subst}
use Rattle.geometry.specs.Counts.{counts_allowed, members_of, blocks_of}
use Rattle.geometry.specs.declared.shape.Shape.{Shape}
use Rattle.member_store.specs.Meaning as store
use Rattle.member_store.specs.Calls.{SameCounts}
use Rattle.device_calls.proofs.Left.{counts_refl, counts_then, completed_counts}
use Rattle.intent_log.specs.Meaning as intent
use Rattle.array_model.specs.Meaning.{Arrange, geometry_on}
use Rattle.array_model.specs.Work.{Action, devices, mark, fresh, clear, blank, ActionAccepted, AllAccepted}
use Rattle.array_work.specs.Outcomes.{sized}
use Rattle.array_model.specs.declared.state.State.{State}
use Rattle.array_model.specs.declared.state.State.TheVariants.{Ready, Short}
use Rattle.array.specs.Sound.{Sized, SoundIn}

-- a shape with the counts of the members
pub shape_geometry : (arrange : Arrange) (a : Shape) (m : store.Meaning) → members_of a ≡ m.members → blocks_of a ≡ m.blocks → sized arrange a ≡ geometry_on arrange m
shape_geometry arrange a m p n =
    ap (λ (x : ℕ). record { arrange = arrange; members = x; blocks = blocks_of a }) p ∙ ap (λ (x : ℕ). record { arrange = arrange; members = m.members; blocks = x }) n

pub counts_same : (m m' : store.Meaning) → m' ≡ m → SameCounts m m'
counts_same m m' e = subst (λ u. SameCounts m u) (sym e) (counts_refl m)

pub sized_still : (m m' : store.Meaning) → SameCounts m m' → Sized m → Sized m'
sized_still m m' s z =
    ap (λ (x : ℕ). counts_allowed x m'.blocks) s.members ∙ ap (λ (x : ℕ). counts_allowed m.members x) s.blocks ∙ z

action_counts : (a : Action) (m : store.Meaning) (l : intent.Meaning) (m' : store.Meaning) (l' : intent.Meaning) → ActionAccepted a m l m' l' → SameCounts m m'
action_counts (devices os) m l m' l' d = completed_counts os m m' d.0
action_counts (mark w) m l m' l' d = counts_same m m' d.0
action_counts (fresh w) m l m' l' d = counts_same m m' d.0
action_counts clear m l m' l' d = counts_same m m' d.0
action_counts blank m l m' l' d = counts_same m m' d.0

pub all_counts : (acts : List Action) (m : store.Meaning) (l : intent.Meaning) (m' : store.Meaning) (l' : intent.Meaning) → AllAccepted acts m l m' l' → SameCounts m m'
all_counts [] m l m' l' d = counts_same m m' d.0
all_counts (a ∷ acts) m l m' l' d = counts_then m d.0 m' (action_counts a m l d.0 d.1 d.2) (all_counts acts d.0 d.1 m' l' d.3)

action_on : (a : Action) (m : store.Meaning) (l : intent.Meaning) (m' : store.Meaning) (l' : intent.Meaning) → l.on ≡ true → ActionAccepted a m l m' l' → l'.on ≡ true
action_on (devices os) m l m' l' on d = ap (λ k. k.on) d.1 ∙ on
action_on (mark w) m l m' l' on d = d.1.1.on
action_on (fresh w) m l m' l' on d = d.1.1.on
action_on clear m l m' l' on d = d.1.1.on
action_on blank m l m' l' on d = d.1.1.on

pub all_on : (acts : List Action) (m : store.Meaning) (l : intent.Meaning) (m' : store.Meaning) (l' : intent.Meaning) → l.on ≡ true → AllAccepted acts m l m' l' → l'.on ≡ true
all_on [] m l m' l' on d = ap (λ k. k.on) d.1 ∙ on
all_on (a ∷ acts) m l m' l' on d = all_on acts d.0 d.1 m' l' (action_on a m l d.0 d.1 on d.2) d.3

-- a sound array, by its state
pub sound_as : (q p : State) (sound : Type 0) (m : store.Meaning) (l : intent.Meaning) → q ≡ p → SoundIn q sound m l → SoundIn p sound m l
sound_as q p sound m l e h = subst (λ x. SoundIn x sound m l) e h

-- a ready or short array, where the counts stay
pub ready_still : (q : State) (sound : Type 0) (m m' : store.Meaning) (l : intent.Meaning) → q ≡ Ready → SameCounts m m' → SoundIn q sound m l → SoundIn q sound m' l
ready_still q sound m m' l e s h =
    let d = sound_as q Ready sound m l e h in
    subst (λ x. SoundIn x sound m' l) (sym e) (d.0, sized_still m m' s d.1)

pub short_still : (q : State) (d : ℕ) (sound : Type 0) (m m' : store.Meaning) (l : intent.Meaning) → q ≡ Short d → SameCounts m m' → SoundIn q sound m l → SoundIn q sound m' l
short_still q d sound m m' l e s h =
    let k = sound_as q (Short d) sound m l e h in
    subst (λ x. SoundIn x sound m' l) (sym e) (k.0, sized_still m m' s k.1)
