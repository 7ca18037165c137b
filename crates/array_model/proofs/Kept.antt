-- Every call keeps what is known, so every run has it. Assumes nothing.
use Rattle.std.proofs.Common.{◌≡◌, ℕ, Bool, true, false, cond, List, Some, None, Ok, sym, refl, ap, ◌∙◌, subst}
use Rattle.geometry.specs.Counts.{counts_allowed}
use Rattle.member_store.specs.Meaning as store
use Rattle.cache.specs.Contents.{Contents, empty}
use Rattle.array_model.specs.Meaning.{Meaning, array, with_members, Arrange, LawfulLayout, Geometry, geometry}
use Rattle.array_model.specs.Work.{Performs}
use Rattle.array_model.specs.Checks.{limits_check}
use Rattle.array_model.specs.Calls.{Plain, Checked, format_actions, Formats, ReadsShort, given_up, GivesUp}
use Rattle.array_model.specs.Book.{Call, power_on, format, open_whole, step, finish, destage, flush, close, give_up, open_short, write, read_block, read_short, Reply, Book, zero_book, booked, Since, since}
use Rattle.array_model.specs.Runs.{Does, StandIn, restored, Run, formatted, next, without}
use Rattle.array_model.specs.declared.state.State.{State}
use Rattle.array_model.specs.declared.state.State.TheVariants.{Fallen, Down, Resync, Ready, Short}
use Rattle.array_model.specs.declared.refusal.ArrayRefusal.TheVariants.{Limits}
use Rattle.array_model.proofs.Places.{Facts, number}
use Rattle.array_model.proofs.Inv.{InvIn, Inv, inv_crash}
use Rattle.array_model.proofs.Cases.{ok≢err, in_down, allowed_low}
use Rattle.array_model.proofs.Opening.{keep_power_on, keep_format, keep_open, keep_open_short, keep_step, keep_finish, formatted_calm}
use Rattle.array_model.proofs.Writing.{keep_write, keep_read}
use Rattle.array_model.proofs.Flushing.{keep_destage, keep_flush, keep_close}
use Rattle.array_model.proofs.Shorts.{keep_read_short, keep_without}

module _ (g : Geometry) (f : Facts g) (b : Book) (z : Since) (s : Meaning) (i : Inv g b z s) where
  keep_give_up : (t : Meaning) → GivesUp s t → Inv g b z t
  keep_give_up t h = subst (Inv g b z) (sym h) (go s.state i)
    where
      go : (q : State) → InvIn g b z q s → InvIn g b z (given_up q) (array (given_up q) empty s.members s.log)
      go Fallen c = c
      go Down c = record { crash = c.crash; full = c.full; sure = c.sure; no_buffered = λ k j p q. refl; no_destaging = λ k j p q. refl }
      go (Resync p) c = record { crash = c.calm.crash; full = c.calm.full; sure = c.calm.sure; no_buffered = λ k j p q. refl; no_destaging = λ k j p q. refl }
      go Ready c = record { crash = c.crash; full = c.full; sure = c.sure; no_buffered = λ k j p q. refl; no_destaging = λ k j p q. refl }
      go (Short d) c = record { crash = c.0.crash; full = c.0.full; sure = c.0.sure; no_buffered = λ k j p q. refl; no_destaging = λ k j p q. refl }

  keep : (c : Call) (r : Reply c) (t : Meaning) → Does g c s r t → Inv g (booked g c r t b) (since c r t z) t
  keep power_on r t h = keep_power_on g f b z s r t i h
  keep format r t h = keep_format g f b z s i r t h
  keep open_whole r t h = keep_open g f b z s i r t h
  keep step r t h = keep_step g f b z s i r t h
  keep finish r t h = keep_finish g f b z s i r t h
  keep destage r t h = keep_destage g f b z s i r t h
  keep flush r t h = keep_flush g f b z s i r t h
  keep close r t h = keep_close g f b z s i r t h
  keep give_up r t h = keep_give_up t h
  keep (open_short d) r t h = keep_open_short g f b z s i d r t h
  keep (write k x) r t h = keep_write g f b z s i k x r t h
  keep (read_block k old) r t h = keep_read g f b z s i k old r.1 r.0 t h
  keep (read_short k old) r t h = keep_read_short g f b z s i k old r.1 r.0 t h

-- RUNS, over a lawful layout

abbrev pub geo : Arrange → ℕ → ℕ → Geometry
geo arrange m n = record { arrange = arrange; members = m; blocks = n }

-- the counts never change
pub record KnownSoFar (arrange : Arrange) (b : Book) (z : Since) (s : Meaning) : Type 0 where
  pub m : ℕ
  pub n : ℕ
  pub facts : Facts (geo arrange m n)
  pub inv : Inv (geo arrange m n) b z s

pub same_geometry : (arrange : Arrange) (b : Book) (z : Since) (s : Meaning) (k : KnownSoFar arrange b z s) → geometry arrange s ≡ geo arrange k.m k.n
same_geometry arrange b z s k =
    let o = (inv_crash (geo arrange k.m k.n) b z s.state s k.inv).on in
    ap (λ (i : ℕ). geo arrange i s.members.blocks) o.members ∙ ap (geo arrange k.m) o.blocks

module _ (arrange : Arrange) (law : LawfulLayout arrange) where
  start : (z : Since) (s t : Meaning) → s.caches ≡ empty → Formats (geometry arrange s) s (Ok tt) t → KnownSoFar arrange zero_book z t
  start z s t e h =
      in_down s (Ok tt) t (λ q. Unit {0}) (KnownSoFar arrange zero_book z t)
      (λ s' r t. Checked (limits_check (geometry arrange s)) s' r t (Performs (format_actions (geometry arrange s)) tt Down s'.caches s' r t))
      (λ d. absurd (ok≢err d.0))
      (λ _ k _. go (counts_allowed s.members.members s.members.blocks) refl k)
      s.state refl tt h
    where
      go : (q : Bool) → counts_allowed s.members.members s.members.blocks ≡ q
          → Checked {A = Unit {0}} (cond q None (Some (Limits s.members.members s.members.blocks))) s (Ok tt) t (Performs {A = Unit {0}} (format_actions (geometry arrange s)) tt Down s.caches s (Ok tt) t)
          → KnownSoFar arrange zero_book z t
      go true a k =
          let g = geometry arrange s in
          let l = allowed_low s.members.members s.members.blocks a in
          let f : Facts g = record { low = l.0; lawful = λ x. law s.members.members x l.0 l.1 } in
          record {
            m = s.members.members;
            n = s.members.blocks;
            facts = f;
            inv = subst (Inv g zero_book z) (sym k.2)
                (formatted_calm g f s.members t.members s.log t.log s.caches (record { members = refl; blocks = refl })
                (λ x j p q. ap (λ (c : Contents). c.buffering (number g x j)) e) (λ x j p q. ap (λ (c : Contents). c.destaging (number g x j)) e) k.1);
          }
      go false a k = absurd (ok≢err k.0)

  more : (b : Book) (z : Since) (s t : Meaning) (c : Call) (r : Reply c) → KnownSoFar arrange b z s → Does (geometry arrange s) c s r t → KnownSoFar arrange (booked (geometry arrange s) c r t b) (since c r t z) t
  more b z s t c r k h =
      let g = geo arrange k.m k.n in
      let e = same_geometry arrange b z s k in
      record {
        m = k.m;
        n = k.n;
        facts = k.facts;
        inv = subst (λ (x : Geometry). Inv g (booked x c r t b) (since c r t z) t) (sym e)
            (keep g k.facts b z s k.inv c r t (subst (λ (x : Geometry). Does x c s r t) e h));
      }

  aside : (b : Book) (z : Since) (s t : Meaning) (d : ℕ) (n : store.Meaning) (k : ℕ) (old new : List ℕ) (r : Plain) → KnownSoFar arrange b z s → s.state ≡ Short d → StandIn d s.members n
      → ReadsShort (geometry arrange s) k old new (with_members n s) r t → KnownSoFar arrange b z (with_members (restored d s.members t.members) t)
  aside b z s t d n k old new r x e a h =
      let g = geo arrange x.m x.n in
      record {
        m = x.m;
        n = x.n;
        facts = x.facts;
        inv = keep_without g x.facts b z s d n (subst (λ (q : State). InvIn g b z q s) e x.inv) e a k old new r t
            (subst (λ (y : Geometry). ReadsShort y k old new (with_members n s) r t) (same_geometry arrange b z s x) h);
      }

  pub so_far : (b : Book) (z : Since) (s : Meaning) → Run arrange b z s → KnownSoFar arrange b z s
  so_far _ z _ (formatted s t e h) = start z s t e h
  so_far _ _ _ (next {b} {z} {s} t c r x h) = more b z s t c r (so_far b z s x) h
  so_far _ _ _ (without {b} {z} {s} t d n k old new r x e a h) = aside b z s t d n k old new r (so_far b z s x) e a h
