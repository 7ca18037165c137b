-- The check of an address, by what the geometry says stands there. Assumes nothing.
use Rattle.std.proofs.Common.{◌≡◌, ℕ, ◌<◌, ◌≤◌, Bool, true, false, cond, ltb, is_some, Some, None, Option, sym, refl, ap, ◌∙◌, subst}
use Rattle.std.proofs.lemmas.Bool.{lt-ltb, le-ltb, false≢true}
use Rattle.geometry.specs.Layouts.{Arrangement}
use Rattle.geometry.specs.Places.{content_at, member_content}
use Rattle.block_address.specs.declared.Address.{Address}
use Rattle.geometry.specs.declared.place.Content.{Content}
use Rattle.stripe_work.specs.Answers.{address_check}
use Rattle.stripe_work.specs.declared.refusal.StripeRefusal.{StripeRefusal}
use Rattle.stripe_work.specs.declared.refusal.StripeRefusal.TheVariants.{NoMember, NoBlock}

there : (q : Bool) (x : Content) (r : StripeRefusal) → is_some (cond q (Some x) None) ≡ true → cond q None (Some r) ≡ None
there true x r h = refl
there false x r h = absurd (false≢true h)

not_there : (q : Bool) (x : Content) (r : StripeRefusal) → is_some (cond q (Some x) None) ≡ false → cond q None (Some r) ≡ Some r
not_there true x r h = absurd (false≢true (sym h))
not_there false x r h = refl

module _ (arrange : ℕ → ℕ → Arrangement) (m n : ℕ) (at : Address) where
  pub no_member : m ≤ at.member → address_check m n at ≡ Some (NoMember at.member)
  no_member h = ap (λ q. cond q (cond (ltb at.block n) None (Some (NoBlock at.block))) (Some (NoMember at.member))) (le-ltb at.member m h)

  abbrev what : Content
  what = member_content (arrange m at.block) m at.block at.member

  inside : at.member < m → content_at arrange m n at ≡ cond (ltb at.block n) (Some what) None
  inside h = ap (λ q. cond q (cond (ltb at.block n) (Some what) None) None) (lt-ltb at.member m h)

  checked : at.member < m → address_check m n at ≡ cond (ltb at.block n) None (Some (NoBlock at.block))
  checked h = ap (λ q. cond q (cond (ltb at.block n) None (Some (NoBlock at.block))) (Some (NoMember at.member))) (lt-ltb at.member m h)

  pub no_block : (found : Option Content) → at.member < m → found ≡ content_at arrange m n at → is_some found ≡ false → address_check m n at ≡ Some (NoBlock at.block)
  no_block found h e k = checked h ∙ not_there (ltb at.block n) what (NoBlock at.block) (subst (λ o. is_some o ≡ false) (e ∙ inside h) k)

  pub passes : (found : Option Content) → at.member < m → found ≡ content_at arrange m n at → is_some found ≡ true → address_check m n at ≡ None
  passes found h e k = checked h ∙ there (ltb at.block n) what (NoBlock at.block) (subst (λ o. is_some o ≡ true) (e ∙ inside h) k)
