use Rattle.std.proofs.Common.{ap, ◌∙◌, subst}
use Rattle.memory_store.specs.declared.memory.MemoryStore.{MemoryStore}
use Rattle.memory_store.specs.Memory.{memory_means}
use Rattle.sheet_parity.specs.Right.{AllRight}
use Rattle.sheet.proofs.disks.wrong_on.Goals as goal

-- the memory that is looked at is the one below the fuse
pub returns : goal.returns
returns c =
    let P : MemoryStore → Type 0 = λ s. AllRight (memory_means s) 16 in
    λ z. subst P (c.below-2.ensures ∙ ap (λ f. f.fuse.below) c.below.ensures) (c.wrong_stripes.ensures.right z)
