-- Runs exist: on every array within the limits one formats, opens, finishes, writes a block and closes.
use Rattle.std.specs.Prelude.{◌≡◌, ℕ, ◌<◌, true, List, length}
use Rattle.geometry.specs.Counts.{counts_allowed}
use Rattle.geometry.specs.Places.{data_blocks}
use Rattle.array_model.specs.Meaning.{Meaning, Arrange, LawfulLayout, geometry, held}
use Rattle.array_model.specs.Book.{Book, add, settled, Since}
use Rattle.array_model.specs.Runs.{Run}
use Rattle.array_model.specs.declared.state.State.TheVariants.{Down}

-- After a run the array is down, block k was written with the bytes x and holds them, and its book is settled.
pub record WrittenAndClosed (arrange : Arrange) (m n k : ℕ) (x : List ℕ) : Type 0 where
  pub book : Book
  pub since : Since
  pub left : Meaning
  pub run : Run arrange (settled (add k x book)) since left
  pub down : left.state ≡ Down
  pub counts : (left.members.members ≡ m) × (left.members.blocks ≡ n)
  pub holds : held (geometry arrange left) left.members k ≡ x

pub record RunsExist : Type 0 where
  pub witness : (arrange : Arrange) (m n k : ℕ) (x : List ℕ) → LawfulLayout arrange → counts_allowed m n ≡ true → k < data_blocks m n → length x ≡ 512 → WrittenAndClosed arrange m n k x
