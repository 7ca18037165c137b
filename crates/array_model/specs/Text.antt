-- What states, refusals and answers say to a user.
use Rattle.std.specs.Prelude.{ℕ, Bool, true, false, List, [], ◌++◌, Some, None, Option, codes, decimal}
use Rattle.array_model.specs.Refusals.{number, layer, detail}
use Rattle.array_model.specs.declared.state.State.{State}
use Rattle.array_model.specs.declared.state.State.TheVariants.{Fallen, Down, Resync, Ready, Short}
use Rattle.array_model.specs.declared.refusal.ArrayRefusal.{ArrayRefusal}
use Rattle.array_model.specs.declared.refusal.BoxLayer.{BoxLayer}
use Rattle.array_model.specs.declared.refusal.BoxLayer.TheVariants as box
use Rattle.array_model.specs.declared.refusal.Detail.{Detail}
use Rattle.array_model.specs.declared.refusal.Detail.TheVariants.{At, Counts, In, Number}
use Rattle.array_model.specs.declared.answer.TakenStripe.{TakenStripe}
use Rattle.array_model.specs.declared.answer.ResyncCounts.{ResyncCounts}
use Rattle.array_model.specs.declared.answer.Destage.{Destage}
use Rattle.array_model.specs.declared.answer.Destage.TheVariants.{Moved, Changed, Idle}
use Rattle.array_model.specs.declared.answer.FlushCounts.{FlushCounts}

abbrev pub state_text : State → List ℕ
state_text Fallen = codes "fallen"
state_text Down = codes "down"
state_text (Resync p) = codes "resync"
state_text Ready = codes "ready"
state_text (Short d) = codes "short"

abbrev pub layer_text : BoxLayer → List ℕ
layer_text box.Members = codes "members"
layer_text box.LogStore = codes "log-store"
layer_text box.Log = codes "log"
layer_text box.Array = codes "array"

abbrev pub detail_text : Detail → List ℕ
detail_text (At p) = decimal p.member ++ (codes " " ++ decimal p.block)
detail_text (Counts m n) = decimal m ++ (codes " " ++ decimal n)
detail_text (In q) = state_text q
detail_text (Number n) = decimal n

-- the detail after a space, where there is one
abbrev pub rest_text : Option Detail → List ℕ
rest_text None = []
rest_text (Some d) = codes " " ++ detail_text d

abbrev pub refusal_text : ArrayRefusal → List ℕ
refusal_text e = codes "refused " ++ (decimal (number e) ++ (codes " " ++ (layer_text (layer e) ++ rest_text (detail e))))

abbrev pub mended_text : Bool → List ℕ
mended_text true = codes "mended"
mended_text false = codes "right"

abbrev pub taken_text : TakenStripe → List ℕ
taken_text t = codes "stripe " ++ (decimal t.stripe ++ (codes " " ++ mended_text t.mended))

abbrev pub resync_text : ResyncCounts → List ℕ
resync_text c = codes "read " ++ (decimal c.read ++ (codes " mended " ++ decimal c.mended))

abbrev pub destage_text : Destage → List ℕ
destage_text (Moved k) = codes "moved " ++ decimal k
destage_text (Changed p) = codes "changed " ++ decimal p
destage_text Idle = codes "idle"

abbrev pub flush_text : FlushCounts → List ℕ
flush_text c = codes "flushed " ++ (decimal c.stripes ++ (codes " puts " ++ decimal c.puts))
