-- The number, the layer and the place of a log's refusal, and which refusal says that power went in a device call.
use Rattle.std.specs.Prelude.{ℕ, None, Option}
use Rattle.member_store.specs.Refusals as store
use Rattle.block_address.specs.declared.Address.{Address}
use Rattle.intent_log.specs.declared.refusal.Layer.{Layer}
use Rattle.intent_log.specs.declared.refusal.Layer.TheVariants.{LogStore, Log}
use Rattle.intent_log.specs.declared.refusal.LogRefusal.{LogRefusal}
use Rattle.intent_log.specs.declared.refusal.LogRefusal.TheVariants.{Store, Off, TooSmall, NoRecord, WrongList, Spent, DoesNotFit}

abbrev pub number : LogRefusal → ℕ
number (Store e) = store.number e
number Off = 1
number (TooSmall m b) = 2
number NoRecord = 4
number (WrongList n) = 12
number Spent = 11
number (DoesNotFit n) = 13

abbrev pub layer : LogRefusal → Layer
layer (Store e) = LogStore
layer Off = Log
layer (TooSmall m b) = Log
layer NoRecord = Log
layer (WrongList n) = Log
layer Spent = Log
layer (DoesNotFit n) = Log

-- the place of the device call, where there was one
abbrev pub place : LogRefusal → Option Address
place (Store e) = store.place e
place Off = None
place (TooSmall m b) = None
place NoRecord = None
place (WrongList n) = None
place Spent = None
place (DoesNotFit n) = None

-- power went in a device call
abbrev pub PowerWent : LogRefusal → Type 0
PowerWent (Store e) = store.IsPowerOff e
PowerWent Off = ⊥
PowerWent (TooSmall m b) = ⊥
PowerWent NoRecord = ⊥
PowerWent (WrongList n) = ⊥
PowerWent Spent = ⊥
PowerWent (DoesNotFit n) = ⊥
