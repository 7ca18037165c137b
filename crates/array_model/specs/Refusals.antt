-- The number and the layer of a refusal, and what it tells besides.
use Rattle.std.specs.Prelude.{ℕ, Bool, false, Some, None, Ok, Err, Option, Result, option_map, ◌==◌}
use Rattle.member_store.specs.Refusals as store
use Rattle.intent_log.specs.Refusals as intent
use Rattle.intent_log.specs.declared.refusal.Layer.{Layer}
use Rattle.intent_log.specs.declared.refusal.Layer.TheVariants as log_layer
use Rattle.intent_log.specs.declared.refusal.LogRefusal.{LogRefusal}
use Rattle.intent_log.specs.declared.refusal.LogRefusal.TheVariants as cause
use Rattle.array_model.specs.declared.refusal.ArrayRefusal.{ArrayRefusal}
use Rattle.array_model.specs.declared.refusal.ArrayRefusal.TheVariants.{Members, Log, Limits, WrongState, NoRecord, NoSlot, StripeLeft, NoBlock, WrongLength, StripeNamed, NoMember, LogSpent}
use Rattle.array_model.specs.declared.refusal.BoxLayer.{BoxLayer}
use Rattle.array_model.specs.declared.refusal.BoxLayer.TheVariants as layer_of
use Rattle.array_model.specs.declared.refusal.Detail.{Detail}
use Rattle.array_model.specs.declared.refusal.Detail.TheVariants.{At, Counts, In, Number}

abbrev pub number : ArrayRefusal → ℕ
number (Members e) = store.number e
number (Log e) = intent.number e
number (Limits m n) = 2
number (WrongState q) = 3
number NoRecord = 4
number (NoSlot k) = 5
number (StripeLeft k) = 6
number (NoBlock k) = 7
number (WrongLength n) = 8
number (StripeNamed k) = 9
number (NoMember k) = 10
number LogSpent = 11

abbrev pub log_side : Layer → BoxLayer
log_side log_layer.LogStore = layer_of.LogStore
log_side log_layer.Log = layer_of.Log

abbrev pub layer : ArrayRefusal → BoxLayer
layer (Members e) = layer_of.Members
layer (Log e) = log_side (intent.layer e)
layer (Limits m n) = layer_of.Array
layer (WrongState q) = layer_of.Array
layer NoRecord = layer_of.Array
layer (NoSlot k) = layer_of.Array
layer (StripeLeft k) = layer_of.Array
layer (NoBlock k) = layer_of.Array
layer (WrongLength n) = layer_of.Array
layer (StripeNamed k) = layer_of.Array
layer (NoMember k) = layer_of.Array
layer LogSpent = layer_of.Array

-- what a log's refusal tells: the place of a device call, counts, a length, or nothing
abbrev pub log_detail : LogRefusal → Option Detail
log_detail (cause.Store e) = option_map At (store.place e)
log_detail cause.Off = None
log_detail (cause.TooSmall m n) = Some (Counts m n)
log_detail cause.NoRecord = None
log_detail (cause.WrongList n) = Some (Number n)
log_detail cause.Spent = None
log_detail (cause.DoesNotFit n) = Some (Number n)

abbrev pub detail : ArrayRefusal → Option Detail
detail (Members e) = option_map At (store.place e)
detail (Log e) = log_detail e
detail (Limits m n) = Some (Counts m n)
detail (WrongState q) = Some (In q)
detail NoRecord = None
detail (NoSlot k) = Some (Number k)
detail (StripeLeft k) = Some (Number k)
detail (NoBlock k) = Some (Number k)
detail (WrongLength n) = Some (Number n)
detail (StripeNamed k) = Some (Number k)
detail (NoMember k) = Some (Number k)
detail LogSpent = None

-- Was the call refused with this number?
abbrev pub refused_with : {A : Type 0} → ℕ → Result A ArrayRefusal → Bool
refused_with n (Ok a) = false
refused_with n (Err e) = number e == n
