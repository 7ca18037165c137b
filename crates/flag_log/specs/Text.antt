-- What the flag's record says to a user.
use Rattle.std.specs.Prelude.{ℕ, List, codes}
use Rattle.flag_log.specs.declared.flag.FlagRecord.{FlagRecord}
use Rattle.flag_log.specs.declared.flag.FlagRecord.TheVariants.{NamesNothing, NamesEvery}

abbrev pub text : FlagRecord → List ℕ
text NamesNothing = codes "names nothing"
text NamesEvery = codes "names every stripe"
