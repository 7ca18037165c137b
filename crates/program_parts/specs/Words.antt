-- The words of the programs' input.
use Rattle.std.specs.Prelude.{◌≡◌, ◌≢◌, ℕ, List, Result, MatchResult, codes}
use Rattle.program_parts.specs.declared.log_kind.LogKind.{LogKind}
use Rattle.program_parts.specs.declared.log_kind.LogKind.TheVariants.{Ring, Flag}
use Rattle.program_parts.specs.declared.layout_kind.LayoutKind.{LayoutKind}
use Rattle.program_parts.specs.declared.layout_kind.LayoutKind.TheVariants.{RightAsymmetric, LeftAsymmetric, LeftSymmetric}
use Rattle.program_parts.specs.declared.line_error.LineError.{LineError}
use Rattle.program_parts.specs.declared.line_error.LineError.TheVariants.{NoForm, OutOfMemory}
use Rattle.program_parts.specs.declared.side.Side.{Side}
use Rattle.program_parts.specs.declared.side.Side.TheVariants.{Members, Log}

-- The value that has this word; an error where none has it.
abbrev pub Reads : {T E : Type 0} → (T → List ℕ) → List ℕ → Result T E → Type 0
Reads word_of word r = MatchResult r (λ v. word ≡ word_of v) (λ _. (v : _) → word ≢ word_of v)

abbrev pub log_word : LogKind → List ℕ
log_word Ring = codes "ring"
log_word Flag = codes "flag"

abbrev pub side_word : Side → List ℕ
side_word Members = codes "members"
side_word Log = codes "log"

-- A layout's RAID level qualifier.
abbrev pub qualifier : LayoutKind → List ℕ
qualifier RightAsymmetric = codes "0"
qualifier LeftAsymmetric = codes "2"
qualifier LeftSymmetric = codes "3"

-- What is said of a text of no form, and of a line that is not taken.
abbrev pub no_form_text : List ℕ
no_form_text = codes "no such form"

abbrev pub line_error_text : LineError → List ℕ
line_error_text NoForm = no_form_text
line_error_text OutOfMemory = codes "memory allocation failed"
