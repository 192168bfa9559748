-- What the functions that read the front of a text promise.
use Rattle.std.specs.Prelude.{◌≡◌, true, false, List, ℕ, ◌<◌, min, Option, Some, None}
use denote.Ref.{Bor}
use Rattle.pbm.specs.Bytes.{sizes}
use Rattle.pbm.specs.Reading.{blank, past_blank, number, past_digits, is_field, field, past_field, size_of_side, is_header, size, at_cells}
use Rattle.pbm.specs.declared.header.Read.{Read}

-- a number is counted to 33, which is more than any side
abbrev pub capped : ℕ → ℕ
capped v = min 33 v

-- one byte of white space or one comment is passed, if that stands in front
abbrev pub PastBlank : List ℕ → Option (Bor (List ℕ)) → Type 0
PastBlank text (Some rest) = (blank text ≡ true) × (rest.now ≡ past_blank text)
PastBlank text None = blank text ≡ false

abbrev pub Numbered : List ℕ → Read → Type 0
Numbered text r = (r.value ≡ capped (number 0 text)) × (r.rest.now ≡ past_digits text)

abbrev pub Fielded : List ℕ → Option Read → Type 0
Fielded text (Some r) = (is_field text ≡ true) × (r.value ≡ capped (field text)) × (r.rest.now ≡ past_field text)
Fielded text None = is_field text ≡ false

-- the size whose side is so long, if there is one
abbrev pub SizeOf : ℕ → Option ℕ → Type 0
SizeOf side (Some n) = (n ≡ size_of_side side) × (n < sizes)
SizeOf side None = size_of_side side ≡ sizes

abbrev pub Headed : List ℕ → Option Read → Type 0
Headed text (Some r) = (is_header text ≡ true) × (r.value ≡ size text) × (r.rest.now ≡ at_cells text)
Headed text None = is_header text ≡ false
