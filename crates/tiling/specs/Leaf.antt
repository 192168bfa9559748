-- A leaf is one 64-bit word: code × 65,536 + level × 256 + colour.
use Rattle.std.specs.Prelude.{ℕ, ◌+◌, ◌*◌, ◌/◌, ◌%◌, ◌^◌}

abbrev pub leaf : ℕ → ℕ → ℕ → ℕ
leaf code level colour = code * 65536 + level * 256 + colour

abbrev pub code_of : ℕ → ℕ
code_of w = w / 65536

abbrev pub level_of : ℕ → ℕ
level_of w = w / 256 % 256

abbrev pub colour_of : ℕ → ℕ
colour_of w = w % 256

-- the end of an entry: the first code past its block
abbrev pub end_of : ℕ → ℕ
end_of w = code_of w + 4 ^ level_of w

-- colours are 0 to 255; 0 is WHITE
abbrev pub colours : ℕ
colours = 256

abbrev pub white : ℕ
white = 0
