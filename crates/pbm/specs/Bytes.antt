-- The bytes of a picture text.
use Rattle.std.specs.Prelude.{Bool, ◌&&◌, ◌||◌, ℕ, leb, eqb}

-- white space is space, TAB, LF, VT, FF and CR
abbrev pub is_space : ℕ → Bool
is_space b = eqb b 32 || eqb b 9 || eqb b 10 || eqb b 11 || eqb b 12 || eqb b 13

-- LF or CR ends a comment
abbrev pub ends_line : ℕ → Bool
ends_line b = eqb b 10 || eqb b 13

abbrev pub is_digit : ℕ → Bool
is_digit b = leb 48 b && leb b 57

-- a cell is `0` or `1`
abbrev pub is_cell : ℕ → Bool
is_cell b = eqb b 48 || eqb b 49

-- `#`
abbrev pub hash : ℕ
hash = 35

-- `0`: the digit d is the byte zero_digit + d
abbrev pub zero_digit : ℕ
zero_digit = 48

-- a text longer than this is not read
abbrev pub longest : ℕ
longest = 65536

-- a side is a power of two from 1 to 32: the sizes are 0 to 5
abbrev pub sizes : ℕ
sizes = 6
