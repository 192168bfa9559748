-- The code of a cell interleaves the bits of its row and its column, the row's bit before the column's at each place.
use Rattle.std.specs.Prelude.{ℕ, zero, suc, ◌+◌, ◌*◌, ◌/◌, ◌%◌}

-- the lowest b bits of row r and of column c, interleaved
unfoldable pub interleaved : ℕ → ℕ → ℕ → ℕ
interleaved zero r c = 0
interleaved (suc b) r c = 4 * interleaved b (r / 2) (c / 2) + 2 * (r % 2) + c % 2

-- the bits that are taken of a row or a column: enough for every map
abbrev pub bits : ℕ
bits = 16

-- the code of the cell at row r, column c
abbrev pub code : ℕ → ℕ → ℕ
code r c = interleaved bits r c

-- the b bits that stand at the even places of k, brought together
unfoldable pub gathered : ℕ → ℕ → ℕ
gathered zero k = 0
gathered (suc b) k = 2 * gathered b (k / 4) + k % 2

-- the row and the column of the cell whose code is k
abbrev pub row_of : ℕ → ℕ
row_of k = gathered bits (k / 2)

abbrev pub column_of : ℕ → ℕ
column_of k = gathered bits k

-- v spread: bit k of its lowest b bits at bit 2k, and zeros elsewhere
unfoldable pub spread : ℕ → ℕ → ℕ
spread zero v = 0
spread (suc b) v = 4 * spread b (v / 2) + v % 2
