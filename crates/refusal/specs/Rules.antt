-- Every refusal's No.: when it is given, and the number that it returns.
use Rattle.std.specs.Prelude.{ℕ}

-- a size is above the limit; 0 the first map's, 1 the second's, 2 the window's
abbrev pub size : ℕ
size = 1

-- an offset or origin is outside -65,536 .. 65,536; 0 dy, 1 dx, 2 wy, 3 wx
abbrev pub offset : ℕ
offset = 2

-- the first list is not well formed; the position of the first wrong entry, or the length if it stops short
abbrev pub first_list : ℕ
first_list = 3

-- the second list, likewise
abbrev pub second_list : ℕ
second_list = 4

-- the shortest list is longer than the space lent; its length
abbrev pub no_room : ℕ
no_room = 5

-- a ground number is not usable; 0 to 5: north, east, cell of the first, then of the second
abbrev pub ground_number : ℕ
ground_number = 6

-- the cell sides differ; 0
abbrev pub cell_sides : ℕ
cell_sides = 7

-- the shift is not whole cells; 0 rows, 1 columns
abbrev pub part_of_a_cell : ℕ
part_of_a_cell = 8

-- a cell, or a neighbour, is beyond the square; 0
abbrev pub outside : ℕ
outside = 9

-- a raster's length is not 4 ^ n; 0
abbrev pub raster_length : ℕ
raster_length = 10

-- a picture text is not read; 0
abbrev pub picture_text : ℕ
picture_text = 11

-- a block address is no block of that square; 0
abbrev pub block_address : ℕ
block_address = 12
