-- The calls on one list: the list check and the lookup.
use Rattle.std.specs.Prelude.{not, List, ℕ, ltb, ℤ, length}
use Rattle.refusal.specs.Rules as rule
use Rattle.refusal.specs.Answer.{Answer, gives, refuse_if}
use Rattle.refusal.specs.Judged.{refuse_wrong}
use Rattle.tiling.specs.Map.{limit, inside, colour_in}
use Rattle.tiling.specs.Check.{checked}

-- list check: 1, 3; the number of leaves
unfoldable pub list_check : ℕ → List ℕ → Answer ℕ
list_check n l = refuse_if (ltb limit n) rule.size 0 (refuse_wrong rule.first_list (checked n l) (gives (length l)))

-- lookup: 1, 3, 9; the colour of the cell
unfoldable pub cell_lookup : ℕ → List ℕ → ℤ → ℤ → Answer ℕ
cell_lookup n l row column =
    refuse_if (ltb limit n) rule.size 0
    (refuse_wrong rule.first_list (checked n l)
    (refuse_if (not (inside n row column)) rule.outside 0
    (gives (colour_in n l row column))))
