-- The four corners: a square lies in the aligned squares of its side that hold its corners, four at most.
use Rattle.std.specs.Prelude.{◌≡◌, ◌⊎◌, ℕ, suc, ◌+◌, ◌-◌, ◌*◌, ◌/◌, ◌%◌, ◌^◌, ◌<◌}
use Rattle.std.proofs.Common.{sym, ap, ◌∙◌, inl, inr, mod-lt, div-add-mod', arith, pow_pos}
use Rattle.std.proofs.Math.Decide.{dec_lt}
use Rattle.std.proofs.Math.Arith.{digits_div}
use Rattle.probe.specs.Seen.{Shows, Covers}

-- a stretch of s numbers from a lies in the aligned stretches of its first number and of its last
ends_of : (a s i : ℕ) → 0 < s → i < s → ((a + i) / s ≡ a / s) ⊎ ((a + i) / s ≡ (a + (s - 1)) / s)
ends_of a s i p h =
    elim (dec_lt (a % s + i) s) [
      | yes lt ↦ inl (at (a / s) (a + i) (a % s + i) (omega (arith, div-add-mod' a s)) lt)
      | no ge ↦ inr
          (at (suc (a / s)) (a + i) (a % s + i - s) (omega (arith, div-add-mod' a s)) (omega (arith, mod-lt a p))
          ∙ sym (at (suc (a / s)) (a + (s - 1)) (a % s + (s - 1) - s) (omega (arith, div-add-mod' a s)) (omega (arith, mod-lt a p))))
    ]
  where
    at : (q x r : ℕ) → x ≡ q * s + r → r < s → x / s ≡ q
    at q x r e l = ap (λ (y : ℕ). y / s) e ∙ digits_div q {m = s} {r = r} l

-- from a multiple of s, in that of its first alone
end_of : (a s i : ℕ) → a % s ≡ 0 → i < s → (a + i) / s ≡ a / s
end_of a s i e h = let f : a + i ≡ a / s * s + i = omega (arith, div-add-mod' a s) in ap (λ (x : ℕ). x / s) f ∙ digits_div (a / s) {m = s} {r = i} h

module _ (g : ℕ → ℕ → ℕ) (row column level k : ℕ) (nw : Covers g row column level k) where
  -- the columns are aligned
  pub two_rows : column % 2 ^ level ≡ 0 → Covers g (row + (2 ^ level - 1)) column level k → Shows g row column level k
  two_rows e sw = record {
    each = λ i j hi hj. elim (ends_of row (2 ^ level) i (pow_pos level) hi) [
      | inl a ↦ nw.each (row + i) (column + j) a (end_of column (2 ^ level) j e hj)
      | inr a ↦ sw.each (row + i) (column + j) a (end_of column (2 ^ level) j e hj)
    ];
  }

  -- the rows are aligned
  pub two_columns : row % 2 ^ level ≡ 0 → Covers g row (column + (2 ^ level - 1)) level k → Shows g row column level k
  two_columns e ne = record {
    each = λ i j hi hj. elim (ends_of column (2 ^ level) j (pow_pos level) hj) [
      | inl a ↦ nw.each (row + i) (column + j) (end_of row (2 ^ level) i e hi) a
      | inr a ↦ ne.each (row + i) (column + j) (end_of row (2 ^ level) i e hi) a
    ];
  }

  pub four_corners : Covers g row (column + (2 ^ level - 1)) level k → Covers g (row + (2 ^ level - 1)) column level k
      → Covers g (row + (2 ^ level - 1)) (column + (2 ^ level - 1)) level k → Shows g row column level k
  four_corners ne sw se = record {
    each = λ i j hi hj. elim (ends_of row (2 ^ level) i (pow_pos level) hi) [
      | inl a ↦ elim (ends_of column (2 ^ level) j (pow_pos level) hj) [
        | inl b ↦ nw.each (row + i) (column + j) a b
        | inr b ↦ ne.each (row + i) (column + j) a b
      ]
      | inr a ↦ elim (ends_of column (2 ^ level) j (pow_pos level) hj) [
        | inl b ↦ sw.each (row + i) (column + j) a b
        | inr b ↦ se.each (row + i) (column + j) a b
      ]
    ];
  }
