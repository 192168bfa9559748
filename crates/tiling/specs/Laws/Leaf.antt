-- The word's round trip: its parts are those that it was made of, and it is made of its parts.
use Rattle.std.specs.Prelude.{◌≡◌, ℕ, ◌+◌, ◌^◌, ◌<◌}
use Rattle.std.proofs.Common.{ap₂, arith}
use Rattle.tiling.specs.Leaf.{leaf, code_of, level_of, colour_of, end_of}

module _ (k L c : ℕ) (hl : L < 256) (hc : c < 256) where
  pub leaf-code : code_of (leaf k L c) ≡ k
  leaf-code = omega arith

  pub leaf_level : level_of (leaf k L c) ≡ L
  leaf_level = omega arith

  pub leaf_colour : colour_of (leaf k L c) ≡ c
  leaf_colour = omega arith

  pub leaf-end : end_of (leaf k L c) ≡ k + 4 ^ L
  leaf-end = ap₂ (λ (x y : ℕ). x + 4 ^ y) leaf-code leaf_level

pub word_leaf : (w : ℕ) → w ≡ leaf (code_of w) (level_of w) (colour_of w)
word_leaf w = omega arith
