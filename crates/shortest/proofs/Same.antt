-- What a block comes to depends on the picture over that block alone.
use Rattle.std.proofs.Common.{◌≡◌, Bool, List, ◌∷◌, [], ◌∙◌, arith, ℕ, zero, suc, ◌+◌, ◌*◌, ◌^◌, ◌≤◌}
use Rattle.std.proofs.Math.Path.{refl, sym, ap}
use Rattle.std.proofs.Math.Bool.{true, false}
use Rattle.std.proofs.Math.Dec.{eqb}
use Rattle.tiling.specs.Leaf.{leaf}
use Rattle.shortest.specs.Shortest.{all, uniform, shortest}
use Rattle.shortest.specs.Part.{part}
use Rattle.shortest.specs.Written.{inner, Placed}
use Rattle.shortest.specs.Laws.Paint.{shortest_one, shortest_four}
use Rattle.shortest.specs.Laws.Power.{pow_pos, pow_four}
use Rattle.shortest.specs.Laws.Same.{Same}

module _ (f g : ℕ → ℕ) where
  -- and so over its quarters
  quarter : (L k k' : ℕ) → Same f g (suc L) k → k ≤ k' → k' + 4 ^ L ≤ k + 4 * 4 ^ L → Same f g L k'
  quarter L k k' s a b j lo hi = s j (omega arith) (omega (arith, pow_four L))

  first : (L k : ℕ) → Same f g L k → f k ≡ g k
  first L k s = s k (omega arith) (omega (arith, pow_pos L))

  all_same : (c L k : ℕ) → Same f g L k → all f c L k ≡ all g c L k
  unfolding all
  all_same c zero k s = ap (λ (x : ℕ). eqb x c) (first 0 k s)
  all_same c (suc L) k s =
      rw (all_same c L k (quarter L k k s (omega arith) (omega arith)), all_same c L (k + 4 ^ L) (quarter L k (k + 4 ^ L) s (omega arith) (omega arith)), all_same c L (k + 2 * 4 ^ L) (quarter L k (k + 2 * 4 ^ L) s (omega arith) (omega arith)), all_same c L (k + 3 * 4 ^ L) (quarter L k (k + 3 * 4 ^ L) s (omega arith) (omega arith))) refl

  uniform-same : (L k : ℕ) → Same f g L k → uniform f L k ≡ uniform g L k
  unfolding uniform
  uniform-same L k s = ap (λ (c : ℕ). all f c L k) (first L k s) ∙ all_same (g k) L k s

  shortest-same : (L k : ℕ) → Same f g L k → shortest f L k ≡ shortest g L k
  unfolding shortest
  shortest-same zero k s = ap (λ (c : ℕ). leaf k 0 c ∷ []) (first 0 k s)
  shortest-same (suc L) k s =
      go (uniform g (suc L) k) refl
      (shortest-same L k (quarter L k k s (omega arith) (omega arith))) (shortest-same L (k + 4 ^ L) (quarter L k (k + 4 ^ L) s (omega arith) (omega arith)))
      (shortest-same L (k + 2 * 4 ^ L) (quarter L k (k + 2 * 4 ^ L) s (omega arith) (omega arith))) (shortest-same L (k + 3 * 4 ^ L) (quarter L k (k + 3 * 4 ^ L) s (omega arith) (omega arith)))
    where
      go : (b : Bool) → uniform g (suc L) k ≡ b → shortest f L k ≡ shortest g L k → shortest f L (k + 4 ^ L) ≡ shortest g L (k + 4 ^ L)
          → shortest f L (k + 2 * 4 ^ L) ≡ shortest g L (k + 2 * 4 ^ L) → shortest f L (k + 3 * 4 ^ L) ≡ shortest g L (k + 3 * 4 ^ L) → shortest f (suc L) k ≡ shortest g (suc L) k
      go true e a b c d =
          shortest_one f (suc L) k (uniform-same (suc L) k s ∙ e) ∙ ap (λ (x : ℕ). leaf k (suc L) x ∷ []) (first (suc L) k s) ∙ sym (shortest_one g (suc L) k e)
      go false e a b c d = shortest_four f L k (uniform-same (suc L) k s ∙ e) ∙ rw (a, b, c, d) refl ∙ sym (shortest_four g L k e)

  module _ (L k : ℕ) (s : Same f g L k) where
    pub part_same : part f L k ≡ part g L k
    unfolding part
    part_same = rw (uniform-same L k s, first L k s, shortest-same L k s) refl

    pub inner-same : inner f L k ≡ inner g L k
    unfolding inner
    inner-same = rw (uniform-same L k s, shortest-same L k s) refl

    -- room for the one is room for the other
    pub placed_same : (out : List ℕ) (at : ℕ) → Placed g out at L k → Placed f out at L k
    placed_same out at p = record { room = λ h. rw part_same (p.room (rw part_same at h)); small = p.small }
