-- The shortest list paints its block, and no list that paints it is shorter.
use Rattle.std.specs.Prelude.{◌≡◌, refl, Bool, true, false, List, ◌++◌, ℕ, zero, suc, ◌+◌, ◌*◌, ◌^◌, ◌<◌, length}
use Rattle.std.proofs.Common.{sym, ap, ◌∙◌, arith}
use Rattle.tiling.specs.Leaf.{colours}
use Rattle.shortest.specs.Shortest.{uniform, shortest}
use Rattle.shortest.proofs.Flat.{uniform_flat, flat_uniform}
use Rattle.shortest.specs.Laws.Paint.{Paint, one, four, shortest_one, shortest_four, paint_some, Least, length_four}

pub shortest_paints : (f : ℕ → ℕ) → ((j : ℕ) → f j < colours) → (L k : ℕ) → Paint f L k (shortest f L k)
unfolding shortest
shortest_paints f small zero k = one {L = zero} {k = k} (small k) (λ j lo hi. let e : j ≡ k = omega arith in ap f e)
shortest_paints f small (suc L) k =
    go (uniform f (suc L) k) refl (four (shortest_paints f small L k) (shortest_paints f small L (k + 4 ^ L)) (shortest_paints f small L (k + 2 * 4 ^ L)) (shortest_paints f small L (k + 3 * 4 ^ L)))
  where
    go : (b : Bool) → uniform f (suc L) k ≡ b → Paint f (suc L) k (shortest f L k ++ shortest f L (k + 4 ^ L) ++ shortest f L (k + 2 * 4 ^ L) ++ shortest f L (k + 3 * 4 ^ L)) → Paint f (suc L) k (shortest f (suc L) k)
    go true e p = rw (shortest_one f (suc L) k e) (one (small k) (uniform_flat f (suc L) k e))
    go false e p = rw (shortest_four f L k e) p

pub least : {f : ℕ → ℕ} {L k : ℕ} {l : List ℕ} → Paint f L k l → Least f L k l
least {f} (one {L = L} {k = k} s h) =
    let e = shortest_one f L k (flat_uniform f (f k) L k h) in
    record { least = omega (arith, ap length e); only = λ _. sym e }
least {f} (four {L = L} {k = k} {a = a} {b = b} {c = c} {d = d} p q r s) =
    go (uniform f (suc L) k) refl (least p) (least q) (least r) (least s)
  where
    go : (u : Bool) → uniform f (suc L) k ≡ u → Least f L k a → Least f L (k + 4 ^ L) b → Least f L (k + 2 * 4 ^ L) c → Least f L (k + 3 * 4 ^ L) d → Least f (suc L) k (a ++ b ++ c ++ d)
    go true e i j m n =
        let h = ap length (shortest_one f (suc L) k e) in
        let g = length_four a b c d in
        record { least = omega (arith, paint_some p); only = λ x. absurd (omega (arith, paint_some p, paint_some q)) }
    go false e i j m n =
        let h = ap length (shortest_four f L k e) ∙ length_four (shortest f L k) (shortest f L (k + 4 ^ L)) (shortest f L (k + 2 * 4 ^ L)) (shortest f L (k + 3 * 4 ^ L)) in
        let g = length_four a b c d in
        record {
          least = omega arith;
          only = λ x.
              let ea = i.only (omega arith) in
              let eb = j.only (omega arith) in
              let ec = m.only (omega arith) in
              let ed = n.only (omega arith) in
              cc (shortest_four f L k e);
        }
