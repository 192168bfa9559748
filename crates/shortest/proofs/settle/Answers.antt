-- `shortest::settle` meets its contract: four stores, each after the leaves of those before it.
use Rattle.std.specs.Prelude.{◌≡◌, List, ℕ, ◌+◌, ◌*◌, ◌-◌, ◌^◌}
use Rattle.std.proofs.Common.{refl, arith}
use Rattle.morton.specs.Block.{Quarter}
use Rattle.morton.specs.Laws.Block.{quarter_place}
use Rattle.shortest.specs.Coded.{number_of}
use Rattle.shortest.specs.Written.{filled}
use Rattle.shortest.specs.Laws.Written.{settled_four}
use Rattle.shortest.proofs.settle.Goals as goal

-- a store at a quarter's code and level, the code as the definition has it
stored : {k L i c l t : ℕ} {o' : List ℕ} (o : List ℕ) (at p : ℕ) → Quarter k L i c l → t ≡ k + i * 4 ^ (L - 1) → o' ≡ filled o at p c l → o' ≡ filled o at p t (L - 1)
stored o at p₀ q e f = let p = quarter_place q e in rw (p.0, p.1) at f

pub returns : goal.returns
returns c =
    let a = c.args in
    let p = a.parts in
    let q = c.quarters-quarter.ensures in
    settled_four a.out.now _ _ _ _ a.at _ _ _ (number_of p.nw) (number_of p.ne) (number_of p.sw) (number_of p.se) a.block.code (a.block.level - 1) (4 ^ (a.block.level - 1))
    refl c.size.ensures c.size-2.ensures c.size-3.ensures
    (stored _ _ _ q.nw (omega arith) c.fill.ensures) (stored _ _ _ q.ne (omega arith) c.fill-2.ensures) (stored _ _ _ q.sw refl c.fill-3.ensures) (stored _ _ _ q.se refl c.fill-4.ensures)
