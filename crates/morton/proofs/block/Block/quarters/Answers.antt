-- `morton::Block::quarters` meets its contract: each quarter is a block one level down.
use Rattle.morton.proofs.block.Block.quarters.Goals.{After-side-side}
use Rattle.std.proofs.Common.{refl, arith, ap, ℕ, ◌≡◌, ◌-◌, ◌^◌}
use Rattle.morton.specs.Block.{Quarters}
use Rattle.morton.specs.Laws.Block.{block_level, quarters, quarter_at}
use Rattle.morton.specs.declared.block.Spot.{Spot}
use Rattle.morton.proofs.block.Block.quarters.Goals as goal

-- the code and the level of the block's spot
parts : {s : Spot} {k l : ℕ} → s ≡ record { code = k; level = l } → (s.code ≡ k) × (s.level ≡ l)
parts e = (ap (λ (s : Spot). s.code) e, ap (λ (s : Spot). s.level) e)

pub side-side-requires : goal.side-side-requires
side-side-requires c = omega (arith, (parts c.from.ensures).1, c.quarters-spot.ensures.nw.level, block_level _ _ _ _ c.args.self.is)

four : (c : After-side-side) → let b = c.args.self in Quarters b.code b.row b.column (b.level - 1) c.side-side.result (4 ^ (b.level - 1))
four c = quarters _ _ _ _ _ _ c.requires refl (rw (c.quarters-spot.ensures.nw.level, (parts c.from.ensures).1) at c.side-side.ensures.is) c.args.self.is

pub at-requires : goal.at-requires
at-requires c = quarter_at (parts c.from.ensures) c.quarters-spot.ensures.nw (omega arith) (four (goal.at.at-requires c).After-side-side).nw

pub at-requires-2 : goal.at-requires-2
at-requires-2 c = quarter_at (parts c.from.ensures) c.quarters-spot.ensures.ne (omega arith) (four (goal.at.at-requires-2 c).After-side-side).ne

pub at-requires-3 : goal.at-requires-3
at-requires-3 c = quarter_at (parts c.from.ensures) c.quarters-spot.ensures.sw (omega arith) (four (goal.at.at-requires-3 c).After-side-side).sw

pub at-requires-4 : goal.at-requires-4
at-requires-4 c = quarter_at (parts c.from.ensures) c.quarters-spot.ensures.se (omega arith) (four (goal.at.at-requires-4 c).After-side-side).se
