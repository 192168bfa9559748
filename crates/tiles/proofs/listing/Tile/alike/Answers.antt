-- `tiles::Tile::alike` meets its contract: all cells of the part have the colour of its first.
use borrow.Author.Tests.{tests}
use Rattle.std.proofs.Common.{arith, rules, refl, length, ℕ, ◌≡◌, ◌≢◌, ◌+◌, ◌-◌}
use Rattle.std.proofs.Math.ListN.{get_or}
use Rattle.std.proofs.lemmas.Bool.{MatchBool-at_true}
use Rattle.std.proofs.lemmas.Iterator.{cases_from_all, YieldsList-from_slice}
use Rattle.tiles.specs.Laws.Listing.{low, all_flat}
use Rattle.tiles.proofs.listing.Tile.alike.Goals as goal

pub area-requires : goal.area-requires
area-requires c = omega (arith, low _ _ _ c.requires)

pub returns : goal.returns
returns c =
    let s = c.args.self.now in
    let b = c.args.block in
    let whole : length s.cells.now ≡ 256 = search rules in
    let colour : ℕ = get_or s.cells.now (b.code - s.first) 0 in
    λ e.
    all_flat s.cells.now s.first b.code b.level (b.code - s.first) (b.code - s.first + c.area.result) colour whole c.requires refl (omega (arith, c.area.ensures.is)) refl
    (MatchBool-at_true _ _ e (cases_from_all _ _ _ (λ (x : ℕ). x ≡ colour) (λ (x : ℕ). x ≢ colour) c.all.ensures.ran (YieldsList-from_slice _ cc) (λ x q k. search (rules, tests)) (λ x q k. search (rules, tests))))
