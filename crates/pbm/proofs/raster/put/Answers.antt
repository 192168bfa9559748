-- `pbm::raster::put` meets its contract: white space that is passed over leaves the cells as they are.
use Rattle.std.proofs.Common.{◌≡◌, refl, sym, ap, ◌∙◌, true, false, ◌||◌, Bool, Iter, Bor, ◌-◌, ◌∷◌, [], List, ℕ, Some, None, length, arith, rules}
use denote.Param.Members.{Mut}
use borrow.Author.Tests.{tests}
use Rattle.std.proofs.lemmas.List.{nil_from_length}
use Rattle.std.proofs.Math.Numerals.{add-one}
use Rattle.std.specs.Fn.{CalledAt}
use Rattle.std.specs.List.{FoldsTo}
use Rattle.std.specs.Iterator.{Yields}
use Rattle.std.specs.Iterator.Adapters.{filter_steps}
use Rattle.std.specs.declared.iter.Filter.{Filter}
use Rattle.std.specs.Slice.Iter.{iter_rest, iter_steps}
use Rattle.tiling.specs.Laws.Tests.{and_both}
use Rattle.pbm.specs.Bytes.{is_space, is_cell, zero_digit}
use Rattle.pbm.specs.Reading.{only_cells, cells}
use Rattle.pbm.proofs.raster.put.Goals.{In-Some}
use Rattle.pbm.proofs.raster.put.Goals as goal

-- a turn of the loop passes over white space, and then takes a cell
module _ {F : Type 0} (g : Mut F (Bor (Bor ℕ) × Unit {0}) Bool) (space : (p q : F) (x : Bor ℕ) → CalledAt g p x false q → is_space x.now ≡ true) where
  skipped : (xs : List (Bor ℕ)) (s t : Iter ℕ) (p f : F) → Yields iter_steps s xs t → FoldsTo (λ p x q. CalledAt g p x false q) p xs f
      → (cells (iter_rest s) ≡ cells (iter_rest t)) × (only_cells (iter_rest s) ≡ only_cells (iter_rest t))
  skipped [] s t p f y k = rw y (refl, refl)
  skipped (x ∷ xs) s t p f y k = rw (y.1, space p k.0 x k.1) (skipped xs y.0 t k.0 f y.2 k.2)

  ended : (s u : Filter (Iter ℕ) F) → filter_steps iter_steps g s None u → cells (iter_rest s.iter) ≡ []
  ended s u p = (skipped p.0 s.iter p.2.0 s.p p.1 p.2.1 p.3).0 ∙ ap cells (nil_from_length _ p.2.2.0)

  turn : ((p q : F) (x : Bor ℕ) → CalledAt g p x true q → is_space x.now ≡ false) → (s u : Filter (Iter ℕ) F) (b : Bor ℕ) → filter_steps iter_steps g s (Some b) u
      → (cells (iter_rest s.iter) ≡ (b.now - zero_digit) ∷ cells (iter_rest u.iter)) × (only_cells (iter_rest s.iter) ≡ true → only_cells (iter_rest u.iter) ≡ true)
  turn cell s u b p =
      let m = skipped p.0 s.iter p.2.0 s.p p.1 p.2.1 p.3 in (
        m.0 ∙ rw (p.2.2, cell p.1 u.p b p.4) refl,
        λ e. (and_both (is_space b.now || is_cell b.now) (only_cells (iter_rest u.iter)) (rw p.2.2 at (sym m.1 ∙ e))).1,
      )

took : (c : In-Some)
    → (cells (iter_rest c.loop-k.k-iterator.iter.iter) ≡ (c.in-Some.b.now - zero_digit) ∷ cells (iter_rest c.next.new.self.iter.iter))
    × (only_cells (iter_rest c.loop-k.k-iterator.iter.iter) ≡ true → only_cells (iter_rest c.next.new.self.iter.iter) ≡ true)
took c = turn _ (λ p q x k. search (rules, tests)) (λ p q x k. search (rules, tests)) c.loop-k.k-iterator.iter c.next.new.self.iter c.in-Some.b c.in-Some.ensures.steps.0

pub bounds-out-k : goal.bounds-out-k
bounds-out-k c = let m = ap length (took (goal.at.bounds-out-k c).In-Some).0 in search (rules, arith)

pub loop-k-preserved : goal.loop-k-preserved
loop-k-preserved c = let m = took (goal.at.loop-k-preserved c).In-Some in let k = ap length m.0 in search (rules, add-one)

pub returns : goal.returns
returns c = rw (ended _ (λ p q x k. search (rules, tests)) c.loop-k.k-iterator.iter c.next.new.self.iter c.in-None.ensures.steps.0) at c.loop-k.invariant.stored
