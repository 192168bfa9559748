-- There is one shortest list, and it depends on the picture alone.
use Rattle.std.specs.Prelude.{◌≡◌, List, ℕ, ◌^◌, ◌<◌}
use Rattle.std.proofs.Common.{sym, ◌∙◌, arith}
use Rattle.tiling.specs.Leaf.{colours}
use Rattle.shortest.specs.Shortest.{shortest}
use Rattle.shortest.specs.Demand.{IsShortest}
use Rattle.shortest.proofs.Demand.{shortest_only, shortest_least, shortest_is}

module _ (f : ℕ → ℕ) (n : ℕ) (small : n < 256) (coloured : (j : ℕ) → f j < colours) where
  -- a shortest list is the rule's
  pub only_shortest : (l : List ℕ) → IsShortest f n l → l ≡ shortest f n 0
  only_shortest l s =
      let r = shortest_is f n small coloured in
      shortest_only f n l s.formed s.shows
      (omega (arith, s.least (shortest f n 0) r.formed r.shows, shortest_least f n l s.formed s.shows))

  -- two pictures that agree over the square have one shortest list
  pub same-shortest : (g : ℕ → ℕ) → ((j : ℕ) → g j < colours) → ((j : ℕ) → j < 4 ^ n → g j ≡ f j) → shortest g n 0 ≡ shortest f n 0
  same-shortest g colouredg e =
      let s = shortest_is g n small colouredg in
      only_shortest (shortest g n 0) (record {
        formed = s.formed;
        shows = λ j h. s.shows j h ∙ e j h;
        least = λ o formed shows. s.least o formed (λ j h. shows j h ∙ sym (e j h));
      })
