-- A list that paints the whole square is well formed and shows the picture, and the other way round.
use Rattle.std.specs.Prelude.{◌≡◌, refl, List, [], ◌∷◌, ◌++◌, ℕ, zero, suc, ◌+◌, ◌*◌, ◌%◌, ◌^◌, ◌≤◌, ◌<◌}
use Rattle.std.proofs.Common.{sym, ap, ◌∙◌, subst, append_assoc, append-nil, le_refl, arith, lt-ltb, le-ltb}
use Rattle.std.proofs.Math.Nat.{zero-mod}
use Rattle.std.proofs.Math.Decide.{dec_le, dec_lt, ℕ_discrete}
use Rattle.tiling.specs.Leaf.{leaf, colour_of, level_of, end_of}
use Rattle.tiling.specs.Map.{colour_at}
use Rattle.tiling.specs.WellFormed.{WellFormed}
use Rattle.tiling.specs.Laws.Leaf.{leaf_colour, leaf_level, leaf-code, leaf-end, word_leaf}
use Rattle.tiling.specs.Laws.Run.{Run, run_formed, formed_run}
use Rattle.shortest.specs.Shortest.{ShowsPicture}
use Rattle.shortest.specs.Laws.Flat.{Flat, flat_first}
use Rattle.shortest.specs.Laws.Paint.{Paint, one, four}
use Rattle.shortest.specs.Laws.Power.{pow_pos, mod_down, mod-le, quarter_mod, inside-mod}

-- the entries show f at the codes from e up to e'
abbrev pub Agrees : (ℕ → ℕ) → ℕ → List ℕ → ℕ → Type 0
Agrees f e l e' = (j : ℕ) → e ≤ j → j < e' → colour_at l j ≡ f j

colour_here : (w : ℕ) (ws : List ℕ) (j : ℕ) → j < end_of w → colour_at (w ∷ ws) j ≡ colour_of w
unfolding colour_at
colour_here w ws j h = rw (lt-ltb j (end_of w) h)

colour_later : (w : ℕ) (ws : List ℕ) (j : ℕ) → end_of w ≤ j → colour_at (w ∷ ws) j ≡ colour_at ws j
unfolding colour_at
colour_later w ws j h = rw (le-ltb j (end_of w) h)

-- the codes of the quarters
quarter_one : (L k : ℕ) → k % 4 ^ suc L ≡ 0 → (k + 4 ^ L) % 4 ^ L ≡ 0
quarter_one L k h = let q : k + 1 * 4 ^ L ≡ k + 4 ^ L = omega arith in subst (λ (x : ℕ). x % 4 ^ L ≡ 0) q (quarter_mod L k 1 h)

-- ---- a list that paints is well formed and shows

module _ (n : ℕ) (small : n < 256) where
  paint_run : {f : ℕ → ℕ} {L k : ℕ} {l : List ℕ} → Paint f L k l → L ≤ n → k % 4 ^ L ≡ 0 → k + 4 ^ L ≤ 4 ^ n
      → (rest : List ℕ) (e e' : ℕ) → k + 4 ^ L ≡ e → Run n e rest e' → Run n k (l ++ rest) e'
  paint_run {f} (one {L = L} {k = k} s h) low al fits rest e e' q r =
      let hl : L < 256 = omega arith in (
        record {
          level = rw (leaf_level k L (f k)) low;
          follows = leaf-code k L (f k) hl s;
          inside = omega (arith, pow_pos L);
          aligned = rw (leaf_level k L (f k)) al;
        },
        rw (leaf-end k L (f k), q) r,
      )
  paint_run (four {L = L} {k = k} p₀ p₁ p₂ p₃) low al fits rest e e' q r =
      simp append_assoc
      (paint_run p₀ (omega arith) (mod_down L k al) (omega arith) _ _ e' refl
      (paint_run p₁ (omega arith) (quarter_one L k al) (omega arith) _ _ e' (omega arith)
      (paint_run p₂ (omega arith) (quarter_mod L k 2 al) (omega arith) _ _ e' (omega arith)
      (paint_run p₃ (omega arith) (quarter_mod L k 3 al) (omega arith) rest e e' (omega arith) r))))

paint_shows : {f : ℕ → ℕ} {L k : ℕ} {l : List ℕ} → Paint f L k l → L < 256
    → (rest : List ℕ) (e e' : ℕ) → k + 4 ^ L ≡ e → Agrees f e rest e' → Agrees f k (l ++ rest) e'
paint_shows {f} (one {L = L} {k = k} s h) low rest e e' q r = λ j lo hi.
    let w : ℕ = leaf k L (f k) in
    let x : end_of w ≡ k + 4 ^ L = leaf-end k L (f k) low s in
    elim (dec_lt j e) [
      | yes y ↦ colour_here w rest j (omega arith) ∙ leaf_colour k L (f k) low s ∙ sym (h j lo (omega arith))
      | no y ↦ colour_later w rest j (omega arith) ∙ r j (omega arith) hi
    ]
paint_shows {f} (four {L = L} {k = k} p₀ p₁ p₂ p₃) low rest e e' q r =
    simp append_assoc
    (paint_shows p₀ (omega arith) _ _ e' refl
    (paint_shows p₁ (omega arith) _ _ e' (omega arith)
    (paint_shows p₂ (omega arith) _ _ e' (omega arith)
    (paint_shows p₃ (omega arith) rest e e' (omega arith) r))))

-- ---- a well formed list paints what it shows

-- the first entry is of level L at most
abbrev HeadLe : ℕ → List ℕ → Type 0
HeadLe L [] = Unit {0}
HeadLe L (w ∷ ws) = level_of w ≤ L

-- a list, cut where the block of level L at k ends, at e
pub record Parsed (f : ℕ → ℕ) (n L k e : ℕ) (l : List ℕ) (e' : ℕ) : Type 0 where
  pub front : List ℕ
  pub back : List ℕ
  pub is : l ≡ front ++ back
  pub paints : Paint f L k front
  pub runs : Run n e back e'
  pub agrees : Agrees f e back e'

append_five : (l a b c d e x y z : List ℕ) → l ≡ a ++ x → x ≡ b ++ y → y ≡ c ++ z → z ≡ d ++ e → l ≡ a ++ b ++ c ++ d ++ e
append_five l a b c d e x y z p q r s = simp append_assoc (p ∙ ap (λ t. a ++ t) (q ∙ ap (λ t. b ++ t) (r ∙ ap (λ t. c ++ t) s)))

module _ (f : ℕ → ℕ) (n e' : ℕ) where
  -- inside a block of level suc L, past its first code, no entry is of that level
  next_head : (L k r : ℕ) (l : List ℕ) → k % 4 ^ suc L ≡ 0 → 0 < r → r < 4 ^ suc L → Run n (k + r) l e' → HeadLe L l
  next_head L k r [] al pos lt run = tt
  next_head L k r (w ∷ ws) al pos lt run =
      elim (dec_le (level_of w) L) [
        | yes h ↦ h
        | no h ↦ absurd (inside-mod (suc L) k r al pos lt (mod-le (suc L) (level_of w) (k + r) (omega arith) run.0.aligned))
      ]

  -- the first entry is the whole block
  parse_one : (L k e w : ℕ) (ws : List ℕ) → level_of w ≡ L → k + 4 ^ L ≡ e → e ≤ e' → Run n k (w ∷ ws) e' → Agrees f k (w ∷ ws) e' → Parsed f n L k e (w ∷ ws) e'
  parse_one L k e w ws lev q fits run ag =
      let ends : end_of w ≡ e = ap (λ (x : ℕ). x + 4 ^ level_of w) run.0.follows ∙ ap (λ (x : ℕ). k + 4 ^ x) lev ∙ q in
      let flat : Flat f (colour_of w) L k = λ j lo hi. sym (ag j lo (omega arith)) ∙ colour_here w ws j (omega arith) in
      let first : f k ≡ colour_of w = flat_first f (colour_of w) L k flat in
      let word : w ≡ leaf k L (f k) = word_leaf w ∙ cc run.0.follows in
      record {
        front = w ∷ [];
        back = ws;
        is = refl;
        paints = rw word (one {L = L} {k = k} (omega arith) (λ j lo hi. flat j lo hi ∙ sym first));
        runs = rw (← ends) run.1;
        agrees = λ j lo hi. sym (colour_later w ws j (omega arith)) ∙ ag j (omega (arith, pow_pos L)) hi;
      }

  -- the four quarters' cuts make the block's
  together : (L k e : ℕ) (l : List ℕ) (r₀ : Parsed f n L k (k + 4 ^ L) l e') (r₁ : Parsed f n L (k + 4 ^ L) (k + 2 * 4 ^ L) r₀.back e')
      (r₂ : Parsed f n L (k + 2 * 4 ^ L) (k + 3 * 4 ^ L) r₁.back e') (r₃ : Parsed f n L (k + 3 * 4 ^ L) e r₂.back e') → Parsed f n (suc L) k e l e'
  together L k e l r₀ r₁ r₂ r₃ =
      record {
        front = r₀.front ++ r₁.front ++ r₂.front ++ r₃.front;
        back = r₃.back;
        is = append_five l r₀.front r₁.front r₂.front r₃.front r₃.back r₀.back r₁.back r₂.back r₀.is r₁.is r₂.is r₃.is;
        paints = four r₀.paints r₁.paints r₂.paints r₃.paints;
        runs = r₃.runs;
        agrees = r₃.agrees;
      }

  parse : (L k e : ℕ) (l : List ℕ) → k + 4 ^ L ≡ e → k % 4 ^ L ≡ 0 → e ≤ e' → HeadLe L l → Run n k l e' → Agrees f k l e' → Parsed f n L k e l e'
  parse zero k e [] q al fits hd run ag = absurd (omega arith)
  parse zero k e (w ∷ ws) q al fits hd run ag = parse_one zero k e w ws (omega arith) q fits run ag
  parse (suc L) k e [] q al fits hd run ag = absurd (omega (arith, pow_pos L))
  parse (suc L) k e (w ∷ ws) q al fits hd run ag =
      elim (ℕ_discrete (level_of w) (suc L)) [
        | yes lev ↦ parse_one (suc L) k e w ws lev q fits run ag
        | no lev ↦
            let pos = pow_pos L in
            let r₀ = parse L k (k + 4 ^ L) (w ∷ ws) refl (mod_down L k al) (omega arith) (omega arith) run ag in
            let r₁ = parse L (k + 4 ^ L) (k + 2 * 4 ^ L) r₀.back (omega arith) (quarter_one L k al) (omega arith) (next_head L k (4 ^ L) r₀.back al pos (omega arith) r₀.runs) r₀.runs r₀.agrees in
            let r₂ = parse L (k + 2 * 4 ^ L) (k + 3 * 4 ^ L) r₁.back (omega arith) (quarter_mod L k 2 al) (omega arith) (next_head L k (2 * 4 ^ L) r₁.back al (omega arith) (omega arith) r₁.runs) r₁.runs r₁.agrees in
            let r₃ = parse L (k + 3 * 4 ^ L) e r₂.back (omega arith) (quarter_mod L k 3 al) (omega arith) (next_head L k (3 * 4 ^ L) r₂.back al (omega arith) (omega arith) r₂.runs) r₂.runs r₂.agrees in
            together L k e (w ∷ ws) r₀ r₁ r₂ r₃
      ]

pub paints_formed : {f : ℕ → ℕ} {n : ℕ} {l : List ℕ} → n < 256 → Paint f n 0 l → WellFormed n l
paints_formed {n = n} {l = l} small p = run_formed (rw append-nil at (paint_run n small p (le_refl n) (zero-mod (4 ^ n)) (omega arith) [] (4 ^ n) (4 ^ n) (omega arith) refl))

pub paints_shows : {f : ℕ → ℕ} {n : ℕ} {l : List ℕ} → n < 256 → Paint f n 0 l → ShowsPicture f n l
paints_shows {f} {n} {l} small p j hi =
    let a : Agrees f (4 ^ n) [] (4 ^ n) = λ i lo up. absurd (omega arith) in
    rw append-nil at (paint_shows p small [] (4 ^ n) (4 ^ n) (omega arith) a j (omega arith) hi)

head_le : (n e e' : ℕ) (l : List ℕ) → Run n e l e' → HeadLe n l
head_le n e e' [] r = tt
head_le n e e' (w ∷ ws) r = r.0.level

nothing_after : (n : ℕ) (l : List ℕ) → Run n (4 ^ n) l (4 ^ n) → l ≡ []
nothing_after n [] r = refl
nothing_after n (w ∷ ws) r = absurd (omega (arith, r.0.inside))

pub formed_paints : (f : ℕ → ℕ) (n : ℕ) (l : List ℕ) → WellFormed n l → ShowsPicture f n l → Paint f n 0 l
formed_paints f n l formed sh =
    let r = formed_run formed in
    let p = parse f n (4 ^ n) n 0 (4 ^ n) l (omega arith) (zero-mod (4 ^ n)) (le_refl (4 ^ n)) (head_le n 0 (4 ^ n) l r) r (λ j lo hi. sh j hi) in
    let e : l ≡ p.front = p.is ∙ ap (λ x. p.front ++ x) (nothing_after n p.back p.runs) ∙ append-nil p.front in
    subst (λ x. Paint f n 0 x) (sym e) p.paints
