-- A table in two flat lists: place j of the row of i is at i * K + j, a node in `ids` and its distance in `dists`. Its rows end at the first NONE.
-- Assumes nothing.
use Prim.Native.Nat.{ℕ, zero, suc, ◌+◌, ◌-◌, ◌*◌, ◌≤◌, ◌<◌}
use mathlib.Core.Path.{◌≡◌, refl, sym, ap, ◌∙◌}
use mathlib.Core.Logic.{◌≢◌, ◌↔◌, ⊎_elim}
use mathlib.Core.List.Memᴰ
use mathlib.Core.List.{List, [], ◌∷◌, ◌++◌, Memᴰ}
use native.Mathlib.Nat.{add-zero}
use native.Mathlib.Decide.{ℕ_discrete, dec_lt}
use native.Mathlib.Omega.{arith}
use lib.ListN.{length, get_or, replicate}
use borrow.Author.Tests.{eq-eqb, ne_eqb}
use Rattle.network.specs.Network.{Network, node_count}
use Rattle.network.specs.Accepted.{Accepted}
use Rattle.network.specs.Distance.{NONE}
use Rattle.network.specs.Nearest.{key, nearest}
use Rattle.network.specs.Order.{Ordered}
use Rattle.network.specs.Rows.{pad, row}
use Rattle.network.proofs.Rows.{listed_near}
use Rattle.rows.specs.Flat.{unpadded, place, places, At, Flat}
use Rattle.rows.proofs.Local.{local_iff_exact}

-- the clauses of `unpadded`
pub filled_nil : unpadded [] ≡ []
unfolding unpadded
filled_nil = refl

pub filled_end : (x : ℕ × ℕ) (xs : List (ℕ × ℕ)) → x.0 ≡ NONE → unpadded (x ∷ xs) ≡ []
unfolding unpadded
filled_end x xs e = rw (eq-eqb x.0 NONE e, unpadded)

pub filled_more : (x : ℕ × ℕ) (xs : List (ℕ × ℕ)) → x.0 ≢ NONE → unpadded (x ∷ xs) ≡ x ∷ unpadded xs
unfolding unpadded
filled_more x xs n = rw (ne_eqb x.0 NONE n, unpadded)

-- padding goes again
filled_padding : (n : ℕ) → unpadded (replicate n (NONE, NONE)) ≡ []
filled_padding zero = filled_nil
filled_padding (suc n) = filled_end (NONE, NONE) (replicate n (NONE, NONE)) refl

pub filled_pad : (n : ℕ) (xs : List (ℕ × ℕ)) → ((y : ℕ × ℕ) → Memᴰ y xs → y.0 ≢ NONE) → unpadded (xs ++ replicate n (NONE, NONE)) ≡ xs
filled_pad n [] h = filled_padding n
filled_pad n (x ∷ xs) h =
    filled_more x (xs ++ replicate n (NONE, NONE)) (h x (Memᴰ.head refl)) ∙ ap (λ l. x ∷ l) (filled_pad n xs (λ y m. h y (Memᴰ.tail m)))

pub filled_row : {g : Network} → Accepted g → (P : List ℕ) (K i : ℕ) → unpadded (row g P K i) ≡ nearest g P i NONE K
unfolding row
filled_row {g} ok P K i =
    filled_pad (K - length (nearest g P i NONE K)) (nearest g P i NONE K)
    (λ y m. omega (arith, (listed_near ok P i NONE K y.0 y.1 m).near.nearer.inside, ok.few))

shift : (at j : ℕ) → suc at + j ≡ at + suc j
shift at j = omega arith

module _ (ids dists : List ℕ) where
  pub places_length : (at k : ℕ) → length (places ids dists at k) ≡ k
  unfolding places
  places_length at zero = refl
  places_length at (suc k) = ap suc (places_length (suc at) k)

  pub places_at : (at k j : ℕ) (z : ℕ × ℕ) → j < k → get_or (places ids dists at k) j z ≡ place ids dists (at + j)
  unfolding places
  places_at at zero j z h = absurd (omega arith)
  places_at at (suc k) zero z h = ap (place ids dists) (sym (add-zero at))
  places_at at (suc k) (suc j) z h = places_at (suc at) k j z (omega arith) ∙ ap (place ids dists) (shift at j)

  -- its members are at the indices below k
  pub place_in : (at k j : ℕ) → j < k → Memᴰ (place ids dists (at + j)) (places ids dists at k)
  unfolding places
  place_in at zero j h = absurd (omega arith)
  place_in at (suc k) zero h = Memᴰ.head (ap (place ids dists) (add-zero at))
  place_in at (suc k) (suc j) h =
      Memᴰ.tail (rw (shift at j) at (place_in (suc at) k j (omega arith)))

  pub in_place : (at k : ℕ) (z : ℕ × ℕ) → Memᴰ z (places ids dists at k) → At ids dists at k z
  unfolding places
  in_place at zero z m = absurd (Memᴰ.not-nil m)
  in_place at (suc k) z m =
      ⊎_elim
      (λ e. record { index = 0; low = omega arith; is = e ∙ ap (place ids dists) (sym (add-zero at)) })
      (λ t.
      let r = in_place (suc at) k z t in
      record { index = suc r.index; low = omega arith; is = r.is ∙ ap (place ids dists) (shift at r.index) })
      (Memᴰ.cases_cons m)

  -- it is in order where no key is more than the next
  ahead : (at k : ℕ) → ((j : ℕ) → suc j < k → key (place ids dists (at + j)) ≤ key (place ids dists (at + suc j))) → (j : ℕ) → suc j < k
      → key (place ids dists at) ≤ key (place ids dists (at + suc j))
  ahead at k h zero l = omega (arith, h zero l, ap (λ v. key (place ids dists v)) (add-zero at))
  ahead at k h (suc j) l = omega (arith, ahead at k h j (omega arith), h (suc j) l)

  pub places_ordered : (at k : ℕ) → ((j : ℕ) → suc j < k → key (place ids dists (at + j)) ≤ key (place ids dists (at + suc j))) → Ordered (places ids dists at k)
  unfolding places
  places_ordered at zero h = tt
  places_ordered at (suc k) h = (
    λ y m.
        let r = in_place (suc at) k y m in
        omega (arith, ap key (r.is ∙ ap (place ids dists) (shift at r.index)), ahead at (suc k) h r.index (omega arith)),
    places_ordered (suc at) k (λ j l. rw (shift at j, shift at (suc j)) (h (suc j) (omega arith))),
  )

  -- a node at one distance, where two indices that hold it have one
  pub places_once : (at k : ℕ) → ((j l : ℕ) → j < l → l < k → get_or ids (at + j) 0 ≡ get_or ids (at + l) 0 → get_or dists (at + j) 0 ≡ get_or dists (at + l) 0)
      → (p d e : ℕ) → Memᴰ (p, d) (places ids dists at k) → Memᴰ (p, e) (places ids dists at k) → d ≡ e
  places_once at k h p d e m n = from (in_place at k (p, d) m) (in_place at k (p, e) n)
    where
      from : At ids dists at k (p, d) → At ids dists at k (p, e) → d ≡ e
      from r s =
          let u = ap (λ (x : ℕ × ℕ). x.0) r.is in
          let v = ap (λ (x : ℕ × ℕ). x.0) s.is in
          elim (ℕ_discrete r.index s.index) [
            | yes q ↦ ap (λ (x : ℕ × ℕ). x.1) r.is ∙ ap (λ v. get_or dists (at + v) 0) q ∙ sym (ap (λ (x : ℕ × ℕ). x.1) s.is)
            | no q ↦
                elim (dec_lt r.index s.index) [
                  | yes b ↦
                      ap (λ (x : ℕ × ℕ). x.1) r.is ∙ h r.index s.index b s.low (sym u ∙ v) ∙ sym (ap (λ (x : ℕ × ℕ). x.1) s.is)
                  | no c ↦
                      ap (λ (x : ℕ × ℕ). x.1) r.is ∙ sym (h s.index r.index (omega arith) r.low (sym v ∙ u)) ∙ sym (ap (λ (x : ℕ × ℕ). x.1) s.is)
                ]
          ]

  -- m places that are filled, and padding behind them
  pub filled_places : (at k m : ℕ) → m ≤ k → ((j : ℕ) → j < m → get_or ids (at + j) 0 ≢ NONE) → (m < k → get_or ids (at + m) 0 ≡ NONE)
      → unpadded (places ids dists at k) ≡ places ids dists at m
  unfolding places
  filled_places at zero zero l h e = filled_nil
  filled_places at zero (suc m) l h e = absurd (omega arith)
  filled_places at (suc k) zero l h e =
      filled_end (place ids dists at) (places ids dists (suc at) k) (rw (add-zero at) at (e (omega arith)))
  filled_places at (suc k) (suc m) l h e =
      filled_more (place ids dists at) (places ids dists (suc at) k) (rw (add-zero at) at (h zero (omega arith)))
      ∙ ap (λ xs. place ids dists at ∷ xs)
      (filled_places (suc at) k m (omega arith) (λ j s. rw (shift at j) (h (suc j) (omega arith))) (λ s. rw (shift at m) (e (omega arith))))

  places_none : (at k : ℕ) → ((j : ℕ) → j < k → place ids dists (at + j) ≡ (NONE, NONE)) → places ids dists at k ≡ replicate k (NONE, NONE)
  unfolding places
  places_none at zero h = refl
  places_none at (suc k) h =
      let q : place ids dists at ≡ (NONE, NONE) = ap (place ids dists) (sym (add-zero at)) ∙ h zero (omega arith) in
      rw (q, places_none (suc at) k (λ j s. ap (place ids dists) (shift at j) ∙ h (suc j) (omega arith)))

  pub places_padded : (at k m : ℕ) → m ≤ k → ((j : ℕ) → m ≤ j → j < k → place ids dists (at + j) ≡ (NONE, NONE))
      → places ids dists at k ≡ places ids dists at m ++ replicate (k - m) (NONE, NONE)
  unfolding places
  places_padded at zero zero l h = refl
  places_padded at zero (suc m) l h = absurd (omega arith)
  places_padded at (suc k) zero l h =
      let q : suc k - zero ≡ suc k = omega arith in
      rw q (places_none at (suc k) (λ j s. h j (omega arith) s))
  places_padded at (suc k) (suc m) l h =
      let q : suc k - suc m ≡ k - m = omega arith in
      rw q
      (ap (λ xs. place ids dists at ∷ xs)
      (places_padded (suc at) k m (omega arith) (λ j s t. ap (place ids dists) (shift at j) ∙ h (suc j) (omega arith) (omega arith))))

-- other lists with the same places
pub places_same : (ids dists ids' dists' : List ℕ) (at k : ℕ) → ((j : ℕ) → j < k → place ids dists (at + j) ≡ place ids' dists' (at + j))
    → places ids dists at k ≡ places ids' dists' at k
unfolding places
places_same ids dists ids' dists' at zero h = refl
places_same ids dists ids' dists' at (suc k) h =
    let q : place ids dists at ≡ place ids' dists' at = rw (add-zero at) at (h zero (omega arith)) in
    rw (q, places_same ids dists ids' dists' (suc at) k (λ j s. rw (shift at j) (h (suc j) (omega arith))))

pub flat_iff_exact : {g : Network} → Accepted g → (P : List ℕ) (K : ℕ) (ids dists : List ℕ) → 1 ≤ K
    → Flat g P K ids dists ↔ ((i : ℕ) → i < node_count g → places ids dists (i * K) K ≡ row g P K i)
unfolding row
flat_iff_exact {g} ok P K ids dists k = (
  λ f i h. f.padded i h ∙ ap (pad K) ((local_iff_exact ok k).0 f.rows i h),
  λ e.
      record {
        rows = (local_iff_exact ok k).1 (λ i h. ap unpadded (e i h) ∙ filled_row ok P K i);
        padded = λ i h. e i h ∙ ap (pad K) (sym (ap unpadded (e i h) ∙ filled_row ok P K i));
      },
)
