-- A row has a place for one more locker at x exactly where `put_in` would take it; and then the next node of a shortest way to x has one.
-- Assumes nothing.
use Prim.Native.Nat.{ℕ, suc, ◌+◌, ◌-◌, ◌<◌}
use mathlib.Core.Path.{◌≡◌, refl}
use mathlib.Core.Bool.{true, false≢true}
use mathlib.Core.Logic.{◌≢◌, ⊎_elim}
use mathlib.Core.List.Memᴰ
use mathlib.Core.List.{List, [], ◌∷◌, Memᴰ}
use native.Mathlib.Decide.{dec_le, dec_lt}
use native.Mathlib.Omega.{arith}
use lib.ListN.{length, replicate}
use borrow.Author.Tests.{le-ltb}
use Rattle.network.specs.Network.{Network, Arc}
use Rattle.network.specs.Accepted.{Accepted}
use Rattle.network.specs.Distance.{NONE, dist}
use Rattle.network.specs.Nearest.{key, nearest}
use Rattle.network.specs.Order.{before}
use Rattle.network.specs.Rows.{row}
use Rattle.network.proofs.Distances.{dist_at_most, dist_arc}
use Rattle.network.proofs.Ordered.{below_most, below_all}
use Rattle.network.proofs.Rank.{Before, before_mono}
use Rattle.network.proofs.Rows.{nearest_below, nearest_length}
use Rattle.network.proofs.Prefix.{reached_arc}
use Rattle.rows.specs.Put.{takes}
use Rattle.rows.specs.Update.{Gains}

-- an entry that comes behind
record Later (x : ℕ × ℕ) (ys : List (ℕ × ℕ)) : Type 0 where
  entry : ℕ × ℕ
  mem : Memᴰ entry ys
  later : key x < key entry

takes_some : (x : ℕ × ℕ) (ys : List (ℕ × ℕ)) → takes x ys ≡ true → Later x ys
unfolding takes
takes_some x [] t = absurd (false≢true t)
takes_some x (y ∷ ys) t =
    elim (dec_le (key y) (key x)) [
      | yes h ↦
          let r = takes_some x ys (rw (le-ltb (key x) (key y) h) at t) in
          record { entry = r.entry; mem = Memᴰ.tail r.mem; later = r.later }
      | no n ↦ record { entry = y; mem = Memᴰ.head refl; later = omega arith }
    ]

no_padding : (m : ℕ) (y : ℕ × ℕ) → Memᴰ y (replicate m (NONE, NONE)) → m ≡ 0 → ⊥
no_padding m y a z = Memᴰ.not-nil (rw z at a)

pub taken_gains : {g : Network} → Accepted g → (P : List ℕ) (K i x : ℕ) → dist g i x ≢ NONE → takes (x, dist g i x) (row g P K i) ≡ true → Gains g P K i x
unfolding row
taken_gains {g} ok P K i x n t =
    record { reach = omega (arith, n, dist_at_most g i x); room = few (takes_some (x, dist g i x) (row g P K i) t) }
  where
    few : Later (x, dist g i x) (row g P K i) → before g P i NONE (suc (key (x, dist g i x))) < K
    few r =
        elim (dec_lt (before g P i NONE (suc (key (x, dist g i x)))) K) [
          | yes h ↦ h
          | no m ↦
              let xs = nearest g P i NONE K in
              let b = nearest_below ok P i NONE K (suc (key (x, dist g i x))) in
              let f = below_most (suc (key (x, dist g i x))) xs in
              ⊎_elim
              (λ a. absurd (omega (arith, r.later, below_all (suc (key (x, dist g i x))) xs (omega (arith, b, nearest_length g P i NONE K)) r.entry a)))
              (λ a. absurd (no_padding (K - length xs) r.entry a (omega (arith, b, f))))
              (Memᴰ.append_cases xs r.mem)
        ]

module _ {g : Network} (ok : Accepted g) (P : List ℕ) {i c w : ℕ} (arc : Arc g i c w) where
  pub gains_next : (K x : ℕ) → dist g i x ≡ w + dist g c x → Gains g P K i x → Gains g P K c x
  gains_next K x e r =
      record {
        reach = omega (arith, r.reach);
        room = omega (arith, r.room, before_mono g P c i NONE NONE (suc (key (x, dist g c x))) (suc (key (x, dist g i x))) earlier);
      }
    where
      earlier : (y : ℕ) → Before g P c NONE (suc (key (x, dist g c x))) y → Before g P i NONE (suc (key (x, dist g i x))) y
      earlier y b =
          record { nearer = reached_arc ok P arc b.nearer; first = omega (arith, b.first, (dist_arc ok y arc (omega (arith, b.nearer.less))).most) }
