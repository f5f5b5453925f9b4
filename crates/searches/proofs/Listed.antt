-- The test that lists a point, in its parts, and what it says of a search that prunes by some of the marks.
-- Assumes nothing.
use Prim.Native.Nat.{ℕ, ◌<◌}
use mathlib.Core.Path.{◌≡◌, sym, ap, ◌∙◌}
use mathlib.Core.Bool.{true, false, not, false≢true}
use mathlib.Core.Logic.{◌≢◌, ◌↔◌}
use mathlib.Core.List.{List}
use native.Mathlib.Omega.{arith}
use lib.Dec.{eqb}
use borrow.Author.Tests.{ltb-true, lt-ltb, eqb-false, ne_eqb, not-true}
use Rattle.network.specs.Network.{Network}
use Rattle.network.specs.Accepted.{Accepted}
use Rattle.network.specs.Distance.{NONE, dist}
use Rattle.network.proofs.Tests.{and_parts, and_intro}
use Rattle.network.proofs.Distances.{dist_symmetric}
use Rattle.network.specs.Points.{marked, others_nearer, verified, is_listed}
use Rattle.network.proofs.Rank.{others_part}
use Rattle.expansion.proofs.Origins.{one}
use Rattle.searches.proofs.Beaten.{Unbeaten, Part, part_marked}

-- the parts of the test
pub record ListedParts (g : Network) (P : List ℕ) (q k p : ℕ) : Type 0 where
  pub mark : marked P p ≡ true
  pub other : p ≢ q
  pub reach : dist g p q ≢ NONE
  pub few : others_nearer g P p (dist g p q) < k

-- the rule's test: p is not on q, q is reached, and few others are nearer
pub verified_parts : (g : Network) (P : List ℕ) (p q k : ℕ)
    → (verified g P p q k ≡ true) ↔ ((p ≢ q) × (dist g p q ≢ NONE) × (others_nearer g P p (dist g p q) < k))
unfolding verified
verified_parts g P p q k = (
  λ e.
      let o = and_parts (not (eqb p q)) _ e in
      let a = and_parts (not (eqb (dist g p q) NONE)) _ o.1 in (
        test_off p q o.0,
        test_off (dist g p q) NONE a.0,
        ltb-true (others_nearer g P p (dist g p q)) k a.1,
      ),
  λ h. rw (ne_eqb p q h.0, ne_eqb (dist g p q) NONE h.1) (lt-ltb (others_nearer g P p (dist g p q)) k h.2),
)
  where
    test_off : (a b : ℕ) → not (eqb a b) ≡ true → a ≢ b
    test_off a b t = eqb-false a b (not-true (eqb a b) t)

pub listed_parts : (g : Network) (P : List ℕ) (q k p : ℕ) → (is_listed g P q k p ≡ true) ↔ ListedParts g P q k p
unfolding is_listed
listed_parts g P q k p = (
  λ e.
      let a = and_parts (marked P p) _ e in
      let b = (verified_parts g P p q k).0 a.1 in
      record { mark = a.0; other = b.0; reach = b.1; few = b.2 },
  λ h. and_intro (marked P p) _ h.mark ((verified_parts g P p q k).1 (h.other, h.reach, h.few)),
)

-- the rule of a marked point
module _ (g : Network) (P : List ℕ) (q k p : ℕ) where
  pub listed_verified : is_listed g P q k p ≡ true → verified g P p q k ≡ true
  unfolding is_listed
  listed_verified e = (and_parts (marked P p) _ e).1

  pub verified_listed : marked P p ≡ true → verified g P p q k ≡ true → is_listed g P q k p ≡ true
  unfolding is_listed
  verified_listed m e = and_intro (marked P p) _ m e

-- a listed point that is not among the marks M is not beaten by M
pub lazy_open : {g : Network} → Accepted g → (P M : List ℕ) (q k p : ℕ) → is_listed g P q k p ≡ true → Part M P → marked M p ≡ false → Unbeaten g M (one g q) k p
lazy_open {g} ok P M q k p e sub un b =
    let h = (listed_parts g P q k p).0 e in
    let s = dist_symmetric ok q p in
    let l =
    others_part g P p (dist g p q) M p (dist g q p)
    (λ x r. (
      λ j. false≢true (sym un ∙ ap (marked M) (sym j) ∙ r.point),
      sub x,
      record { inside = r.inside; point = part_marked M P x sub r.point; less = omega (arith, r.less) },
    ))
    in
    omega (arith, h.few)
