-- Laws of the seats: an entry is stored with its node's seat, a hole moves, a hole is filled.
-- Assumes nothing.
use Prim.Native.Nat.{ℕ, suc, ◌+◌, ◌/◌, ◌<◌}
use mathlib.Core.Path.{◌≡◌, sym, ap, ◌∙◌}
use mathlib.Core.Logic.{◌≢◌}
use mathlib.Core.List.{List}
use native.Mathlib.Decide.{ℕ_discrete}
use native.Mathlib.Omega.{arith}
use lib.ListN.{get_or, drop}
use Rattle.expansion.specs.Queue.{key_of, key_at, Hole, AtLeastParent, AtMostChildren}
use Rattle.expansion.specs.Tags.{node_of}
use Rattle.expansion.proofs.QueueLaws.{filled_here, filled_moved}
use Rattle.expansion.specs.NodeQueue.{node_at, PutAt, Vacated, Seats, FilledAt}

pub vacated_same : {xs ys : List ℕ} {b at i v u : ℕ} → v ≡ u → Vacated xs ys b at i v → Vacated xs ys b at i u
vacated_same e p = rw e at p

-- the node of a key whose tag fits
pub node_of_lem : (d t : ℕ) → t < 4294967296 → node_of (key_of d t) ≡ t / 65536
node_of_lem d t h = omega arith

-- ---- A hole moves: entry c is copied into it, and c is the hole.
module _ (xs ys : List ℕ) (b at len hole c key : ℕ) (s : Seats xs b at len hole key) (in_hole : hole < len) (in_c : c < len) (apart : c ≢ hole) (p : PutAt xs ys b at hole (key_at (drop at xs) c)) where
  node_c : node_at (drop at ys) hole ≡ node_at (drop at xs) c
  node_c = ap node_of (p.put.here ∙ p.is)

  node_same : (i : ℕ) → i ≢ hole → node_at (drop at ys) i ≡ node_at (drop at xs) i
  node_same i n = ap node_of (p.put.other i n)

  -- another entry has another node than c
  unlike : (i : ℕ) → i < len → i ≢ hole → i ≢ c → node_at (drop at xs) i ≢ node_at (drop at xs) c
  unlike i h n m e =
      absurd (omega (arith, s.seat i h n, s.seat c in_c apart, ap (λ (v : ℕ). get_or xs (b + v) 0) e))

  moved_seat : (i : ℕ) → i < len → i ≢ c → get_or ys (b + node_at (drop at ys) i) 0 ≡ suc i
  moved_seat i h m =
      elim (ℕ_discrete i hole) [
        | yes e ↦
            ap (λ (v : ℕ). get_or ys (b + v) 0) (ap (node_at (drop at ys)) e ∙ node_c) ∙ p.seat ∙ ap suc (sym e)
        | no n ↦
            ap (λ (v : ℕ). get_or ys (b + v) 0) (node_same i n)
            ∙ p.words (b + node_at (drop at xs) i) (s.low i h n) (λ q. unlike i h n m (omega arith))
            ∙ s.seat i h n
      ]

  pub seats_moved : Seats ys b at len c key
  seats_moved =
      record {
        few = s.few;
        room = omega (arith, s.room, p.size);
        own = s.own;
        low = λ i h m. elim (ℕ_discrete i hole) [
          | yes e ↦ omega (arith, ap (node_at (drop at ys)) e, node_c, s.low c in_c apart)
          | no n ↦ omega (arith, node_same i n, s.low i h n)
        ];
        seat = moved_seat;
        other = λ i h m q. elim (ℕ_discrete i hole) [
          | yes e ↦ s.other c in_c apart (sym node_c ∙ ap (node_at (drop at ys)) (sym e) ∙ q)
          | no n ↦ s.other i h n (sym (node_same i n) ∙ q)
        ];
      }

  -- what fills the hole at c fills the first one
  pub filled_at_moved : (zs : List ℕ) → FilledAt ys zs b at len c key → FilledAt xs zs b at len hole key
  filled_at_moved zs f =
      record {
        size = f.size ∙ p.size;
        filled = filled_moved (drop at xs) (drop at ys) len hole c p.distance p.tag in_hole in_c apart p.put p.is (drop at zs) key f.filled;
        seat = f.seat;
        words =
            λ j h n away.
            f.words j h n
            (λ i l m q.
            elim (ℕ_discrete i hole) [
              | yes e ↦ away c in_c apart (q ∙ ap (λ (v : ℕ). b + v) (ap (node_at (drop at ys)) e ∙ node_c))
              | no o ↦ away i l o (q ∙ ap (λ (v : ℕ). b + v) (node_same i o))
            ])
            ∙ p.words j h (λ q. away c in_c apart q);
      }

-- ---- A hole is filled where it is.
module _ (xs ys : List ℕ) (b at len hole key : ℕ) (h : Hole (drop at xs) len hole) (s : Seats xs b at len hole key) (p : PutAt xs ys b at hole key) where
  here_seat : (i : ℕ) → i < len → get_or ys (b + node_at (drop at ys) i) 0 ≡ suc i
  here_seat i l =
      elim (ℕ_discrete i hole) [
        | yes e ↦ ap (λ (v : ℕ). get_or ys (b + v) 0) (ap (node_at (drop at ys)) e ∙ ap node_of (p.put.here ∙ p.is)) ∙ p.seat ∙ ap suc (sym e)
        | no n ↦
            ap (λ (v : ℕ). get_or ys (b + v) 0) (ap node_of (p.put.other i n))
            ∙ p.words (b + node_at (drop at xs) i) (s.low i l n) (λ q. s.other i l n (omega arith))
            ∙ s.seat i l n
      ]

  pub filled_at_here : AtLeastParent (drop at xs) hole key → AtMostChildren (drop at xs) len hole key → FilledAt xs ys b at len hole key
  filled_at_here at_least_lem at_most =
      record {
        size = p.size;
        filled = rw p.is at (filled_here (drop at xs) (drop at ys) len hole p.distance p.tag h p.put (rw p.is at_least_lem) (rw p.is at_most));
        seat = here_seat;
        words = λ j l n away. p.words j l n;
      }
