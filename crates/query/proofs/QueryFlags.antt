-- The flags of the table query: a point is decided by its row or by the rule, and verified once; the points of a row are, one after another; and a
-- row says what nearest says, where the table is right.
-- Assumes nothing.
use Prim.Native.Nat.{ℕ, ◌+◌, ◌-◌, ◌*◌, ◌≤◌, ◌<◌}
use mathlib.Core.Path.{◌≡◌, refl, sym, ap, ◌∙◌}
use mathlib.Core.Bool.{Bool, true, false, false≢true}
use mathlib.Core.Logic.{◌≢◌, ⊎_elim}
use mathlib.Core.List.{List}
use native.Mathlib.Decide.{ℕ_discrete, dec_lt}
use native.Mathlib.Omega.{arith}
use lib.ListN.{length, get_or, set, length-set, get_or-eq_default}
use lib.Seq.{get_or-set_same, get_or-set_other}
use borrow.Author.Tests.{ltb-true, lt-ltb}
use borrow.Rule.Slice.PartMut.{mid_of, mid_len}
use Rattle.network.specs.Network.{Network, node_count}
use Rattle.network.specs.Accepted.{Accepted}
use Rattle.network.specs.Walk.{Walk}
use Rattle.network.specs.Distance.{NONE}
use Rattle.network.specs.Points.{marked, is_listed}
use Rattle.network.specs.Rows.{row_entries, table_distances, IsTable}
use Rattle.network.proofs.Lends.{mid_at, row_fits}
use Rattle.rows.specs.Check.{HasRows}
use Rattle.rows.proofs.CheckTests.{row_part_length}
use Rattle.searches.specs.Flags.{flags_end, Flags, Looked}
use Rattle.searches.proofs.Listed.{listed_parts, listed_verified, verified_listed}
use Rattle.searches.proofs.FlagLaws.{changed_grows, changed_flags}
use Rattle.query.specs.Query.{Grown, CanDecide, Decided, Way, CanVerifyWord, WordVerified, CanVerifyRow, Ways, ToldAll, RowVerified, Exact, CanLookByRow, LookedByRow}
use Rattle.query.proofs.RowNearest.{listed_at_once, row_count, row_stands, row_way}

-- a row behind its first place: `&row[1..]`
abbrev pub behind : List ℕ → List ℕ
behind row = mid_of 1 (length row - 1) row

-- place j of row i
row_at : (K i j : ℕ) (xs : List ℕ) → j < K → get_or (row_entries K i xs) j 0 ≡ get_or xs (i * K + j) 0
unfolding row_entries
row_at K i j xs = mid_at (i * K) K xs j

-- ---- One word.
module _ {g : Network} {P dists : List ℕ} {q k K : ℕ} {xs : List ℕ} (c : CanVerifyWord g P dists q k K xs) where
  pub grown_none : Grown g P xs xs
  grown_none = record { size = refl; words = λ i h. refl; only = c.front.only; grows = λ x h n. n }

  -- it is no point
  pub verified_none : (p sum : ℕ) → get_or P p 0 ≡ 0 → WordVerified g P dists q k K xs xs p sum
  verified_none p sum n =
      record {
        grown = grown_none;
        right = λ e u f. record { flags = f; told = λ a. absurd (omega (arith, n, ltb-true 0 (get_or P p 0) ((listed_parts g P q k p).0 a).mark)) };
      }

  pub verified_beyond : (p sum : ℕ) → node_count g ≤ p → WordVerified g P dists q k K xs xs p sum
  verified_beyond p sum h = verified_none p sum (get_or-eq_default P 0 {n = p} (omega (arith, h, c.asked.points)))

  module _ (p sum : ℕ) (inside : p < node_count g) where
    -- it was verified before
    pub verified_seen : get_or xs p 0 ≢ 0 → WordVerified g P dists q k K xs xs p sum
    verified_seen s = record { grown = grown_none; right = λ e u f. record { flags = f; told = f.once p inside s } }

    -- its row
    pub row_inside : p * K + K ≤ length dists
    row_inside = omega (arith, row_fits p (node_count g) K inside, c.asked.sized)

    module _ {row : List ℕ} (is : row ≡ row_entries K p dists) where
      row_size : length row ≡ K
      row_size = ap length is ∙ row_part_length K p dists row_inside

      pub row_some : 1 ≤ length row
      row_some = omega (arith, row_size, c.asked.few)

      pub can_decide : CanDecide g P (behind row) (set xs p 1) p q k
      can_decide =
          record {
            visit =
                record {
                  expand =
                      record {
                        accepted = c.asked.accepted;
                        inside = inside;
                        blank = record { zero = λ j h. get_or-set_other xs p j 1 0 (omega arith) ∙ c.front.blank.zero j h };
                        size = simp length-set (omega (arith, c.front.size));
                      };
                  inside = c.asked.site;
                  points = c.asked.points;
                };
            some = c.asked.some;
            few = omega (arith, mid_len 1 (length row) row (omega arith), row_size, c.asked.few);
          }

      -- the k-th other point stands at place k
      kth : get_or (behind row) (k - 1) 0 ≡ get_or dists (p * K + k) 0
      kth =
          let s : 1 + (k - 1) ≡ k = omega (arith, c.asked.some) in
          mid_at 1 (length row - 1) row (k - 1) (omega (arith, row_size, c.asked.some, c.asked.few))
          ∙ ap (λ (j : ℕ). get_or row j 0) s
          ∙ ap (λ (l : List ℕ). get_or l k 0) is
          ∙ row_at K p k dists c.asked.few

    module _ (mark : 0 < get_or P p 0) where
      marked_p : marked P p ≡ true
      marked_p = lt-ltb 0 (get_or P p 0) mark

      -- only p's flags change
      module _ {ws : List ℕ} (size : length ws ≡ length xs) (other : (i : ℕ) → i ≢ p → i ≢ node_count g + p → get_or ws i 0 ≡ get_or xs i 0)
          (keeps : get_or xs (node_count g + p) 0 ≢ 0 → get_or ws (node_count g + p) 0 ≢ 0) where
        grown : Grown g P xs ws
        grown =
            record {
              size = size;
              words = λ i h. other i (omega arith) (omega arith);
              only =
                  λ x h n.
                  elim (ℕ_discrete x p) [
                    | yes e ↦ rw e marked_p
                    | no m ↦ c.front.only x h (rw (other (node_count g + x) (omega arith) (omega arith)) at n)
                  ];
              grows = changed_grows g p xs ws inside other keeps;
            }

        changed : (dists ≡ table_distances g P K → Way g p q sum → Flags g (is_listed g P q k) xs → get_or ws (node_count g + p) 0 ≢ 0 → is_listed g P q k p ≡ true)
            → (is_listed g P q k p ≡ true → get_or ws (node_count g + p) 0 ≢ 0) → WordVerified g P dists q k K xs ws p sum
        changed sound told =
            record {
              grown = grown;
              right =
                  λ e u f.
                  record {
                    flags = changed_flags g p xs ws inside other f (sound e u f) told;
                    told = told;
                  };
            }

      module _ {row : List ℕ} (is : row ≡ row_entries K p dists) {zs : List ℕ} {yes? : Bool} (d : Decided g P (behind row) p q k sum (set xs p 1) zs yes?) where
        pub decided_size : length zs ≡ length xs
        decided_size = d.area.frame.size ∙ length-set xs p 1

        word : (i : ℕ) → i ≢ p → get_or zs i 0 ≡ get_or xs i 0
        word i n =
            elim (dec_lt i (flags_end g)) [
              | yes h ↦ d.area.frame.words i h ∙ get_or-set_other xs p i 1 0 n
              | no h ↦ d.area.blank.zero i (omega arith) ∙ sym (c.front.blank.zero i (omega arith))
            ]

        pub verified_yes : yes? ≡ true → (flag : ℕ) → 1 ≤ flag → WordVerified g P dists q k K xs (set zs (node_count g + p) flag) p sum
        verified_yes y flag some =
            let same = get_or-set_same zs (node_count g + p) flag 0 (omega (arith, decided_size, c.front.size)) in
            changed (length-set zs (node_count g + p) flag ∙ decided_size)
            (λ i n m. get_or-set_other zs (node_count g + p) i flag 0 m ∙ word i n)
            (λ n z. omega arith)
            (λ e u f n.
            verified_listed g P q k p marked_p
            (⊎_elim
            (λ a. listed_at_once c.asked.accepted P p q k e inside marked_p c.asked.some c.asked.few u (omega (arith, kth is, a.0)))
            (λ a. sym a ∙ y)
            d.answer))
            (λ l z. omega arith)

        pub verified_no : yes? ≡ false → WordVerified g P dists q k K xs zs p sum
        verified_no y =
            changed decided_size (λ i n m. word i n) (λ n. rw (word (node_count g + p) (omega (arith, c.asked.site))) n)
            (λ e u f n. f.sound p inside (rw (word (node_count g + p) (omega (arith, c.asked.site))) at n))
            (λ l.
            ⊎_elim
            (λ a. absurd (false≢true (sym y ∙ a.1)))
            (λ a. absurd (false≢true (sym y ∙ a ∙ listed_verified g P q k p l)))
            d.answer)

-- ---- A row under way: the places before the i-th are nearer than l, and verified.
pub record RowUpto (g : Network) (P dists : List ℕ) (q k K : ℕ) (xs ys zs ws : List ℕ) (l i : ℕ) : Type 0 where
  pub few : i ≤ k
  pub grown : Grown g P xs ys
  pub less : (j : ℕ) → j < i → get_or ws j 0 < l
  pub right : dists ≡ table_distances g P K → Ways g q k zs ws l → Flags g (is_listed g P q k) xs → ToldAll g P q k zs ys i

-- ---- The row of a node.
module _ {g : Network} {P ids dists : List ℕ} {q k K : ℕ} {xs : List ℕ} {v : ℕ} (c : CanLookByRow g P ids dists q k K xs v) where
  pub has_row : HasRows K ids dists v
  has_row =
      let fits = row_fits v (node_count g) K c.inside in
      record { in_ids = omega (arith, fits, c.all_ids); in_dists = omega (arith, fits, c.verify.asked.sized) }

  module _ {zs ws : List ℕ} (ids_are : zs ≡ row_entries K v ids) (dists_are : ws ≡ row_entries K v dists) where
    pub can_verify_row : CanVerifyRow g P dists q k K xs zs ws
    can_verify_row =
        record {
          verify = c.verify;
          ids_row = omega (arith, ap length ids_are, row_part_length K v ids has_row.in_ids, c.verify.asked.few);
          dists_row = omega (arith, ap length dists_are, row_part_length K v dists has_row.in_dists, c.verify.asked.few);
        }

    module _ {ys : List ℕ} {l r : ℕ} (most : l ≤ NONE) (w : RowVerified g P dists q k K xs ys zs ws l r) where
      id_at_lem : (j : ℕ) → j < k → get_or zs j 0 ≡ get_or ids (v * K + j) 0
      id_at_lem j h = ap (λ (u : List ℕ). get_or u j 0) ids_are ∙ row_at K v j ids (omega (arith, c.verify.asked.few))

      dist_at : (j : ℕ) → j < k → get_or ws j 0 ≡ get_or dists (v * K + j) 0
      dist_at j h = ap (λ (u : List ℕ). get_or u j 0) dists_are ∙ row_at K v j dists (omega (arith, c.verify.asked.few))

      looked : IsTable g P K ids dists → Walk g q v l → Exact g P q k v l → Flags g (is_listed g P q k) xs → Looked g P (is_listed g P q k) k xs ys v l r
      looked t walk exact f =
          record {
            size = w.grown.size;
            stays = λ i h m. w.grown.words i h;
            blank = record { zero = λ j h. w.grown.words j (omega arith) ∙ c.verify.front.blank.zero j (omega arith) };
            flags = all.flags;
            grows = w.grown.grows;
            count = row_count ok t v k c.inside below most w.nearer.few less stop;
            told =
                λ p d m a.
                let s = row_stands ok t v k c.inside below most w.nearer.few less stop p d m in
                let e : get_or zs s.index 0 ≡ p = id_at_lem s.index (omega (arith, s.low, w.nearer.few)) ∙ s.is in
                rw e at (all.told s.index s.low (rw e a));
          }
        where
          ok : Accepted g
          ok = c.verify.asked.accepted

          below : k ≤ K
          below = omega (arith, c.verify.asked.few)

          less : (i : ℕ) → i < r → get_or dists (v * K + i) 0 < l
          less i h = omega (arith, w.nearer.less i h, dist_at i (omega (arith, w.nearer.few)))

          stop : r < k → l ≤ get_or dists (v * K + r) 0
          stop h = omega (arith, w.nearer.stop h, dist_at r h)

          ways : Ways g q k zs ws l
          ways i h m =
              rw (id_at_lem i h, dist_at i h) (row_way ok t v k c.inside below most walk exact i h (omega (arith, dist_at i h)))

          all : ToldAll g P q k zs ys r
          all = w.right t.same_dists ways f

      pub looked_left : LookedByRow g P ids dists q k K xs ys v l r
      looked_left = record { grown = w.grown; right = looked }
