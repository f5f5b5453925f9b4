-- Insert under way. The search follows the arcs of the nodes whose rows the new point enters, and answers for those: they are closed under shortest
-- ways from it. A settled node's row is that of the points after, another's that of the points before. The count is that of the settled nodes whose
-- rows the point enters. On arrays that are not the table nothing is claimed of the rows, and the search answers for no node.
-- Assumes nothing.
use Prim.Native.Nat.{ℕ, suc, ◌+◌, ◌≤◌, ◌<◌}
use mathlib.Core.Path.{◌≡◌, refl, sym, ap, ◌∙◌}
use mathlib.Core.Bool.{Bool, true, false, decide, decide_iff}
use mathlib.Core.Logic.{◌≢◌}
use mathlib.Core.List.{List}
use native.Mathlib.Decide.{ℕ_discrete, dec_le}
use native.Mathlib.Omega.{arith}
use lib.ListN.{length, get_or, take}
use Rattle.network.specs.Network.{Network, node_count, neighbours_of}
use Rattle.network.specs.Accepted.{Accepted}
use Rattle.network.specs.Distance.{NONE, dist}
use Rattle.network.specs.Order.{Upto}
use Rattle.network.specs.Count.{count}
use Rattle.network.specs.Nearest.{insert, nearest}
use Rattle.network.specs.Rows.{row, rows_changed, Sized, IsTable}
use Rattle.network.proofs.Counts.{count_mono, count_none, without, without_other, count_without, without_not}
use Rattle.network.proofs.Distances.{dist_walk, dist_symmetric, dist_at_most}
use Rattle.network.proofs.Lends.{row_fits}
use Rattle.network.proofs.Rows.{row_length}
use Rattle.expansion.specs.Queue.{key_of}
use Rattle.expansion.specs.Tags.{tag_of}
use Rattle.expansion.specs.NodeQueue.{PushedNode}
use Rattle.expansion.specs.Area.{queue_base, Area, Moved, Took, Followed}
use Rattle.expansion.proofs.Origins.{one, one_lawful}
use Rattle.expansion.proofs.Search.{Leads, closed_leads}
use Rattle.expansion.proofs.AreaLaws.{moved_same, settled_as, others_settle}
use Rattle.expansion.proofs.AreaSearch.{took_area, took_word, took_moved, took_waited, took_exact, search_finished, settle_marks}
use Rattle.expansion.proofs.Progress.{Progress, progress_begun, progress_start, progress_settled, took_walk}
use Rattle.expansion.proofs.Stopping.{progress_stopped}
use Rattle.rows.specs.Flat.{row_at}
use Rattle.rows.specs.Update.{Added, Gains}
use Rattle.rows.specs.Put.{takes, HasRow, PutInRow}
use Rattle.table.specs.Insert.{CanInsert}
use Rattle.network.specs.Points.{more_at}
use Rattle.table.proofs.Gains.{taken_gains, gains_next}
use Rattle.rows.proofs.Laid.{table_rows, rows_table}
use Rattle.rows.proofs.Update.{row_added, row_kept, gains_or_not, changed_gains, set_added}
use Rattle.rows.proofs.Changed.{added_changes}
use Rattle.rows.proofs.PutLaws.{not_taken, takes_nearer, insert_pad}

-- the arrays were the table of P, and x is near v once it is marked: the row of v takes x
pub record Enters (g : Network) (P ids dists : List ℕ) (x K v : ℕ) : Type 0 where
  pub was : IsTable g P K ids dists
  pub near : Gains g P K v x

-- t tells the settled nodes that x is near to
pub record Tells (g : Network) (P xs : List ℕ) (x K : ℕ) (t : ℕ → Bool) : Type 0 where
  pub only : (v : ℕ) → v < node_count g → t v ≡ true → (node_count g < get_or xs (0 + v) 0) × Gains g P K v x
  pub all : (v : ℕ) → v < node_count g → node_count g < get_or xs (0 + v) 0 → Gains g P K v x → t v ≡ true

pub record Inserting (g : Network) (P ids₀ dists₀ : List ℕ) (x K : ℕ) (xs : List ℕ) (settled len changed : ℕ) (ids dists : List ℕ) : Type 0 where
  pub progress : Progress g (one g x) (Enters g P ids₀ dists₀ x K) (Enters g P ids₀ dists₀ x K) xs 0 settled len
  pub sized : Sized g K ids dists
  pub few : changed ≤ settled
  pub fresh : IsTable g P K ids₀ dists₀ → (v : ℕ) → v < node_count g → get_or xs (0 + v) 0 ≤ node_count g → row_at ids dists K v ≡ row g P K v
  pub done : IsTable g P K ids₀ dists₀ → (v : ℕ) → v < node_count g → node_count g < get_or xs (0 + v) 0 → row_at ids dists K v ≡ row g (more_at P x) K v
  pub counted : IsTable g P K ids₀ dists₀ → (t : ℕ → Bool) → Tells g P xs x K t → changed ≡ count t (node_count g)

-- one more at x
more_added : (P : List ℕ) (x : ℕ) → x < length P → Added P (more_at P x) x
more_added P x h =
    let q : get_or P x 0 + 1 ≡ suc (get_or P x 0) = omega arith in
    rw q (set_added P x h)

-- who passes a test but for v; and where v does not pass it, as many do
without_passes : (b : ℕ → Bool) (v y : ℕ) → without b v y ≡ true → b y ≡ true
without_passes b v y a = sym (without_other b v y (without_not b v y a)) ∙ a

count_skipped : (b : ℕ → Bool) (v n : ℕ) → (b v ≡ true → ⊥) → count (without b v) n ≡ count b n
count_skipped b v n out =
    omega (
      arith,
      count_mono (without b v) b n (λ y h a. without_passes b v y a),
      count_mono b (without b v) n (λ y h a. without_other b v y (λ q. out (ap b (sym q) ∙ a)) ∙ a),
    )

module _ {g : Network} {P s₀ ids₀ dists₀ : List ℕ} {x K : ℕ} (c : CanInsert g P s₀ ids₀ dists₀ x K) where
  ok : Accepted g
  ok = c.expand.accepted

  abbrev Was : Type 0
  Was = IsTable g P K ids₀ dists₀

  added : Added P (more_at P x) x
  added = more_added P x (omega (arith, c.points, c.expand.inside))

  pub enters_leads : Leads g (one g x) (Enters g P ids₀ dists₀ x K) (Enters g P ids₀ dists₀ x K)
  enters_leads =
      closed_leads (one_lawful ok x)
      (record {
        before =
            λ u v w o r e n.
            record {
              was = o.was;
              near = gains_next ok P (ok.returns r) K x (omega (arith, e, dist_symmetric ok x v, dist_symmetric ok x u)) o.near;
            };
      })

  -- the search begins
  pub inserting_start : {xs : List ℕ} → PushedNode (node_count g) s₀ xs 0 (queue_base (node_count g) 0) 0 (key_of 0 (tag_of x x)) → Inserting g P ids₀ dists₀ x K xs 0 1 0 ids₀ dists₀
  inserting_start {xs} t =
      record {
        progress = progress_start ok c.expand t;
        sized = c.sized;
        few = omega arith;
        fresh = λ i v h z. table_rows P K ids₀ dists₀ i v h;
        done = λ i v h n. absurd (omega (arith, n, word v h));
        counted =
            λ i b tells.
            sym (count_none b (node_count g) (λ v h a. omega (arith, (tells.only v h a).0, word v h)));
      }
    where
      word : (v : ℕ) → v < node_count g → get_or xs (0 + v) 0 ≤ node_count g
      word v h = (progress_begun ok c.expand t).others v h (omega (arith, c.expand.blank.zero (0 + v) (omega arith)))

  module _ {xs : List ℕ} {settled len changed : ℕ} {ids dists : List ℕ} (e : Inserting g P ids₀ dists₀ x K xs settled len changed ids dists) where
    pub has_row : {v : ℕ} → v < node_count g → HasRow ids dists K v
    has_row {v} h =
        record {
          fits = omega (arith, row_fits v (node_count g) K h, e.sized.all_ids);
          same = e.sized.all_dists ∙ sym e.sized.all_ids;
        }

    -- ---- An entry of v is taken, and x at its label is put into the row of v; r says whether the row took it.
    module _ {ys : List ℕ} {left l v u : ℕ} (t : Took (node_count g) xs ys 0 len left l v u)
        {ids' dists' : List ℕ} {r : Bool} (put : PutInRow ids dists ids' dists' K v x l r) where
      upto : Upto (dist g x v) l
      upto = dist_walk ok (took_walk ok e.progress t)

      reach : dist g v x ≢ NONE
      reach = omega (arith, upto.some, dist_symmetric ok x v)

      far : Was → Gains g P K v x → l ≡ dist g v x
      far i n =
          took_exact ok e.progress.area e.progress.searched t enters_leads (record { was = i; near = n })
          ∙ dist_symmetric ok x v

      now_row : Was → row_at ids dists K v ≡ row g P K v
      now_row i = e.fresh i v t.inside (took_waited ok e.progress.area e.progress.searched t)

      -- the row with x at its distance
      entered : take K (insert (x, dist g v x) (row g P K v)) ≡ row g (more_at P x) K v
      unfolding row
      entered =
          insert_pad K (x, dist g v x) (nearest g P v NONE K) (omega (arith, dist_at_most g v x, reach, ok.few, c.expand.inside))
          ∙ sym (row_added ok c.expand.inside added K v reach)

      -- a row that takes x has it near; one that does not is not near to it
      pub took_near : Was → r ≡ true → Gains g P K v x
      took_near i a =
          let y = sym (put.taken ∙ ap (takes (x, l)) (now_row i)) ∙ a in
          taken_gains ok P K v x reach
          (takes_nearer (x, l) (x, dist g v x) (row g P K v) (omega (arith, upto.most, dist_symmetric ok x v)) y)

      stays : Was → r ≡ false → take K (insert (x, l) (row g P K v)) ≡ row g P K v
      stays i a =
          rw (row_length g P K v) at (not_taken (x, l) (row g P K v) (sym (put.taken ∙ ap (takes (x, l)) (now_row i)) ∙ a))

      pub left_far : Was → r ≡ false → Gains g P K v x → ⊥
      left_far i a n =
          (changed_gains ok c.expand.inside added K v).1 n
          (sym (stays i a) ∙ ap (λ (d : ℕ). take K (insert (x, d) (row g P K v))) (far i n) ∙ entered)

      new_row : (b : Bool) → r ≡ b → Was → row_at ids' dists' K v ≡ row g (more_at P x) K v
      new_row true a i =
          put.row
          ∙ ap (λ (y : List (ℕ × ℕ)). take K (insert (x, l) y)) (now_row i)
          ∙ ap (λ (d : ℕ). take K (insert (x, d) (row g P K v))) (far i (took_near i a))
          ∙ entered
      new_row false a i =
          put.row
          ∙ ap (λ (y : List (ℕ × ℕ)). take K (insert (x, l) y)) (now_row i)
          ∙ stays i a
          ∙ sym (row_kept ok c.expand.inside added K v (left_far i a))

      -- ws is the area in which v is settled, and perhaps its arcs are followed
      module _ {ws : List ℕ} (same : Moved (node_count g) (settled_as (node_count g) ys 0 settled v l) ws 0) where
        area : Area (node_count g) ys 0 settled left
        area = took_area ok e.progress.area e.progress.searched t

        free : get_or ys (0 + v) 0 ≡ 0
        free = took_word ok e.progress.area e.progress.searched t

        moved : Moved (node_count g) xs ys 0
        moved = took_moved ok e.progress.area e.progress.searched t

        settled_here : node_count g < get_or ws (0 + v) 0
        settled_here = omega (arith, (settle_marks ok area l t.inside free same).here.is)

        other : (y : ℕ) → y < node_count g → y ≢ v → get_or (settled_as (node_count g) ys 0 settled v l) (0 + y) 0 ≡ get_or ys (0 + y) 0
        other = others_settle area v l t.inside free

        -- the other nodes are settled in ws where they are in xs
        settled_on : (y : ℕ) → y < node_count g → y ≢ v → node_count g < get_or xs (0 + y) 0 → node_count g < get_or ws (0 + y) 0
        settled_on y h n w =
            let a = moved.settled y h w in
            omega (arith, a, w, other y h n, same.settled y h (omega (arith, a, w, other y h n)))

        settled_back : (y : ℕ) → y < node_count g → y ≢ v → node_count g < get_or ws (0 + y) 0 → node_count g < get_or xs (0 + y) 0
        settled_back y h n w =
            elim (dec_le (get_or xs (0 + y) 0) (node_count g)) [
              | yes z ↦ absurd (omega (arith, w, same.others y h (omega (arith, other y h n, moved.others y h z))))
              | no z ↦ omega arith
            ]

        next : {more now : ℕ} → Progress g (one g x) (Enters g P ids₀ dists₀ x K) (Enters g P ids₀ dists₀ x K) ws 0 (settled + 1) more
            → now ≤ settled + 1 → (Was → (b : ℕ → Bool) → Tells g P ws x K b → now ≡ count b (node_count g))
            → Inserting g P ids₀ dists₀ x K ws (settled + 1) more now ids' dists'
        next progress few counted =
            record {
              progress = progress;
              sized = record { all_ids = put.ids_size ∙ e.sized.all_ids; all_dists = put.dists_size ∙ e.sized.all_dists };
              few = few;
              fresh = fresh;
              done = done;
              counted = counted;
            }
          where
            unsettled : (y : ℕ) → y < node_count g → y ≢ v → get_or ws (0 + y) 0 ≤ node_count g → get_or xs (0 + y) 0 ≤ node_count g
            unsettled y h n z =
                elim (dec_le (get_or xs (0 + y) 0) (node_count g)) [
                  | yes w ↦ w
                  | no w ↦ absurd (omega (arith, z, settled_on y h n (omega arith)))
                ]

            fresh : Was → (y : ℕ) → y < node_count g → get_or ws (0 + y) 0 ≤ node_count g → row_at ids' dists' K y ≡ row g P K y
            fresh i y h z =
                let n : y ≢ v = λ q. omega (arith, settled_here, ap (λ (m : ℕ). get_or ws (0 + m) 0) q) in
                put.others y n ∙ e.fresh i y h (unsettled y h n z)

            done : Was → (y : ℕ) → y < node_count g → node_count g < get_or ws (0 + y) 0 → row_at ids' dists' K y ≡ row g (more_at P x) K y
            done i y h z =
                elim (ℕ_discrete y v) [
                  | yes q ↦ rw q (new_row r refl i)
                  | no n ↦ put.others y n ∙ e.done i y h (settled_back y h n z)
                ]

        -- a test of the settled nodes, but for v, tells those that were settled before
        tells_without : (b : ℕ → Bool) → Tells g P ws x K b → Tells g P xs x K (without b v)
        tells_without b tells =
            record {
              only = λ y h a. let d = tells.only y h (without_passes b v y a) in (settled_back y h (without_not b v y a) d.0, d.1);
              all =
                  λ y h w near.
                  elim (ℕ_discrete y v) [
                    | yes q ↦ absurd (omega (arith, w, ap (λ (m : ℕ). get_or xs (0 + m) 0) q, took_waited ok e.progress.area e.progress.searched t))
                    | no m ↦ without_other b v y m ∙ tells.all y h (settled_on y h m w) near
                  ];
            }

      -- the row did not take x: the search stops behind v
      pub inserting_stopped : r ≡ false → Inserting g P ids₀ dists₀ x K (settled_as (node_count g) ys 0 settled v l) (settled + 1) left changed ids' dists'
      inserting_stopped a =
          next moved_same (progress_stopped ok e.progress t enters_leads (λ o. left_far o.was a o.near))
          (omega (arith, e.few))
          (λ i b tells.
          e.counted i (without b v) (tells_without moved_same b tells)
          ∙ count_skipped b v (node_count g) (λ y. left_far i a (tells.only v t.inside y).1))

      -- or it did: the row is counted, and the arcs of v are followed
      pub inserting_entered : {ws : List ℕ} {more : ℕ} → r ≡ true
          → Followed g (settled_as (node_count g) ys 0 settled v l) ws 0 left more v l (length (neighbours_of g v))
          → Inserting g P ids₀ dists₀ x K ws (settled + 1) more (changed + 1) ids' dists'
      inserting_entered a f =
          next f.frame (progress_settled ok e.progress t enters_leads f)
          (omega (arith, e.few))
          (λ i b tells.
          omega (
            arith,
            e.counted i (without b v) (tells_without f.frame b tells),
            count_without b v (node_count g) t.inside (tells.all v t.inside (settled_here f.frame) (took_near i a)),
          ))

    -- ---- No entry waits.
    pub most : changed ≤ node_count g
    most = omega (arith, e.few, e.progress.area.counted)

    module _ (t : len ≡ 0) where
      settled_near : Was → (v : ℕ) → Gains g P K v x → node_count g < get_or xs (0 + v) 0
      settled_near i v n =
          let w =
          search_finished ok e.progress.area e.progress.searched t enters_leads v (record { was = i; near = n })
          (omega (arith, n.reach, dist_symmetric ok x v))
          in
          omega (arith, w.is)

      pub table_now : Was → IsTable g (more_at P x) K ids dists
      table_now i =
          rows_table (more_at P x) K ids dists e.sized
          (λ v h.
          elim (dec_le (get_or xs (0 + v) 0) (node_count g)) [
            | yes z ↦ e.fresh i v h z ∙ sym (row_kept ok c.expand.inside added K v (λ n. omega (arith, z, settled_near i v n)))
            | no z ↦ e.done i v h (omega arith)
          ])

      pub count_all : Was → changed ≡ rows_changed g P (more_at P x) K
      count_all i =
          let near = gains_or_not ok c.expand.inside added K in
          let only : (v : ℕ) → v < node_count g → decide (near v) ≡ true → Gains g P K v x = λ v h. (decide_iff (near v)).0 in
          let all : (v : ℕ) → v < node_count g → Gains g P K v x → decide (near v) ≡ true = λ v h. (decide_iff (near v)).1 in
          e.counted i (λ v. decide (near v))
          (record { only = λ v h a. (settled_near i v (only v h a), only v h a); all = λ v h w n. all v h n })
          ∙ sym (added_changes ok c.expand.inside added K (λ v. decide (near v)) only all)
