-- The nodes with a site are put in, one after the other: each waits at label 0, and no others wait.
-- Assumes nothing.
use Prim.Native.Nat.{ℕ, ◌+◌, ◌<◌}
use mathlib.Core.Path.{◌≡◌, refl, sym, ap, ◌∙◌}
use mathlib.Core.Bool.{true, false, not, ◌&&◌}
use mathlib.Core.Logic.{◌≢◌, inl}
use mathlib.Core.List.{List}
use native.Mathlib.Decide.{ℕ_discrete, dec_lt}
use native.Mathlib.Omega.{arith}
use lib.Dec.{eqb, ltb}
use lib.ListN.{get_or}
use borrow.Author.Tests.{eq-eqb, ne_eqb, eqb-true, not-false, lt-ltb, le-ltb}
use Rattle.network.specs.Network.{Network, node_count}
use Rattle.network.specs.Points.{marked}
use Rattle.network.proofs.Tests.{and_right}
use Rattle.network.proofs.Counts.{select_same}
use Rattle.expansion.specs.Queue.{key_of}
use Rattle.expansion.specs.Tags.{tag_of, node_of}
use Rattle.expansion.specs.NodeQueue.{Free, PushedNode}
use Rattle.expansion.specs.Area.{queue_base}
use Rattle.expansion.specs.Expand.{is_waiting, nodes_waiting}
use Rattle.expansion.proofs.AreaLaws.{area_blank, area_pushed, key_own}
use Rattle.expansion.proofs.Waiting.{pushed_waits}
use Rattle.sheet.specs.Sources.{CanStart, Started}
use Rattle.sheet.specs.Sheet.{site_nodes}

-- one node more has had its turn
turn : (v end : ℕ) → v ≢ end → ltb v (end + 1) ≡ ltb v end
turn v end n =
    elim (dec_lt v end) [
      | yes h ↦ lt-ltb v (end + 1) (omega arith) ∙ sym (lt-ltb v end h)
      | no h ↦ le-ltb v (end + 1) (omega arith) ∙ sym (le-ltb v end (omega arith))
    ]

pub started_none : {n : ℕ} (T : List ℕ) {xs : List ℕ} → CanStart n xs → Started n T xs xs 0 0
started_none T {xs} c =
    record {
      size = refl;
      area = area_blank c.blank (omega (arith, c.room)) c.few;
      waits = λ v h. ap not (eq-eqb (get_or xs (0 + v) 0) 0 (c.blank.zero (0 + v) (omega arith))) ∙ sym (ap (λ b. b && marked T v) (le-ltb v 0 (omega arith)));
    }

module _ {n : ℕ} {T xs ys : List ℕ} {at len : ℕ} (s : Started n T xs ys at len) where
  -- a node without a site is passed
  pub started_passed : marked T at ≡ false → Started n T xs ys (at + 1) len
  started_passed m =
      record {
        size = s.size;
        area = s.area;
        waits =
            λ v h.
            s.waits v h
            ∙ elim (ℕ_discrete v at) [
              | yes e ↦ rw (e, m) (and_right (ltb at at) false refl ∙ sym (and_right (ltb at (at + 1)) false refl))
              | no d ↦ ap (λ b. b && marked T v) (sym (turn v at d))
            ];
      }

  -- the next node does not wait yet
  pub next_free : at < n → get_or ys (0 + at) 0 ≡ 0
  next_free h =
      eqb-true (get_or ys (0 + at) 0) 0
      (not-false (eqb (get_or ys (0 + at) 0) 0) (s.waits at h ∙ ap (λ b. b && marked T at) (le-ltb at at (omega arith))))

  -- so it can be put in
  pub can_push : at < n → (tag : ℕ) → tag ≡ tag_of at at → (node_of (key_of 0 tag) < n) × Free n ys 0 (node_of (key_of 0 tag))
  can_push h tag e =
      let low : at < 65536 = omega (arith, s.area.queue.few) in
      rw (e, key_own 0 at at low low) (h, inl (next_free h))

  -- a node with a site is put in
  module _ (h : at < n) {zs : List ℕ} (p : PushedNode n ys zs 0 (queue_base n 0) len (key_of 0 (tag_of at at))) where
    pub started_pushed : marked T at ≡ true → Started n T xs zs (at + 1) (len + 1)
    started_pushed m =
        record {
          size = p.frame.size ∙ s.size;
          area = area_pushed s.area h (next_free h) p;
          waits =
              λ v l.
              pushed_waits s.area h p v l
              ∙ elim (ℕ_discrete v at) [
                | yes e ↦ rw (e, m, eq-eqb at at refl, lt-ltb at (at + 1) (omega arith))
                | no d ↦ rw (ne_eqb v at d) (s.waits v l ∙ ap (λ b. b && marked T v) (sym (turn v at d)))
              ];
        }

-- those that wait at the end are the nodes with a site
pub started_sites : (g : Network) {T xs ys : List ℕ} {len : ℕ} → Started (node_count g) T xs ys (node_count g) len → nodes_waiting (node_count g) ys 0 ≡ site_nodes g T
unfolding nodes_waiting
started_sites g {T} {ys = ys} s =
    select_same (is_waiting ys 0) (marked T) (node_count g)
    (λ v h. s.waits v h ∙ ap (λ b. b && marked T v) (lt-ltb v (node_count g) h))
