-- Where eager ends: the list of the found flags is the list of the site, and the words behind the flags are the visits.
-- Assumes nothing.
use Prim.Native.Nat.{ℕ, ◌+◌, ◌*◌}
use mathlib.Core.Path.{◌≡◌, refl, sym, ap, ◌∙◌}
use Rattle.std.specs.Prelude.{Option, None, Some}
use mathlib.Core.List.{List}
use native.Mathlib.Omega.{arith}
use lib.ListN.{length, get_or}
use Rattle.network.specs.Network.{Network, node_count}
use Rattle.network.specs.Count.{select, tabulate}
use Rattle.network.specs.Points.{is_listed, listed}
use Rattle.network.specs.Accepted.{Accepted}
use Rattle.network.specs.Visits.{visits}
use Rattle.network.specs.Answers.{answered}
use Rattle.network.proofs.Tabulate.{tabulate_list}
use Rattle.network.proofs.Visits.{visits_count}
use Rattle.expansion.specs.Area.{Wiped}
use Rattle.expansion.proofs.Settled.{wiped_after}
use Rattle.searches.specs.declared.eager.End.{End}
use Rattle.searches.specs.declared.eager.LimitedList.{LimitedList}
use Rattle.searches.specs.Eager.{is_found, Complete, EagerExplored, FinishLeft, LimitedLeft, VisitsLeft}
use Rattle.searches.specs.Flags.{flags_end}
use Rattle.network.proofs.Counts.{select_same}

-- the found flags of an expansion that ends
pub found_listed : {g : Network} {P : List ℕ} {q k limit : ℕ} {ys : List ℕ} {count : ℕ} → Complete g P q k limit ys count → select (is_found (node_count g) ys) (node_count g) ≡ listed g P q k
unfolding listed
found_listed {g} {P} {q} {k} {ys} d = select_same (is_found (node_count g) ys) (is_listed g P q k) (node_count g) d.found

-- all words are 0 at the end
pub wiped_size : {xs ys zs : List ℕ} → length ys ≡ length xs → Wiped ys zs 0 → Wiped xs zs 0
wiped_size e w = wiped_after (record { size = e; words = λ i h. absurd (omega arith) }) w

-- the words of the visits, where it ends
pub kept_visits : {g : Network} → Accepted g → {P : List ℕ} {q k limit : ℕ} {ys : List ℕ} {count : ℕ} → Complete g P q k limit ys count
    → tabulate (λ i. get_or ys (flags_end g + i) 0) count ≡ visits g P q k
kept_visits {g} ok {P} {q} {k} {ys = ys} {count = count} d =
    let e : count ≡ length (visits g P q k) = d.all ∙ sym (visits_count ok P q k) in
    ap (tabulate (λ i. get_or ys (flags_end g + i) 0)) e
    ∙ tabulate_list (λ i. get_or ys (flags_end g + i) 0) (visits g P q k) (λ i h. d.visited i (omega (arith, e)))

-- ---- The whole call, from what the expansion leaves.
module _ {g : Network} (ok : Accepted g) {P : List ℕ} {q k limit : ℕ} {xs ys : List ℕ} {r : End} (e : EagerExplored g P q k limit xs ys (8 * node_count g) r) where
  pub limited_left : {zs old new : List ℕ} {a : Option LimitedList} → FinishLeft (node_count g) ys zs old new r a → LimitedLeft g P q k limit xs zs old new a
  limited_left {zs} {old} {new} {a} f = by r.count refl
    where
      by : (o : Option ℕ) → r.count ≡ o → LimitedLeft g P q k limit xs zs old new a
      by None h =
          rw (f.refused h).0
          (record { beyond = e.beyond h; answers = (f.refused h).1; area = wiped_size e.size f.area })
      by (Some c) h =
          let d = e.complete c h in
          let l = found_listed d in
          rw (f.listed c h).0
          (record {
            within = d.within;
            counted = d.all;
            sized = ap length l;
            answers = rw (← l) (f.listed c h).1;
            area = wiped_size e.size f.area;
          })

  pub visits_left : {zs old new seen seen' : List ℕ} {a : Option LimitedList} → FinishLeft (node_count g) ys zs old new r a
      → (r.count ≡ None → seen' ≡ seen) → ((c : ℕ) → r.count ≡ Some c → seen' ≡ answered (tabulate (λ i. get_or ys (flags_end g + i) 0) c) seen)
      → VisitsLeft g P q k seen seen' a
  visits_left {seen = seen} {seen' = seen'} {a = a} f same copied = by r.count refl
    where
      by : (o : Option ℕ) → r.count ≡ o → VisitsLeft g P q k seen seen' a
      by None h = rw (f.refused h).0 (same h)
      by (Some c) h = rw (f.listed c h).0 (copied c h ∙ ap (λ l. answered l seen) (kept_visits ok (e.complete c h)))
