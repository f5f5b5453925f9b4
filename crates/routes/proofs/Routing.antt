-- The search from the nodes of a route: how it begins (`Searching` of searches, from several nodes), and what it has found where it ends.
-- Assumes nothing.
use Prim.Native.Nat.{ℕ, ◌+◌, ◌<◌}
use mathlib.Core.Path.{◌≡◌, refl, sym, ap, subst, ◌∙◌}
use mathlib.Core.Bool.{Bool, true, false, false≢true}
use mathlib.Core.Logic.{⊎_elim}
use mathlib.Core.List.{List}
use native.Mathlib.Decide.{dec_lt}
use native.Mathlib.Omega.{arith}
use lib.Dec.{eqb}
use lib.ListN.{length}
use borrow.Author.Tests.{lt-ltb, le-ltb}
use Rattle.network.specs.Network.{Network, node_count}
use Rattle.network.specs.Accepted.{Accepted}
use Rattle.network.specs.Count.{select}
use Rattle.network.specs.Routes.{on_route, is_touched, touched, is_received}
use Rattle.network.proofs.Tests.{bool_cases}
use Rattle.network.proofs.Counts.{select_same}
use Rattle.network.proofs.Routes.{on_member, on_selected, received_parts, received_same, one_search}
use Rattle.expansion.specs.declared.verify.Site.TheVariants.{Stops}
use Rattle.expansion.specs.Visited.{is_stop, stops_in}
use Rattle.expansion.specs.Expand.{is_waiting, nodes_waiting}
use Rattle.expansion.proofs.Progress.{Progress}
use Rattle.expansion.proofs.Several.{several, several_lawful}
use Rattle.expansion.proofs.Waiting.{progress_waiting}
use Rattle.searches.specs.Eager.{is_found}
use Rattle.searches.specs.Flags.{Flags}
use Rattle.searches.proofs.Beaten.{Unbeaten}
use Rattle.searches.proofs.Finds.{Met}
use Rattle.searches.proofs.Searching.{SearchFrom, Searching, found_all}
use Rattle.routes.specs.Route.{route_outer_base, stop_word, RouteStarted, CanRoute, RouteExplored}

-- the search under way, where the nodes of the route are those of the words ws
abbrev pub FromRoute : Network → List ℕ → List ℕ → ℕ → List ℕ → ℕ → ℕ → Type 0
FromRoute g P ws k xs settled len =
    Searching g P (several g (stops_in (node_count g) ws)) Stops (is_received g P (stops_in (node_count g) ws) k) k xs (route_outer_base g) settled len

module _ {g : Network} {P R : List ℕ} {k : ℕ} {s₀ : List ℕ} (c : CanRoute g P R s₀ k) where
  ok : Accepted g
  ok = c.accepted

  -- the search goes on from any nodes
  pub from_route : (S : List ℕ) → SearchFrom g P (several g S) Stops (is_received g P S k) k (route_outer_base g)
  from_route S =
      record {
        accepted = ok;
        lawful = several_lawful ok S;
        points = c.points;
        inside = omega arith;
        some = c.some;
        receives =
            λ p e.
            let h = (received_parts g P S k p).0 e in
            record { mark = h.mark; other = λ m. false≢true (sym h.off ∙ (on_member S p).1 m); reach = h.reach; few = h.few };
        base = omega arith;
      }

  module _ {xs : List ℕ} {len : ℕ} (t : RouteStarted (node_count g) R s₀ xs (route_outer_base g) len) where
    stop : (v : ℕ) → v < node_count g → is_stop xs v ≡ on_route R v
    stop v h = ap (λ (w : ℕ). eqb w 2) (t.marks v h) ∙ by (on_route R v)
      where
        by : (b : Bool) → eqb (stop_word b) 2 ≡ b
        by true = refl
        by false = refl

    -- the marks are those of the route
    same : (v : ℕ) → on_route (stops_in (node_count g) xs) v ≡ on_route R v
    unfolding stops_in
    same v =
        on_selected (is_stop xs) (node_count g) v
        ∙ elim (dec_lt v (node_count g)) [
          | yes h ↦ rw (lt-ltb v (node_count g) h) (stop v h)
          | no n ↦
              rw (le-ltb v (node_count g) (omega arith))
              (⊎_elim (λ e. absurd (n (c.inside v e))) (λ e. sym e) (bool_cases (on_route R v)))
        ]

    -- and those that wait
    waiting : nodes_waiting (node_count g) xs (route_outer_base g) ≡ stops_in (node_count g) xs
    unfolding nodes_waiting stops_in
    waiting = select_same (is_waiting xs (route_outer_base g)) (is_stop xs) (node_count g) (λ v h. t.waits v h ∙ sym (stop v h))

    -- no point is found yet, and none on the route is listed
    flags : Flags g (is_received g P (stops_in (node_count g) xs) k) xs
    flags =
        record {
          sound = λ p h n. absurd (n (t.rest (node_count g + p) (omega arith) (omega arith)));
          once =
              λ p h n e.
              let off = ((received_parts g P (stops_in (node_count g) xs) k p).0 e).off in
              absurd (n (t.marks p h ∙ ap stop_word (sym (same p) ∙ off)));
        }

    abbrev stops : List ℕ
    stops = stops_in (node_count g) xs

    pub routing_start : FromRoute g P xs k xs 0 len
    routing_start =
        record {
          progress = subst (λ (S : List ℕ). Progress g (several g S) (Unbeaten g P (several g stops) k) (Met g P (several g stops) k) xs (route_outer_base g) 0 len) waiting (progress_waiting ok t.area);
          lists = refl;
          flags = flags;
          blank = λ j h m. t.rest j (omega arith) m;
          told = λ v l p h near a. absurd (omega (arith, (t.area.labelled v h.inside (omega (arith, h.is))).low));
        }

    -- no entry waits: the found flags are those of the union
    pub routing_done : {ys : List ℕ} {settled more : ℕ} → FromRoute g P xs k ys settled more → more ≡ 0 → length ys ≡ length s₀ → RouteExplored g P R k s₀ ys settled
    routing_done {ys} e z size =
        record {
          size = size;
          area = rw z at e.progress.area;
          blank = e.blank;
          found =
              λ p h.
              found_all (from_route (stops_in (node_count g) xs)) e z p h
              ∙ received_same g P p (stops_in (node_count g) xs) R k same
              ∙ sym ((one_search ok P k).union R p);
        }

-- the list of the flags
pub touched_list : {g : Network} {P R : List ℕ} {k : ℕ} {xs ys : List ℕ} {settled : ℕ} → RouteExplored g P R k xs ys settled
    → select (is_found (node_count g) ys) (node_count g) ≡ touched g P R k
unfolding touched
touched_list {g} {P} {R} {k} {xs} {ys} d = select_same (is_found (node_count g) ys) (is_touched g P R k) (node_count g) d.found
