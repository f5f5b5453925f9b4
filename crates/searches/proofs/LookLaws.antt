-- Looking at a node: the words from the found nodes on are lent to `nodes`, the points of the found nodes are verified, and their words
-- are cleared.
-- Assumes nothing.
use Prim.Native.Nat.{ℕ, suc, ◌+◌, ◌-◌, ◌≤◌, ◌<◌}
use mathlib.Core.Path.{◌≡◌, sym, ap, ◌∙◌}
use mathlib.Core.Bool.{Bool, true}
use mathlib.Core.Logic.{◌≢◌, ⊎_elim}
use mathlib.Core.List.Memᴰ
use mathlib.Core.List.{List, [], ◌∷◌, Memᴰ}
use native.Mathlib.Decide.{dec_lt}
use native.Mathlib.Omega.{arith}
use lib.ListN.{length, get_or, replicate, length-replicate}
use borrow.Rule.Slice.PartMut.{mid_of, put_mid}
use Rattle.network.specs.Network.{Network, node_count}
use Rattle.network.specs.Distance.{dist}
use Rattle.network.specs.Nearest.{nearest}
use Rattle.network.proofs.Rows.{Entry, listed_near}
use Rattle.expansion.specs.declared.verify.Site.{Site}
use Rattle.expansion.specs.Visited.{is_stop}
use Rattle.expansion.specs.Found.{NodesLeft}
use Rattle.expansion.specs.declared.nearest.Near.{Near}
use Rattle.expansion.proofs.Finding.{found_member, member_found}
use Rattle.expansion.proofs.Places.{Next}
use Rattle.expansion.proofs.Settled.{zero_blank}
use Rattle.searches.specs.Flags.{flags_end, ids_base, site_lists, Flags, CanVerifyAll, VerifiedAll, CanLook, Looked, LookedAt}
use Rattle.expansion.proofs.VisitLaws.{stop_same}
use Rattle.searches.proofs.FlagLaws.{lists_same}
use Rattle.network.proofs.Lends.{Returned, returned}

-- the same flags
pub flags_same : {g : Network} {L : ℕ → Bool} {xs ys : List ℕ} → ((i : ℕ) → i < flags_end g → get_or ys i 0 ≡ get_or xs i 0) → Flags g L xs → Flags g L ys
flags_same {g} same f =
    record {
      sound = λ p h n. f.sound p h (rw (same (node_count g + p) (omega arith)) at n);
      once = λ p h n l. rw (same (node_count g + p) (omega arith)) (f.once p h (rw (same p (omega arith)) at n) l);
    }

-- a member of a list has a place
pub place_of : (xs : List (ℕ × ℕ)) (z : ℕ × ℕ) → Memᴰ z xs → (i : ℕ) × Next xs i z
place_of [] z m = absurd (Memᴰ.not-nil m)
place_of (x ∷ xs) z m =
    ⊎_elim
    (λ e. (0, record { low = omega arith; is = sym e }))
    (λ t. let r = place_of xs z t in (suc r.0, record { low = omega (arith, r.1.low); is = r.1.is }))
    (Memᴰ.cases_cons m)

module _ {g : Network} {P : List ℕ} {site : Site} {k : ℕ} {xs : List ℕ} {v : ℕ} (c : CanLook g P site k xs v) where
  fits : ids_base g ≤ length xs
  fits = omega (arith, c.front.size)

  module _ {zs : List ℕ} {l : ℕ} {r : Near} (n : NodesLeft g P v l k (mid_of (ids_base g) (length xs - ids_base g) xs) zs (node_count g) r) where
    back : Returned xs (put_mid (ids_base g) (length xs - ids_base g) xs zs) (ids_base g) (length xs) zs
    back = returned (ids_base g) (length xs) xs zs fits (omega arith) n.size

    -- the i-th found node is one of the answer's
    entry : (i : ℕ) → i < r.found → Entry g P v l k (get_or zs i 0) (dist g v (get_or zs i 0))
    entry i h = listed_near c.front.accepted P v l k (get_or zs i 0) (dist g v (get_or zs i 0)) (found_member n.found_in i h)

    pub found_few : r.found ≤ node_count g
    found_few = omega (arith, n.found_in.few)

    id : (i : ℕ) → i < r.found → get_or (put_mid (ids_base g) (length xs - ids_base g) xs zs) (ids_base g + i) 0 ≡ get_or zs i 0
    id i h = back.part i (omega (arith, found_few, c.front.size))

    behind : (j : ℕ) → ids_base g + r.found ≤ j → get_or (put_mid (ids_base g) (length xs - ids_base g) xs zs) j 0 ≡ 0
    behind j h =
        elim (dec_lt j (length xs)) [
          | yes a ↦
              let e : ids_base g + (j - ids_base g) ≡ j = omega arith in
              ap (λ (i : ℕ). get_or (put_mid (ids_base g) (length xs - ids_base g) xs zs) i 0) (sym e)
              ∙ back.part (j - ids_base g) (omega arith)
              ∙ elim (dec_lt (j - ids_base g) (node_count g)) [
                | yes d ↦ n.found_in.rest (j - ids_base g) (omega arith) d
                | no d ↦ n.blank.zero (j - ids_base g) (omega arith)
              ]
          | no a ↦ back.after j (omega arith) ∙ c.blank.zero j (omega arith)
        ]

    -- what `verify_found` requires
    lent_stops : (x : ℕ) → x < node_count g → is_stop (put_mid (ids_base g) (length xs - ids_base g) xs zs) x ≡ is_stop xs x
    lent_stops x h = stop_same xs (put_mid (ids_base g) (length xs - ids_base g) xs zs) x (back.before x (omega arith))

    same : site_lists g P (put_mid (ids_base g) (length xs - ids_base g) xs zs) site k ≡ site_lists g P xs site k
    same = lists_same g P site k xs (put_mid (ids_base g) (length xs - ids_base g) xs zs) lent_stops

    pub can_verify_all : CanVerifyAll g P site k (put_mid (ids_base g) (length xs - ids_base g) xs zs) r.found
    can_verify_all =
        record {
          front =
              record {
                accepted = c.front.accepted;
                points = c.front.points;
                inside = c.front.inside;
                flags = rw same (flags_same (λ i h. back.before i (omega arith)) c.front.flags);
                blank = record { zero = λ j h. behind j (omega (arith, found_few)) };
                size = omega (arith, c.front.size, back.size);
              };
          few = found_few;
          inside = λ i h. rw (id i h) (entry i h).near.nearer.inside;
          mark = λ i h. rw (id i h) (entry i h).near.nearer.point;
        }

    pub clear_fits : {ws : List ℕ} → VerifiedAll g (site_lists g P (put_mid (ids_base g) (length xs - ids_base g) xs zs) site k) (put_mid (ids_base g) (length xs - ids_base g) xs zs) ws r.found → ids_base g + r.found ≤ length ws
    clear_fits a = omega (arith, a.flagged.size, back.size, c.front.size, found_few)

    module _ {ws us : List ℕ} (a : VerifiedAll g (site_lists g P (put_mid (ids_base g) (length xs - ids_base g) xs zs) site k) (put_mid (ids_base g) (length xs - ids_base g) xs zs) ws r.found)
        (e : us ≡ replicate (length (mid_of (ids_base g) (ids_base g + r.found - ids_base g) ws)) 0) where
      clear : Returned ws (put_mid (ids_base g) (ids_base g + r.found - ids_base g) ws us) (ids_base g) (ids_base g + r.found) us
      clear =
          returned (ids_base g) (ids_base g + r.found) ws us (omega arith) (clear_fits a)
          (ap length e ∙ length-replicate (length (mid_of (ids_base g) (ids_base g + r.found - ids_base g) ws)) 0)

      zeros : (j : ℕ) → ids_base g ≤ j → get_or (put_mid (ids_base g) (ids_base g + r.found - ids_base g) ws us) j 0 ≡ 0
      zeros j h =
          elim (dec_lt j (ids_base g + r.found)) [
            | yes d ↦
                let s : ids_base g + (j - ids_base g) ≡ j = omega arith in
                ap (λ (i : ℕ). get_or (put_mid (ids_base g) (ids_base g + r.found - ids_base g) ws us) i 0) (sym s)
                ∙ clear.part (j - ids_base g) (omega arith)
                ∙ (zero_blank (length (mid_of (ids_base g) (ids_base g + r.found - ids_base g) ws)) 0 e).zero (j - ids_base g) (omega arith)
            | no d ↦ clear.after j (omega arith) ∙ a.flagged.words j (omega arith) ∙ behind j (omega arith)
          ]

      pub looked : LookedAt g P (site_lists g P xs site k) k xs (put_mid (ids_base g) (ids_base g + r.found - ids_base g) ws us) v l r.tally
      looked =
          rw (← same)
          record {
            looked = all;
            stops =
                λ x h.
                stop_same ws (put_mid (ids_base g) (ids_base g + r.found - ids_base g) ws us) x (clear.before x (omega arith))
                ∙ a.flagged.stops x h
                ∙ lent_stops x h;
          }
        where
          told : (p d : ℕ) → Memᴰ (p, d) (nearest g P v l k) → site_lists g P (put_mid (ids_base g) (length xs - ids_base g) xs zs) site k p ≡ true → get_or (put_mid (ids_base g) (ids_base g + r.found - ids_base g) ws us) (node_count g + p) 0 ≢ 0
          told p d b t =
              let j = place_of (nearest g P v l k) (p, d) b in
              let i = member_found n.found_in j.0 j.1.low in
              let is : get_or zs i.0 0 ≡ p = i.2 ∙ ap (λ (z : ℕ × ℕ). z.0) j.1.is in
              let s : get_or (put_mid (ids_base g) (length xs - ids_base g) xs zs) (ids_base g + i.0) 0 ≡ p = id i.0 i.1 ∙ is in
              let low : get_or zs i.0 0 < node_count g = (entry i.0 i.1).near.nearer.inside in
              rw (clear.before (node_count g + p) (omega arith))
              (rw s at (a.told i.0 i.1 (rw s t)))

          all : Looked g P (site_lists g P (put_mid (ids_base g) (length xs - ids_base g) xs zs) site k) k xs (put_mid (ids_base g) (ids_base g + r.found - ids_base g) ws us) v l r.tally
          all =
              record {
                size = clear.size ∙ a.flagged.size ∙ back.size;
                stays = λ i h m. clear.before i m ∙ a.flagged.words i h ∙ back.before i m;
                blank = record { zero = zeros };
                flags = flags_same (λ i h. clear.before i (omega arith)) a.flagged.flags;
                grows =
                    λ p h d.
                    rw (clear.before (node_count g + p) (omega arith))
                    (a.flagged.grows p h (rw (back.before (node_count g + p) (omega arith)) d));
                count = n.found_in.count;
                told = told;
              }
