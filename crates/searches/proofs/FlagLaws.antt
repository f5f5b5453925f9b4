-- Flags: a point is verified once, and one on the route never, and the found points are, one after another.
-- Assumes nothing.
use Prim.Native.Nat.{ℕ, ◌+◌, ◌<◌}
use mathlib.Core.Path.{◌≡◌, refl, sym, ap, ◌∙◌}
use mathlib.Core.Bool.{Bool, true, false, not, false≢true}
use mathlib.Core.Logic.{◌≢◌}
use mathlib.Core.List.{List}
use native.Mathlib.Decide.{ℕ_discrete, dec_lt}
use native.Mathlib.Omega.{arith}
use lib.Dec.{eqb}
use lib.ListN.{length, get_or, set, length-set}
use lib.Seq.{get_or-set_same, get_or-set_other}
use borrow.Author.Tests.{eq-eqb, ne_eqb}
use Rattle.network.specs.Network.{Network, node_count}
use Rattle.network.specs.Points.{marked}
use Rattle.network.specs.Routes.{verified_from, is_received}
use Rattle.network.proofs.Tests.{and_parts, and_intro}
use Rattle.expansion.specs.Area.{Blank}
use Rattle.expansion.specs.declared.verify.Site.{Site}
use Rattle.expansion.specs.declared.verify.Site.TheVariants.{One, Stops}
use Rattle.expansion.specs.Visited.{is_stop, verified_at, CanVisit, VerifyLeft}
use Rattle.expansion.proofs.VisitLaws.{stop_same, stops_same}
use Rattle.searches.proofs.Listed.{listed_verified, verified_listed}
use Rattle.searches.specs.Flags.{ids_base, inner_base, site_lists, Grows, CanVerifyOnce, CanVerifyAll, VerifiedOnce, VerifiedAll, Flags}

-- a flag that is set exactly where a test passes
pub flag_right : (word : ℕ) (test : Bool) → (test ≡ true → word ≢ 0) → (word ≢ 0 → test ≡ true) → not (eqb word 0) ≡ test
flag_right word test told sound = by test refl
  where
    by : (x : Bool) → test ≡ x → not (eqb word 0) ≡ test
    by true a = ap not (ne_eqb word 0 (told a)) ∙ sym a
    by false a =
        elim (ℕ_discrete word 0) [
          | yes z ↦ ap not (eq-eqb word 0 z) ∙ sym a
          | no n ↦ absurd (false≢true (sym a ∙ sound n))
        ]

-- what a site lists are the points that verify says yes of
module _ (g : Network) (P xs : List ℕ) (k p : ℕ) where
  site_verified : (site : Site) → site_lists g P xs site k p ≡ true → verified_at g P xs p site k ≡ true
  unfolding is_received
  site_verified (One q) e = listed_verified g P q k p e
  site_verified Stops e = (and_parts (marked P p) _ e).1

  verified_site : (site : Site) → marked P p ≡ true → verified_at g P xs p site k ≡ true → site_lists g P xs site k p ≡ true
  unfolding is_received
  verified_site (One q) m e = verified_listed g P q k p m e
  verified_site Stops m e = and_intro (marked P p) _ m e

-- with the same nodes of the route both stay
module _ (g : Network) (P : List ℕ) (site : Site) (k : ℕ) (xs ys : List ℕ) (same : (v : ℕ) → v < node_count g → is_stop ys v ≡ is_stop xs v) where
  pub lists_same : site_lists g P ys site k ≡ site_lists g P xs site k
  lists_same = by site
    where
      by : (site : Site) → site_lists g P ys site k ≡ site_lists g P xs site k
      by (One q) = refl
      by Stops = ap (λ (S : List ℕ). is_received g P S k) (stops_same (node_count g) xs ys same)

  answer_same : (p : ℕ) → verified_at g P ys p site k ≡ verified_at g P xs p site k
  answer_same p = by site
    where
      by : (site : Site) → verified_at g P ys p site k ≡ verified_at g P xs p site k
      by (One q) = refl
      by Stops = ap (λ (S : List ℕ). verified_from g P p S k) (stops_same (node_count g) xs ys same)

-- a search from a site begins with no flag
pub no_flags : (g : Network) (L : ℕ → Bool) {xs : List ℕ} → Blank xs 0 → Flags g L xs
no_flags g L b =
    record {
      sound = λ p h n. absurd (n (b.zero (node_count g + p) (omega arith)));
      once = λ p h n a. absurd (n (b.zero p (omega arith)));
    }

-- only p's flags change
module _ (g : Network) (p : ℕ) (xs ws : List ℕ) (inside : p < node_count g) (other : (i : ℕ) → i ≢ p → i ≢ node_count g + p → get_or ws i 0 ≡ get_or xs i 0) where
  pub changed_grows : (get_or xs (node_count g + p) 0 ≢ 0 → get_or ws (node_count g + p) 0 ≢ 0) → Grows g xs ws
  changed_grows keeps x h n =
      elim (ℕ_discrete x p) [
        | yes e ↦ rw e (keeps (rw e at n))
        | no m ↦ rw (other (node_count g + x) (omega arith) (omega arith)) n
      ]

  pub changed_flags : {L : ℕ → Bool} → Flags g L xs → (get_or ws (node_count g + p) 0 ≢ 0 → L p ≡ true)
      → (L p ≡ true → get_or ws (node_count g + p) 0 ≢ 0) → Flags g L ws
  changed_flags f sound told =
      record {
        sound =
            λ x h n.
            elim (ℕ_discrete x p) [
              | yes e ↦ rw e (sound (rw e at n))
              | no m ↦ f.sound x h (rw (other (node_count g + x) (omega arith) (omega arith)) at n)
            ];
        once =
            λ x h n l.
            elim (ℕ_discrete x p) [
              | yes e ↦ rw e (told (rw e at l))
              | no m ↦ changed_grows (λ a. told (f.sound p inside a)) x h (f.once x h (rw (other x m (omega arith)) at n) l)
            ];
      }

module _ {g : Network} {P : List ℕ} {site : Site} {k p : ℕ} {xs : List ℕ} (c : CanVerifyOnce g P site k xs p) where
  abbrev L : ℕ → Bool
  L = site_lists g P xs site k

  -- it was verified before, or is on the route
  pub verified_seen : get_or xs p 0 ≢ 0 → VerifiedOnce g L xs xs p
  verified_seen s =
      record {
        flagged = record { size = refl; words = λ i h. refl; stops = λ v h. refl; flags = c.front.flags; grows = λ x h n. n };
        told = c.front.flags.once p c.inside s;
      }

  -- what `verify` requires, when p's flag is set
  blank_set : Blank (set xs p 1) (inner_base g)
  blank_set = record { zero = λ j h. get_or-set_other xs p j 1 0 (omega (arith, c.inside)) ∙ c.front.blank.zero j h }

  pub can_visit : CanVisit g P (set xs p 1) (inner_base g) p site
  can_visit =
      record {
        expand =
            record {
              accepted = c.front.accepted;
              inside = c.inside;
              blank = blank_set;
              size = simp length-set (omega (arith, c.front.size));
            };
        inside = c.front.inside;
        points = c.front.points;
      }

  room : p < length xs
  room = omega (arith, c.front.size, c.inside)

  module _ (new : get_or xs p 0 ≡ 0) where
    -- p's own flag is no node of the route, before and after
    stops_kept : (ws : List ℕ) → ((i : ℕ) → i ≢ p → i ≢ node_count g + p → get_or ws i 0 ≡ get_or xs i 0) → get_or ws p 0 ≡ 1
        → (v : ℕ) → v < node_count g → is_stop ws v ≡ is_stop xs v
    stops_kept ws other own v h =
        elim (ℕ_discrete v p) [
          | yes e ↦ rw (e, own, new)
          | no n ↦ stop_same xs ws v (other v n (omega arith))
        ]

    -- only p's flags change, and its found flag is right
    verified_new : {ws : List ℕ} → length ws ≡ length xs → ((i : ℕ) → i ≢ p → i ≢ node_count g + p → get_or ws i 0 ≡ get_or xs i 0) → get_or ws p 0 ≡ 1
        → (get_or ws (node_count g + p) 0 ≢ 0 → L p ≡ true) → (L p ≡ true → get_or ws (node_count g + p) 0 ≢ 0)
        → VerifiedOnce g L xs ws p
    verified_new {ws} size other own sound told =
        record {
          flagged =
              record {
                size = size;
                words = λ i h. other i (omega (arith, c.inside)) (omega (arith, c.inside));
                stops = stops_kept ws other own;
                flags = changed_flags g p xs ws c.inside other c.front.flags sound told;
                grows = changed_grows g p xs ws c.inside other (λ n. told (c.front.flags.sound p c.inside n));
              };
          told = told;
        }

    set_same : (v : ℕ) → v < node_count g → is_stop (set xs p 1) v ≡ is_stop xs v
    set_same = stops_kept (set xs p 1) (λ i n m. get_or-set_other xs p i 1 0 n) (get_or-set_same xs p 1 0 room)

    module _ {zs : List ℕ} {said : Bool} (v : VerifyLeft g P p site k (set xs p 1) zs (inner_base g) said) where
      answer : said ≡ verified_at g P xs p site k
      answer = v.answer ∙ answer_same g P site k xs (set xs p 1) set_same p

      pub left_size : length zs ≡ length xs
      left_size = v.area.frame.size ∙ length-set xs p 1

      word : (i : ℕ) → i ≢ p → get_or zs i 0 ≡ get_or xs i 0
      word i n =
          elim (dec_lt i (inner_base g)) [
            | yes h ↦ v.area.frame.words i h ∙ get_or-set_other xs p i 1 0 n
            | no h ↦ v.area.blank.zero i (omega arith) ∙ sym (c.front.blank.zero i (omega arith))
          ]

      own : get_or zs p 0 ≡ 1
      own = v.area.frame.words p (omega (arith, c.inside)) ∙ get_or-set_same xs p 1 0 room

      pub verified_yes : said ≡ true → VerifiedOnce g L xs (set zs (node_count g + p) 1) p
      verified_yes e =
          let fits : node_count g + p < length zs = omega (arith, left_size, c.front.size, c.inside) in
          let one = get_or-set_same zs (node_count g + p) 1 0 fits in
          verified_new (length-set zs (node_count g + p) 1 ∙ left_size)
          (λ i n m. get_or-set_other zs (node_count g + p) i 1 0 m ∙ word i n)
          (get_or-set_other zs (node_count g + p) p 1 0 (omega (arith, c.inside)) ∙ own)
          (λ n. verified_site g P xs k p site c.mark (sym answer ∙ e))
          (λ l z. omega arith)

      pub verified_no : said ≡ false → VerifiedOnce g L xs zs p
      verified_no e =
          verified_new left_size (λ i n m. word i n) own
          (λ n. c.front.flags.sound p c.inside (rw (word (node_count g + p) (omega (arith, c.inside))) at n))
          (λ l. absurd (false≢true (sym e ∙ answer ∙ site_verified g P xs k p site l)))

-- the found points before the i-th are verified
module _ {g : Network} {P : List ℕ} {site : Site} {k found : ℕ} {xs : List ℕ} (c : CanVerifyAll g P site k xs found) where
  module _ {ys : List ℕ} {i : ℕ} (v : VerifiedAll g (site_lists g P xs site k) xs ys i) (h : i < found) where
    pub id_same : get_or ys (ids_base g + i) 0 ≡ get_or xs (ids_base g + i) 0
    id_same = v.flagged.words (ids_base g + i) (omega arith)

    same : site_lists g P ys site k ≡ site_lists g P xs site k
    same = lists_same g P site k xs ys v.flagged.stops

    pub can_verify : CanVerifyOnce g P site k ys (get_or ys (ids_base g + i) 0)
    can_verify =
        record {
          front =
              record {
                accepted = c.front.accepted;
                points = c.front.points;
                inside = c.front.inside;
                flags = rw same v.flagged.flags;
                blank = record { zero = λ j l. v.flagged.words j (omega arith) ∙ c.front.blank.zero j l };
                size = omega (arith, c.front.size, v.flagged.size);
              };
          inside = rw id_same (c.inside i h);
          mark = rw id_same (c.mark i h);
        }

    pub all_more : {zs : List ℕ} → VerifiedOnce g (site_lists g P ys site k) ys zs (get_or ys (ids_base g + i) 0) → VerifiedAll g (site_lists g P xs site k) xs zs (i + 1)
    all_more {zs} once = by (rw same at once)
      where
        by : VerifiedOnce g (site_lists g P xs site k) ys zs (get_or ys (ids_base g + i) 0) → VerifiedAll g (site_lists g P xs site k) xs zs (i + 1)
        by r =
            record {
              flagged =
                  record {
                    size = r.flagged.size ∙ v.flagged.size;
                    words = λ j l. r.flagged.words j l ∙ v.flagged.words j l;
                    stops = λ x l. r.flagged.stops x l ∙ v.flagged.stops x l;
                    flags = r.flagged.flags;
                    grows = λ x l n. r.flagged.grows x l (v.flagged.grows x l n);
                  };
              told =
                  λ j l e.
                  elim (ℕ_discrete j i) [
                    | yes s ↦ rw (s, ← id_same) (r.told (rw id_same (rw s at e)))
                    | no n ↦ r.flagged.grows (get_or xs (ids_base g + j) 0) (c.inside j (omega arith)) (v.told j (omega arith) e)
                  ];
            }
