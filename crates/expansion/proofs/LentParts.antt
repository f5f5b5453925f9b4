-- A list whose part from index a on is lent, as `&mut s[a..]`, and comes back as another list of the same length: what the whole then is.
-- Assumes nothing.
use mathlib.Core.Path.{◌≡◌, sym, ap, ◌∙◌}
use mathlib.Core.List.{List, [], ◌++◌, append-nil}
use Prim.Native.Nat.{ℕ, ◌-◌, ◌≤◌, ◌<◌}
use native.Mathlib.Omega.{arith}
use lib.ListN.{length, get_or, take, drop, length-drop, get_or-append}
use lib.Seq.{take_all, drop_at, drop-length, get_or-take, length-take-le}
use borrow.Rule.Slice.PartMut.{mid_of, put_mid, post_of, same_len_mid}

-- the part
pub lent_part : (a : ℕ) (xs : List ℕ) → mid_of a (length xs - a) xs ≡ drop a xs
lent_part a xs = take_all (length xs - a) (drop a xs) (omega (arith, length-drop a xs))

pub lent_length : (a : ℕ) (xs : List ℕ) → length (mid_of a (length xs - a) xs) ≡ length xs - a
lent_length a xs = ap length (lent_part a xs) ∙ length-drop a xs

-- ys is xs with its part from a on made zs
pub record Rejoined (xs ys : List ℕ) (a : ℕ) (zs : List ℕ) : Type 0 where
  pub size : length ys ≡ length xs
  pub before : (i : ℕ) → i < a → get_or ys i 0 ≡ get_or xs i 0
  pub part : drop a ys ≡ zs

pub rejoined : (a : ℕ) (xs zs : List ℕ) → a ≤ length xs → length zs ≡ length (mid_of a (length xs - a) xs) → Rejoined xs (put_mid a (length xs - a) xs zs) a zs
rejoined a xs zs fits same =
    let l : length (take a xs) ≡ a = length-take-le a xs fits in
    let none : post_of a (length xs - a) xs ≡ [] = ap (λ (n : ℕ). drop n (drop a xs)) (sym (length-drop a xs)) ∙ drop-length (drop a xs) in
    record {
      size = same_len_mid a (length xs - a) xs zs same;
      before = λ i h. get_or-append (take a xs) (zs ++ post_of a (length xs - a) xs) 0 i (omega arith) ∙ get_or-take a xs i 0 h;
      part = drop_at (take a xs) (zs ++ post_of a (length xs - a) xs) a l ∙ ap (λ (t : List ℕ). zs ++ t) none ∙ append-nil zs;
    }
