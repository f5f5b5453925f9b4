-- The numbers below n that pass a test: whether there is one, how many there are, what they weigh, and the list of them; and what a function gives
-- for each number below n. Each grows at its end, as a loop that counts up does.
-- Assumes nothing.
use Rattle.std.specs.Prelude.{ℕ, zero, suc, ◌+◌, Bool, true, false, ◌||◌, List, [], ◌∷◌, ◌++◌}

unfoldable pub any : (ℕ → Bool) → ℕ → Bool
any t zero = false
any t (suc n) = any t n || t n

abbrev pub bit : Bool → ℕ
bit true = 1
bit false = 0

unfoldable pub count : (ℕ → Bool) → ℕ → ℕ
count t zero = 0
count t (suc n) = count t n + bit (t n)

-- the sum of weights; of those that pass a test
unfoldable pub total : (ℕ → ℕ) → ℕ → ℕ
total w zero = 0
total w (suc n) = total w n + w n

abbrev pub weighed : Bool → ℕ → ℕ
weighed true w = w
weighed false w = 0

abbrev pub sum_over : (ℕ → Bool) → (ℕ → ℕ) → ℕ → ℕ
sum_over t w n = total (λ x. weighed (t x) (w x)) n

abbrev pub if_any : Bool → ℕ → List ℕ
if_any true x = x ∷ []
if_any false x = []

unfoldable pub select : (ℕ → Bool) → ℕ → List ℕ
select t zero = []
select t (suc n) = select t n ++ if_any (t n) n

unfoldable pub tabulate : (ℕ → ℕ) → ℕ → List ℕ
tabulate f zero = []
tabulate f (suc n) = tabulate f n ++ f n ∷ []
