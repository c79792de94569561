-- Sums and counts over the numbers below a bound.
use Rattle.std.specs.Prelude.{ℕ, zero, suc, ◌+◌, Bool, cond}

-- f 0 + .. + f (n - 1)
unfoldable pub total : (ℕ → ℕ) → ℕ → ℕ
total f zero = 0
total f (suc n) = total f n + f n

-- the sum of f k over those k below n that pass the test
abbrev pub sum_if : (ℕ → Bool) → (ℕ → ℕ) → ℕ → ℕ
sum_if test f n = total (λ k. cond (test k) (f k) 0) n

-- how many k below n pass the test
abbrev pub count : (ℕ → Bool) → ℕ → ℕ
count test n = sum_if test (λ _. 1) n
