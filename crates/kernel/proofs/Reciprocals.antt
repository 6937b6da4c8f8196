-- Division by a product, and the table of centre weights.
use Rattle.std.proofs.Common.{◌≡◌, ℕ, zero, suc, ◌+◌, ◌-◌, ◌*◌, ◌/◌, ◌%◌, ◌^◌, ◌<◌, ◌≤◌, Bool, true, ◌&&◌, T, eqb, leb, get_or, sym, ap, ◌∙◌, not-suc-le-zero, mul-le-mul_right, mod-lt, mul-le-mul, mul-le-mul_left, div-add-mod', arith, eqb→eq, leb→le}
use native.Mathlib.Decide.{dec_lt}
use native.Mathlib.Nat.{div-div-eq-div-mul, div-eq_of_lt-le, lt_of_mul-lt-mul_left}
use Rattle.integers.proofs.Booleans.{and_iff}
use Rattle.stage.specs.Filter.{centre_weights}
use Rattle.kernel.specs.Centre.{ReciprocalDivision}

-- With m d = p + e and n = q d + r: n m = q p + (q e + m r), and d (q e + m r) = n e + r p < (r + 1) p ≤ d p. So n m / p = q.
module _ (d m p e n q r : ℕ) (product : m * d ≡ p + e) (division : n ≡ q * d + r) (small : r < d) (slight : n * e < p) where
  rest_below : q * e + m * r < p
  rest_below =
      let a = ap (λ (z : ℕ). z * e) division in
      let b = ap (λ (z : ℕ). z * r) product in
      let c = mul-le-mul_right p small in
      lt_of_mul-lt-mul_left d {m = q * e + m * r} {n = p} (omega arith)

  quotient : n * m / p ≡ q
  quotient =
      let a = ap (λ (z : ℕ). z * m) division in
      let b = ap (λ (z : ℕ). q * z) product in
      let c = rest_below in
      div-eq_of_lt-le p (omega arith) (omega arith)

-- n / d in fixed point with three fraction bits
pub fixed_quotient : {d m : ℕ} (n : ℕ) → ReciprocalDivision n d m → n * m / 2 ^ 32 / 8 ≡ n / d
fixed_quotient {d} {m} n h =
    let p = 2 ^ 35 in
    let e = m * d - p in
    let r = h.divisor in
    let slight : n * e < p = let b : e ≤ d = omega (arith, r.most) in let a = mul-le-mul_left n b in omega (arith, h.dividend) in
    div-div-eq-div-mul (n * m) (2 ^ 32) 8
    ∙ quotient d m p e n (n / d) (n % d) (omega (arith, r.least)) (sym (div-add-mod' n d)) (mod-lt n r.positive) slight

pub product_fits : {n m : ℕ} → n < 2 ^ 32 → m < 2 ^ 32 → n * m < 2 ^ 64
product_fits {n} {m} h k =
    let p : n * m ≤ 4294967295 * 4294967295 = mul-le-mul {n₂ = 4294967295} {m₂ = 4294967295} (omega arith) (omega arith) in
    omega arith

-- ---- the table of centre weights: the rules of an entry as a test
abbrev entry_test : ℕ → Bool
entry_test k =
    let w = get_or centre_weights k 0 in
    leb 1 w && (leb w 1024 && eqb (w * (8388608 / 2 ^ k)) 8388608)

-- a test at every number below n
abbrev test_below : (ℕ → Bool) → ℕ → Bool
test_below f zero = true
test_below f (suc n) = f n && test_below f n

test_below_lem : (f : ℕ → Bool) (n : ℕ) → T (test_below f n) → (k : ℕ) → k < n → T (f k)
test_below_lem f zero t k h = absurd (not-suc-le-zero h)
test_below_lem f (suc n) t k h = let both = (and_iff (f n) (test_below f n)).0 t in go (dec_lt k n) both.0 (test_below_lem f n both.1 k)
  where
    go : Dec (k < n) → T (f n) → (k < n → T (f k)) → T (f k)
    go (yes l) last rest = rest l
    go (no l) last rest = let e : k ≡ n = omega arith in rw e last

pub record SoundEntry (weight offset : ℕ) : Type 0 where
  pub least : 1 ≤ weight
  pub most : weight ≤ 1024
  pub product : weight * offset ≡ 8388608

pub entry_sound : (k : ℕ) → k < 11 → SoundEntry (get_or centre_weights k 0) (8388608 / 2 ^ k)
entry_sound k h =
    let w = get_or centre_weights k 0 in
    let t = test_below_lem entry_test 11 tt k h in
    let a = (and_iff (leb 1 w) _).0 t in
    let b = (and_iff (leb w 1024) _).0 a.1 in
    record {
      least = leb→le 1 w a.0;
      most = leb→le w 1024 b.0;
      product = eqb→eq (w * (8388608 / 2 ^ k)) 8388608 b.1;
    }
