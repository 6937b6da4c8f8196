-- The power-of-two rule over a whole list: one test that is computed, and one law that carries it to each entry.
use mathlib.Core.Path.{◌≡◌, refl}
use mathlib.Core.Bool.{Bool, true, ◌&&◌}
use mathlib.Core.List.{List, [], ◌∷◌}
use Prim.Native.Nat.{ℕ, zero, suc, ◌+◌, ◌-◌, ◌^◌, ◌<◌}
use native.Mathlib.Omega.{arith}
use lib.Dec.{T, leb, ltb, leb→le, ltb→lt}
use lib.ListN.{length, get_or}
use mir.Facts.{and_yes}
use Rattle.stage.specs.Logarithm.{L, Logarithms}
use Rattle.stage.proofs.Logarithm.{log_is}
use Rattle.logs.specs.Lookup.{TableOfLogarithms}

-- x has the bounds of L n
abbrev bounded : ℕ → ℕ → Bool
bounded n x = leb (2 ^ x) (n ^ 64) && ltb (n ^ 64) (2 ^ suc x)

-- the entries have the bounds of L n, L (n + 1) and so on
abbrev pub ruled : ℕ → List ℕ → Bool
ruled n [] = true
ruled n (x ∷ t) = bounded n x && ruled (suc n) t

is_log : (n x : ℕ) → T (bounded n x) → x ≡ L n
is_log n x b =
    let p = and_yes (leb (2 ^ x) (n ^ 64)) (ltb (n ^ 64) (2 ^ suc x)) b in
    log_is n x (leb→le (2 ^ x) (n ^ 64) p.0) (ltb→lt (n ^ 64) (2 ^ suc x) p.1)

-- the entry at index k is L m, where m is n + k
carried : (t : List ℕ) (n k m : ℕ) → T (ruled n t) → m ≡ n + k → k < length t → get_or t k 0 ≡ L m
carried [] n k m r e h = absurd (omega arith)
carried (x ∷ t) n zero m r e h = let s : n ≡ m = omega arith in cc (is_log n x (and_yes (bounded n x) (ruled (suc n) t) r).0)
carried (x ∷ t) n (suc k) m r e h = carried t (suc n) k m (and_yes (bounded n x) (ruled (suc n) t) r).1 (omega arith) (omega arith)

-- a list of 4,096 entries that passes the test is 01's table
pub logarithms : (t : List ℕ) → T (ruled 1 t) → length t ≡ 4096 → Logarithms t
logarithms t r e = record { each = λ n low high. carried t 1 (n - 1) n r (omega arith) (omega arith) }

-- every entry passes the test of the power-of-two rule
pub table_is : TableOfLogarithms
table_is = logarithms _ tt refl
