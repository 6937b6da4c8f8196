-- The winner at a place is the one that 01 names, and the choices that a search leaves pass the test of choices.
use mathlib.Core.Path.{◌≡◌, refl, subst, sym}
use mathlib.Core.Bool.{Bool, true, false, cond}
use mathlib.Core.List.{List}
use mathlib.Core.Logic.{inl, inr, ⊎_elim}
use Prim.Native.Nat.{ℕ, zero, suc, ◌≤◌, ◌<◌}
use native.Mathlib.Nat.{eq-or-lt_of_le}
use native.Mathlib.Omega.{arith}
use lib.Dec.{T, ltb, ltb→lt, nltb→le}
use lib.ListN.{get_or, set, replicate}
use Rattle.integers.proofs.Booleans.{true_holds, false_fails}
use Rattle.stage.specs.Settings.{Settings, One}
use Rattle.stage.specs.Steps.{steps, places}
use Rattle.stage.specs.Transform.{choices_fit}
use Rattle.stage.specs.Search.{winner, round, rounds, searched}
use Rattle.stage.specs.Theorems.{Wins, WinnerWins, SearchedFit}
use Rattle.stage.proofs.Choices.{choices, choices_set, choices_equal}

module _ (e : List ℕ → ℕ) (φ : List ℕ) (k : ℕ) where
  -- the estimate with filter f at the place
  abbrev trial : ℕ → ℕ
  trial f = e (set φ k f)

  -- what is known of f once filters 0 to n − 1 are tried
  abbrev Leads : ℕ → ℕ → Type 0
  Leads n f = Wins e φ k n f

  -- filter n is tried next: it takes the lead only with a lower estimate
  next_wins : (n f : ℕ) → Leads n f → trial n < trial f → Leads (suc n) n
  next_wins n f l b = record {
    tried = inl (omega arith);
    lowest = λ g h. ⊎_elim (λ (q : g ≡ n). subst (λ (x : ℕ). trial n ≤ trial x) (sym q) (omega arith)) (λ (q : g < n). omega (arith, l.lowest g q)) (eq-or-lt_of_le {n = g} {m = n} (omega arith));
    present = omega (arith, l.present);
    stays = λ q. absurd (omega (arith, l.present));
    first = λ q g h. omega (arith, l.lowest g h);
  }

  next_loses : (n f : ℕ) → Leads n f → trial f ≤ trial n → Leads (suc n) f
  next_loses n f l b = record {
    tried = ⊎_elim (λ (q : f < n). inl (omega arith)) inr l.tried;
    lowest = λ g h. ⊎_elim (λ (q : g ≡ n). subst (λ (x : ℕ). trial f ≤ trial x) (sym q) b) (λ (q : g < n). l.lowest g q) (eq-or-lt_of_le {n = g} {m = n} (omega arith));
    present = l.present;
    stays = l.stays;
    first = l.first;
  }

  next : (n f : ℕ) → Leads n f → (b : Bool) → ltb (trial n) (trial f) ≡ b → Leads (suc n) (cond b n f)
  next n f l true q = next_wins n f l (ltb→lt _ _ (true_holds q))
  next n f l false q = next_loses n f l (nltb→le _ _ (false_fails q))

  pub winner_leads : (n : ℕ) → Leads n (winner e φ k n)
  unfolding winner
  winner_leads zero = record { tried = inr refl; lowest = λ g h. absurd (omega arith); present = omega arith; stays = λ q. refl; first = λ q. absurd (omega arith) }
  winner_leads (suc n) = next n (winner e φ k n) (winner_leads n) (ltb (trial n) (trial (winner e φ k n))) refl

pub winner_wins : WinnerWins
winner_wins e φ k n = winner_leads e φ k n

-- ---- the choices that a search leaves
module _ (s : Settings) (e : List ℕ → ℕ) where
  winner_most : (φ : List ℕ) (k : ℕ) → T (choices_fit One s φ) → winner e φ k 13 ≤ 12
  winner_most φ k h =
      ⊎_elim (λ (q : winner e φ k 13 < 13). omega arith) (λ (q : winner e φ k 13 ≡ get_or φ k 0). omega (arith, (choices One s φ h).filters k))
      (winner_wins e φ k 13).tried

  round_fit : (n : ℕ) (φ : List ℕ) → T (choices_fit One s φ) → T (choices_fit One s (round e n φ))
  unfolding round
  round_fit zero φ h = h
  round_fit (suc n) φ h =
      let g = round_fit n φ h in
      choices_set One s (round e n φ) g n (winner e (round e n φ) n 13) (winner_most (round e n φ) n g)

  rounds_fit : (n k : ℕ) (φ : List ℕ) → T (choices_fit One s φ) → T (choices_fit One s (rounds e n k φ))
  unfolding rounds
  rounds_fit n zero φ h = h
  rounds_fit n (suc k) φ h = round_fit n (rounds e n k φ) (rounds_fit n k φ h)

pub searched_fit : SearchedFit
unfolding searched
searched_fit s e k =
    let n = places (steps s.transform) in
    rounds_fit s e n k (replicate n 0) (choices_equal One s n 0 tt refl)
