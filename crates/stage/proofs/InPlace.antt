-- The calls in place and those with trial planes that have room are one definition, and its test of the scratch gives the same in both.
use mathlib.Core.Path.{◌≡◌, refl, ap, sym, ◌∙◌}
use mathlib.Core.Bool.{Bool, true, false, cond, ◌&&◌}
use mathlib.Core.List.{List, [], ◌∷◌, ◌++◌}
use Prim.Native.Nat.{ℕ}
use lib.Dec.{T, eqb}
use lib.ListN.{length}
use Rattle.integers.proofs.Booleans.{holds_true}
use Rattle.stage.specs.Answers.{Test, ◌else◌, refusal, Outcome, outcome}
use Rattle.stage.specs.Settings.{Settings, One, pixels}
use Rattle.stage.specs.Planes.{Planes}
use Rattle.stage.specs.Transform.{choices_fit, lengths, is_picture}
use Rattle.stage.specs.Search.{Scratch, Lent, all_at_least, counters_fit, scratch_fits, scratch_tests, search_tests, estimated, winners, cleared_scratch, estimate_with, search_with, estimate_call, search_call, estimate_in_place, search_in_place}
use Rattle.stage.specs.Theorems.{EstimateSameInPlace, SearchSameInPlace}

-- an outcome with what f reads from its memory
abbrev read_by : {A M N : Type 0} → (M → N) → Outcome A M → Outcome A N
read_by f o = record { reply = o.reply; memory = f o.memory }

outcome_read : {A M N : Type 0} (f : M → N) (l : List Test) (v : A) (result before : M) → outcome l v (f result) (f before) ≡ read_by f (outcome l v result before)
outcome_read {A} {M} {N} f l v result before = ap (λ (m : N). record { reply = (outcome l v result before).reply; memory = m }) (by (eqb (refusal l) 0))
  where
    by : (b : Bool) → cond b (f result) (f before) ≡ f (cond b result before)
    by true = refl
    by false = refl

-- trial planes with room leave the counters to be tested
counters_decide : (s : Settings) (t : Planes) (n : ℕ) → T (all_at_least (pixels s) (lengths t)) → counters_fit s n ≡ scratch_fits s (lengths t) n
counters_decide s t n room = ap (λ (b : Bool). b && counters_fit s n) (sym (holds_true (all_at_least (pixels s) (lengths t)) room))

module _ (s : Settings) (p t : Planes) (l : List ℕ) where
  -- the scratch lent to the first calls, whether it fits, and what a call in place has of such scratch
  abbrev first : Scratch
  first = record { trials = t; counters = l }

  abbrev fits : Bool
  fits = scratch_fits s (lengths t) (length l)

  abbrev own : Scratch → Scratch
  own m = record { trials = p; counters = m.counters }

  abbrev own_lent : Lent → Lent
  own_lent m = record { choices = m.choices; scratch = own m.scratch }

pub estimate_same_in_place : EstimateSameInPlace
unfolding estimate_call estimate_in_place
estimate_same_in_place s φ p t l room =
    let m = first s p t l in
    let read = own s p t l in
    ap (λ (b : Bool). estimate_with s p b (read (cleared_scratch m)) φ (read m)) (counters_decide s t (length l) room)
    ∙ outcome_read read (scratch_tests s (choices_fit One s φ) (lengths p) (fits s p t l) ++ (is_picture s p else 11) ∷ []) (estimated s p φ) (cleared_scratch m) m

pub search_same_in_place : SearchSameInPlace
unfolding search_call search_in_place
search_same_in_place s rounds φ p t l room =
    let m : Lent = record { choices = φ; scratch = first s p t l } in
    let after : Lent = record { choices = winners s p rounds; scratch = cleared_scratch m.scratch } in
    let read = own_lent s p t l in
    ap (λ (b : Bool). search_with s p b (read after).scratch rounds (read m)) (counters_decide s t (length l) room)
    ∙ outcome_read read (search_tests s p (fits s p t l) rounds (length φ) ++ (is_picture s p else 11) ∷ []) (estimated s p (winners s p rounds)) after m
