-- The filter search, and the calls `estimate` and `search`, with trial planes and in place: answer, and what choices and scratch hold
-- (01, "Estimate and search"; 02, request 5). φ are the choices, k is a place's number, n a number of filters, of places or of choices,
-- and m the memory lent.
use Rattle.std.specs.Prelude.{Bool, cond, ◌&&◌, List, [], ◌∷◌, ◌++◌, ℕ, zero, suc, ◌+◌, ◌*◌, ltb, leb, pos, length, get_or, set, replicate}
use Rattle.stage.specs.Answers.{Test, ◌else◌, Outcome, outcome, between}
use Rattle.stage.specs.Settings.{Settings, Depths, Plain, One, settings_of, depths_allowed, pixels}
use Rattle.stage.specs.Planes.{Triple, Planes, map_triple}
use Rattle.stage.specs.Steps.{steps, places}
use Rattle.stage.specs.Ranges.{widest}
use Rattle.stage.specs.Transform.{settings_tests, count_fits, choices_fit, lengths, is_picture, transformed}
use Rattle.stage.specs.Estimate.{counted, picture_estimate}
-- what both calls answer: the estimate, and N
pub use Rattle.stage.specs.declared.Estimated.{Estimated}

-- The search, for any estimate e of the choices.
module _ (e : List ℕ → ℕ) where
  -- The winner at place k of filters 0 to n − 1, tried with the others held: the lowest estimate wins; the present filter stays
  -- if it ties, else the lowest number wins.
  unfoldable pub winner : (φ : List ℕ) (k n : ℕ) → ℕ
  winner φ k zero = get_or φ k 0
  winner φ k (suc n) = cond (ltb (e (set φ k n)) (e (set φ k (winner φ k n)))) n (winner φ k n)

  -- A round goes through the places in order: here the first n of them.
  unfoldable pub round : ℕ → List ℕ → List ℕ
  round zero φ = φ
  round (suc n) φ = set (round n φ) n (winner (round n φ) n 13)

  -- so many rounds over n places, and the search: it starts with filter 0 at every place
  unfoldable pub rounds : (n count : ℕ) (φ : List ℕ) → List ℕ
  rounds n zero φ = φ
  rounds n (suc count) φ = round n (rounds n count φ)

  unfoldable pub searched : (n count : ℕ) → List ℕ
  searched n count = rounds n count (replicate n 0)

-- The estimate of picture p under choices φ. "Searches, estimates .. keep to the unwrapped forms" (02, request 9).
unfoldable pub choices_estimate : Settings → Planes → List ℕ → ℕ
choices_estimate s p φ = picture_estimate s.width (transformed Plain One s φ p)

-- 2 × D + 1 counters
abbrev pub counters_needed : Settings → ℕ
counters_needed s = 2 * widest s + 1

-- The call `counters` tells a caller this number, and 0 where a depth or the transform would be refused. A picture's size makes no difference.
abbrev pub counters_call : Depths → ℕ → ℕ
counters_call d t = cond (depths_allowed d && leb t 3) (counters_needed (settings_of 1 1 d t)) 0

-- Scratch: three trial planes, and the counters. In place the trials are made on the picture's own planes, and these are the three.
pub record Scratch : Type 0 where
  pub trials : Planes
  pub counters : List ℕ

-- what the search is lent to write: the choices, whose values on entry it ignores, and the scratch
pub record Lent : Type 0 where
  pub choices : List ℕ
  pub scratch : Scratch

-- 9: "fewer counters than stated"; longer is fine. In place "9 then concerns the counters alone".
abbrev pub counters_fit : (s : Settings) (counters : ℕ) → Bool
counters_fit s counters = leb (counters_needed s) counters

-- or "a trial plane below width × height numbers"
abbrev pub all_at_least : ℕ → Triple ℕ → Bool
all_at_least n l = leb n l.c1 && (leb n l.c2 && leb n l.c3)

abbrev pub scratch_fits : (s : Settings) (trials : Triple ℕ) (counters : ℕ) → Bool
scratch_fits s trials counters = all_at_least (pixels s) trials && counters_fit s counters

-- After success all lent scratch is zero, also what exceeds the need. In place the picture's planes are "as lent".
abbrev pub cleared : {A : Type 0} → A → List A → List A
cleared z l = replicate (length l) z

abbrev pub cleared_scratch : Scratch → Scratch
cleared_scratch m = record { trials = map_triple (cleared (pos 0)) m.trials; counters = cleared 0 m.counters }

abbrev pub cleared_counters : Scratch → Scratch
cleared_counters m = record { trials = m.trials; counters = cleared 0 m.counters }

-- The tests of all four calls, up to 9: `fits` says whether the scratch does; l has the lengths of the picture's planes.
abbrev pub scratch_tests : (s : Settings) (choices : Bool) (l : Triple ℕ) (fits : Bool) → List Test
scratch_tests s choices l fits = settings_tests Plain One s choices l ++ (fits else 9) ∷ []

module _ (s : Settings) (p : Planes) where
  abbrev pub estimated : List ℕ → Estimated
  estimated φ = record { estimate = choices_estimate s p φ; samples = counted (pixels s) }

  abbrev pub winners : ℕ → List ℕ
  winners rounds = searched (choices_estimate s p) (places (steps s.transform)) rounds

  -- Of picture p, with scratch that success leaves as `after`. The choices given to the estimate stay as they are.
  module _ (fits : Bool) where
    abbrev pub estimate_with : (after : Scratch) → List ℕ → Scratch → Outcome Estimated Scratch
    estimate_with after φ m =
        outcome (scratch_tests s (choices_fit One s φ) (lengths p) fits ++ (is_picture s p else 11) ∷ []) (estimated φ) after m

    -- the tests of a search that is lent n choices, up to 10
    abbrev pub search_tests : (rounds n : ℕ) → List Test
    search_tests rounds n = scratch_tests s (count_fits One s n) (lengths p) fits ++ (between 1 4 rounds else 10) ∷ []

    abbrev pub search_with : (after : Scratch) → ℕ → Lent → Outcome Estimated Lent
    search_with after rounds m =
        outcome
        (search_tests rounds (length m.choices) ++ (is_picture s p else 11) ∷ [])
        (estimated (winners rounds))
        (record { choices = winners rounds; scratch = after })
        m

  -- 01's calls, with trial planes. The picture's planes stay as they are.
  unfoldable pub estimate_call : List ℕ → Scratch → Outcome Estimated Scratch
  estimate_call φ m = estimate_with (scratch_fits s (lengths m.trials) (length m.counters)) (cleared_scratch m) φ m

  unfoldable pub search_call : ℕ → Lent → Outcome Estimated Lent
  search_call rounds m =
      let scratch = m.scratch in
      search_with (scratch_fits s (lengths scratch.trials) (length scratch.counters)) (cleared_scratch scratch) rounds m

-- "a search and an estimate that are lent only counters. They may change the picture's planes while running but return them as lent."
unfoldable pub estimate_in_place : Settings → List ℕ → Scratch → Outcome Estimated Scratch
estimate_in_place s φ m = estimate_with s m.trials (counters_fit s (length m.counters)) (cleared_counters m) φ m

unfoldable pub search_in_place : Settings → ℕ → Lent → Outcome Estimated Lent
search_in_place s rounds m =
    let scratch = m.scratch in
    search_with s scratch.trials (counters_fit s (length scratch.counters)) (cleared_counters scratch) rounds m
