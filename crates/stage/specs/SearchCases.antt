-- Cases of the estimate and the search. The numbers that 01 doesn't give come from a second implementation of 01.
use Rattle.std.specs.Prelude.{cond, ◌||◌, List, [], ◌∷◌, ℕ, eqb, pos, get_or, replicate}
use Rattle.stage.specs.Answers.{done, refused}
use Rattle.stage.specs.Settings.{Settings, each, settings_of}
use Rattle.stage.specs.Planes.{Planes, triple}
use Rattle.stage.specs.Search.{Scratch, Lent, searched, estimate_call, search_call, estimate_in_place, search_in_place}
use Rattle.stage.specs.Case.{Value, Case, ◌gives◌, Hold, counts, estimate, search, pixel}

-- scratch: trial planes of these lengths, and k counters, with y and z in them
abbrev scratch : ℕ → ℕ → ℕ → ℕ → ℕ → ℕ → Scratch
scratch n1 n2 n3 k y z =
    record { trials = triple (replicate n1 (pos y)) (replicate n2 (pos y)) (replicate n3 (pos y)); counters = replicate k z }

-- in place: planes p, and k counters with z in them
abbrev own : Planes → ℕ → ℕ → Scratch
own p k z = record { trials = p; counters = replicate k z }

abbrev lent : List ℕ → Scratch → Lent
lent φ m = record { choices = φ; scratch = m }

abbrev estimates : ℕ → ℕ → Scratch → Value
estimates e n m = estimate (record { reply = done (record { estimate = e; samples = n }); memory = m })

abbrev refuses_estimate : ℕ → Scratch → Value
refuses_estimate n m = estimate (record { reply = refused n; memory = m })

abbrev finds : List ℕ → ℕ → ℕ → Scratch → Value
finds φ e n m = search (record { reply = done (record { estimate = e; samples = n }); memory = lent φ m })

abbrev refuses_search : ℕ → Lent → Value
refuses_search n m = search (record { reply = refused n; memory = m })

-- 01's report: "2 1 .. 255 .. 10 10 60 10 10 60", transform t
abbrev reported : ℕ → Settings
reported t = settings_of 2 1 (each 8) t

abbrev picture : Planes
picture = triple (pos 10 ∷ pos 10 ∷ []) (pos 10 ∷ pos 10 ∷ []) (pos 60 ∷ pos 60 ∷ [])

-- estimates of choices at one place: filters 3 and 7 tie, lower than all others
abbrev tied : List ℕ → ℕ
tied φ = cond (eqb (get_or φ 0 0) 3 || eqb (get_or φ 0 0) 7) 5 9

-- 2 by 1 and 3 by 1, depth 2
abbrev two : Planes
two = triple (pos 0 ∷ pos 3 ∷ []) (pos 3 ∷ pos 1 ∷ []) (pos 1 ∷ pos 2 ∷ [])

abbrev three : Planes
three = triple (pos 1 ∷ pos 1 ∷ pos 1 ∷ []) (pos 1 ∷ pos 3 ∷ pos 1 ∷ []) (pos 3 ∷ pos 3 ∷ pos 3 ∷ [])

-- 2 by 3, depth 2: two columns of one colour each in plane 1
abbrev columns : Planes
columns =
    let black = replicate 6 (pos 0) in
    triple (pos 0 ∷ pos 1 ∷ pos 0 ∷ pos 1 ∷ pos 0 ∷ pos 1 ∷ []) black black

unfoldable pub estimate_cases : List Case
estimate_cases =
    -- "RCT 0,0,0,0 256 2"; "longer is fine" and "After success all lent scratch is zero"
    (estimate (estimate_call (reported 0) picture (0 ∷ 0 ∷ 0 ∷ 0 ∷ []) (scratch 2 3 4 1022 7 9))
    gives estimates 256 2 (scratch 2 3 4 1022 0 0))
    -- "YCoCg-R 0,0,0,0 384 2", with 1,785 counters
    ∷ (estimate (estimate_call (reported 1) picture (0 ∷ 0 ∷ 0 ∷ 0 ∷ []) (scratch 3 2 2 1785 7 9))
    gives estimates 384 2 (scratch 3 2 2 1785 0 0))
    -- "RDgDb 0,0 256 2"
    ∷ (estimate (estimate_call (reported 2) picture (0 ∷ 0 ∷ []) (scratch 2 2 2 1021 7 9))
    gives estimates 256 2 (scratch 2 2 2 1021 0 0))
    -- "LDgEb 0,0,0 256 2"
    ∷ (estimate (estimate_call (reported 3) picture (0 ∷ 0 ∷ 0 ∷ []) (scratch 2 2 2 1531 7 9))
    gives estimates 256 2 (scratch 2 2 2 1531 0 0))
    -- by rows of two the residuals are 0 1 0 0 0 0, so 6 × L(6) − 5 × L(5) = 990 − 740; by rows of three they would be 0 1 −1 1 −1 1
    ∷ (estimate (estimate_call (settings_of 2 3 (each 2) 2) columns (12 ∷ 12 ∷ []) (scratch 6 6 6 13 7 9))
    gives estimates 250 6 (scratch 6 6 6 13 0 0))
    ∷ []

unfoldable pub search_cases : List Case
search_cases =
    -- "RDgDb 0,0 256 2", of two rounds: "the present filter stays if it ties", and "the search ignores what the lent choices hold"
    (search (search_call (reported 2) picture 2 (lent (99 ∷ 5 ∷ []) (scratch 2 3 4 1022 7 9)))
    gives finds (0 ∷ 0 ∷ []) 256 2 (scratch 2 3 4 1022 0 0))
    -- filter 12 has the lowest estimate
    ∷ (search (search_call (settings_of 2 1 (each 2) 2) two 1 (lent (0 ∷ 0 ∷ []) (scratch 2 2 2 13 7 9)))
    gives finds (12 ∷ 0 ∷ []) 256 2 (scratch 2 2 2 13 0 0))
    -- filters 1, 2 and 12 tie at the second place: "else the lowest number wins"
    ∷ (search (search_call (settings_of 3 1 (each 2) 3) three 1 (lent (0 ∷ 0 ∷ 0 ∷ []) (scratch 3 3 3 19 7 9)))
    gives finds (0 ∷ 1 ∷ 0 ∷ []) 653 3 (scratch 3 3 3 19 0 0))
    -- the second round changes the first place; filter 0 would stay there if a null step negated its plane
    ∷ (search (search_call (settings_of 3 1 (each 2) 3) three 2 (lent (0 ∷ 0 ∷ 0 ∷ []) (scratch 3 3 3 19 7 9)))
    gives finds (12 ∷ 1 ∷ 0 ∷ []) 478 3 (scratch 3 3 3 19 0 0))
    ∷ []

-- The same in place: the planes are as lent, the filters, estimate and N those above.
unfoldable pub in_place_search_cases : List Case
in_place_search_cases =
    (search (search_in_place (reported 2) 2 (lent (99 ∷ 5 ∷ []) (own picture 1022 9))) gives finds (0 ∷ 0 ∷ []) 256 2 (own picture 1022 0))
    ∷ (search (search_in_place (settings_of 3 1 (each 2) 3) 2 (lent (7 ∷ 7 ∷ 7 ∷ []) (own three 19 9))) gives finds (12 ∷ 1 ∷ 0 ∷ []) 478 3 (own three 19 0))
    ∷ []

unfoldable pub tie_cases : List Case
tie_cases =
    -- the first of two ties wins, and the present filter stays in later rounds and where all tie
    (counts (searched tied 1 1) gives counts (3 ∷ []))
    ∷ (counts (searched tied 1 4) gives counts (3 ∷ []))
    ∷ (counts (searched (λ φ. 5) 2 1) gives counts (0 ∷ 0 ∷ []))
    ∷ []

-- one pixel at depth 2, and one that is no picture: RDgDb has two places and needs 13 counters
abbrev s : Settings
s = settings_of 1 1 (each 2) 2

abbrev black : Planes
black = pixel (pos 0) (pos 0) (pos 0)

abbrev bright : Planes
bright = pixel (pos 0) (pos 0) (pos 4)

abbrev long : Planes
long = triple (pos 0 ∷ []) (pos 0 ∷ []) (pos 0 ∷ pos 4 ∷ [])

abbrev ample : Scratch
ample = scratch 1 1 1 13 7 9

abbrev short : Scratch
short = scratch 1 1 0 12 7 9

-- "Tested in that order, where the call has them": 7, 8, 9, 11 of the estimate, 7 to 11 of the search
unfoldable pub scratch_cases : List Case
scratch_cases =
    (estimate (estimate_call s long (0 ∷ []) short) gives refuses_estimate 7 short)
    ∷ (estimate (estimate_call s long (13 ∷ 0 ∷ []) short) gives refuses_estimate 7 short)
    ∷ (estimate (estimate_call s long (0 ∷ 0 ∷ []) short) gives refuses_estimate 8 short)
    ∷ (estimate (estimate_call s bright (0 ∷ 0 ∷ []) short) gives refuses_estimate 9 short)
    ∷ (estimate (estimate_call s bright (0 ∷ 0 ∷ []) ample) gives refuses_estimate 11 ample)
    ∷ (estimate (estimate_call s black (0 ∷ 0 ∷ []) ample) gives estimates 0 1 (scratch 1 1 1 13 0 0))
    -- "9 scratch short (a trial plane below width × height numbers, or fewer counters than stated"
    ∷ (estimate (estimate_call s black (0 ∷ 0 ∷ []) (scratch 0 1 1 13 7 9)) gives refuses_estimate 9 (scratch 0 1 1 13 7 9))
    ∷ (estimate (estimate_call s black (0 ∷ 0 ∷ []) (scratch 1 0 1 13 7 9)) gives refuses_estimate 9 (scratch 1 0 1 13 7 9))
    ∷ (estimate (estimate_call s black (0 ∷ 0 ∷ []) (scratch 1 1 0 13 7 9)) gives refuses_estimate 9 (scratch 1 1 0 13 7 9))
    ∷ (estimate (estimate_call s black (0 ∷ 0 ∷ []) (scratch 1 1 1 12 7 9)) gives refuses_estimate 9 (scratch 1 1 1 12 7 9))
    -- the search: choices for three places, then for two with any values
    ∷ (search (search_call s long 5 (lent (0 ∷ 0 ∷ 0 ∷ []) short)) gives refuses_search 7 (lent (0 ∷ 0 ∷ 0 ∷ []) short))
    ∷ (search (search_call s long 5 (lent (13 ∷ 99 ∷ []) short)) gives refuses_search 8 (lent (13 ∷ 99 ∷ []) short))
    ∷ (search (search_call s bright 5 (lent (13 ∷ 99 ∷ []) short)) gives refuses_search 9 (lent (13 ∷ 99 ∷ []) short))
    -- "10 rounds outside 1 to 4"
    ∷ (search (search_call s bright 5 (lent (13 ∷ 99 ∷ []) ample)) gives refuses_search 10 (lent (13 ∷ 99 ∷ []) ample))
    ∷ (search (search_call s bright 0 (lent (13 ∷ 99 ∷ []) ample)) gives refuses_search 10 (lent (13 ∷ 99 ∷ []) ample))
    ∷ (search (search_call s bright 4 (lent (13 ∷ 99 ∷ []) ample)) gives refuses_search 11 (lent (13 ∷ 99 ∷ []) ample))
    ∷ []

-- In place: "9 then concerns the counters alone"; else the tests and their order are the same. The planes are as lent after every answer.
unfoldable pub in_place_cases : List Case
in_place_cases =
    (estimate (estimate_in_place (reported 1) (0 ∷ 0 ∷ 0 ∷ 0 ∷ []) (own picture 1787 9)) gives estimates 384 2 (own picture 1787 0))
    ∷ (estimate (estimate_in_place s (0 ∷ 0 ∷ []) (own black 13 9)) gives estimates 0 1 (own black 13 0))
    ∷ (estimate (estimate_in_place s (0 ∷ []) (own long 12 9)) gives refuses_estimate 7 (own long 12 9))
    ∷ (estimate (estimate_in_place s (0 ∷ 0 ∷ []) (own long 12 9)) gives refuses_estimate 8 (own long 12 9))
    ∷ (estimate (estimate_in_place s (0 ∷ 0 ∷ []) (own bright 12 9)) gives refuses_estimate 9 (own bright 12 9))
    ∷ (estimate (estimate_in_place s (0 ∷ 0 ∷ []) (own bright 13 9)) gives refuses_estimate 11 (own bright 13 9))
    ∷ (search (search_in_place s 5 (lent (0 ∷ []) (own long 12 9))) gives refuses_search 7 (lent (0 ∷ []) (own long 12 9)))
    ∷ (search (search_in_place s 5 (lent (13 ∷ 99 ∷ []) (own long 12 9))) gives refuses_search 8 (lent (13 ∷ 99 ∷ []) (own long 12 9)))
    ∷ (search (search_in_place s 5 (lent (13 ∷ 99 ∷ []) (own bright 12 9))) gives refuses_search 9 (lent (13 ∷ 99 ∷ []) (own bright 12 9)))
    ∷ (search (search_in_place s 5 (lent (13 ∷ 99 ∷ []) (own bright 13 9))) gives refuses_search 10 (lent (13 ∷ 99 ∷ []) (own bright 13 9)))
    ∷ (search (search_in_place s 4 (lent (13 ∷ 99 ∷ []) (own bright 13 9))) gives refuses_search 11 (lent (13 ∷ 99 ∷ []) (own bright 13 9)))
    ∷ []

abbrev pub EstimateCasesHold : Type 0
EstimateCasesHold = Hold estimate_cases × Hold scratch_cases × Hold in_place_cases

abbrev pub SearchCasesHold : Type 0
SearchCasesHold = Hold search_cases × Hold in_place_search_cases

abbrev pub TieCasesHold : Type 0
TieCasesHold = Hold tie_cases
