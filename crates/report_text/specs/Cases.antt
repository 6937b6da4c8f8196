-- Texts of 01 and of 02's request 8, and what the definitions give.
use Rattle.std.specs.Prelude.{◌≡◌, List, [], ◌∷◌, ℕ}
use Rattle.report_text.specs.Text.{line, rct, rdgdb, refusal_line}
use Rattle.report_text.specs.Report.{report_of}

abbrev given : List (List ℕ)
given =
    line rct (0 ∷ 12 ∷ 0 ∷ 0 ∷ []) (record { estimate = 256; samples = 2 })
    ∷ line rdgdb (0 ∷ 0 ∷ []) (record { estimate = 209; samples = 4 })
    ∷ refusal_line 11
    ∷ report_of []
    ∷ []

abbrev wanted : List (List ℕ)
wanted =
    -- RCT 0,12,0,0 256 2 128 0
    (82 ∷ 67 ∷ 84 ∷ 32 ∷ 48 ∷ 44 ∷ 49 ∷ 50 ∷ 44 ∷ 48 ∷ 44 ∷ 48 ∷ 32 ∷ 50 ∷ 53 ∷ 54 ∷ 32 ∷ 50 ∷ 32 ∷ 49 ∷ 50 ∷ 56 ∷ 32 ∷ 48 ∷ 10 ∷ [])
    -- RDgDb 0,0 209 4 52 1: "Estimate 209 with N 4 gives 52 and 1"
    ∷ (82 ∷ 68 ∷ 103 ∷ 68 ∷ 98 ∷ 32 ∷ 48 ∷ 44 ∷ 48 ∷ 32 ∷ 50 ∷ 48 ∷ 57 ∷ 32 ∷ 52 ∷ 32 ∷ 53 ∷ 50 ∷ 32 ∷ 49 ∷ 10 ∷ [])
    -- refused 11
    ∷ (114 ∷ 101 ∷ 102 ∷ 117 ∷ 115 ∷ 101 ∷ 100 ∷ 32 ∷ 49 ∷ 49 ∷ 10 ∷ [])
    -- refused 1
    ∷ (114 ∷ 101 ∷ 102 ∷ 117 ∷ 115 ∷ 101 ∷ 100 ∷ 32 ∷ 49 ∷ 10 ∷ [])
    ∷ []

abbrev pub TextsAgree : Type 0
TextsAgree = given ≡ wanted
