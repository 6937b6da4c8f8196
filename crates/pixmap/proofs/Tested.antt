-- What a test that the code makes answers, and the tests that it stands among.
use mathlib.Core.Path.{◌≡◌, refl, sym, ap, ◌∙◌}
use mathlib.Core.Bool.{Bool, true, false, cond}
use mathlib.Core.List.{List, ◌∷◌, ◌++◌}
use Rattle.std.specs.Prelude.{Result, Ok, Err}
use Rattle.stage.specs.declared.Refusal.{Refusal}
use Rattle.stage.specs.Answers.{Test, ◌else◌, refusal, number_of, number, reply_of}
use Rattle.stage.proofs.Answers.{Holds, refusal_past}

abbrev pub Answered : Type 0
Answered = Result (Unit {0}) Refusal

abbrev pub tested : Bool → Refusal → Answered
tested b e = cond b (Ok (tt {0})) (Err e)

pub test_number : (b : Bool) {r : Answered} (d : Refusal) → r ≡ tested b d → number (reply_of r) ≡ cond b 0 (number_of d)
test_number true d e = rw e
test_number false d e = rw e

pub held_by : (b : Bool) (d : Refusal) → Ok (tt {0}) ≡ tested b d → b ≡ true
held_by true d e = refl
held_by false d e = cc

pub failed_by : (b : Bool) (d : Refusal) {e : Refusal} → Err e ≡ tested b d → (e ≡ d) × (b ≡ false)
failed_by true d h = cc
failed_by false d h = (cc, refl)

-- past tests that hold, a test that fails gives the refusal
pub past_failed : (l m : List Test) → Holds l → (b : Bool) (d e : Refusal) → Err e ≡ tested b d → number_of e ≡ refusal (l ++ (b else number_of d) ∷ m)
past_failed l m k b d e h =
    let f = failed_by b d h in
    ap number_of f.0 ∙ sym (refusal_past l ((b else number_of d) ∷ m) k ∙ ap (λ t. cond t (refusal m) (number_of d)) f.1)
