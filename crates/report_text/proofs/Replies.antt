-- From what each search found to the lines, or the first refusal.
use mathlib.Core.Path.{◌≡◌, sym, ap, ◌∙◌}
use mathlib.Core.List.{List, ◌++◌}
use Prim.Native.Nat.{ℕ, ◌≤◌}
use lib.ListN.{replicate}
use Rattle.std.specs.Prelude.{Result, Ok, Err}
use Rattle.stage.specs.declared.Estimated.{Estimated}
use Rattle.stage.specs.declared.Header.{Header}
use Rattle.stage.specs.declared.Refusal.{Refusal}
use Rattle.stage.specs.Answers.{Reply, done, refused, Outcome, number_of, outcome_of}
use Rattle.stage.specs.Settings.{each, settings_of}
use Rattle.stage.specs.Planes.{Planes}
use Rattle.stage.specs.Steps.{steps, places}
use Rattle.stage.specs.Search.{Lent, search_call}
use Rattle.entropy.proofs.Answers.{calls_near}
use Rattle.report_text.specs.Text.{line, rct, ycocg_r, rdgdb, ldgeb}
use Rattle.report_text.specs.Report.{lent, search_of, line_by, line_of, both, lines}
use Rattle.report_text.specs.Found.{FoundBy}

module _ (h : Header) (p : Planes) (t : ℕ) where
  abbrev call : List ℕ → Outcome Estimated Lent
  call φ = search_call (settings_of h.width h.height (each h.depth) t) p 2 (lent φ)

  pub found_by : (a : Result Estimated Refusal) (φ : List ℕ) (m : Lent) → φ ≡ replicate (places (steps t)) 0 → outcome_of a m ≡ call φ → FoundBy (search_of h p t) m.choices a
  unfolding search_of
  found_by a φ m z q =
      let c : search_of h p t ≡ outcome_of a m = ap call (sym z) ∙ sym q in
      record { reply_is = ap (λ (o : Outcome Estimated Lent). o.reply) c; choices_are = ap (λ (o : Outcome Estimated Lent). o.memory.choices) (sym c) }

  -- a search that succeeded counted a sample
  pub found_some : {φ : List ℕ} (e : Estimated) → FoundBy (search_of h p t) φ (Ok e) → 1 ≤ e.samples
  unfolding search_of
  found_some e f =
      let s = settings_of h.width h.height (each h.depth) t in
      ((calls_near s e).search p 2 (lent (replicate (places (steps t)) 0)) f.reply_is).some

  -- its line, or its refusal
  line_done : (name φ : List ℕ) (e : Estimated) → FoundBy (search_of h p t) φ (Ok e) → line_of h p name t ≡ done (line name φ e)
  line_done name φ e f = ap (λ (x : List ℕ). line_by name x (search_of h p t).reply) (sym f.choices_are) ∙ ap (line_by name φ) f.reply_is

  line_refused : (name : List ℕ) {φ : List ℕ} (e : Refusal) → FoundBy (search_of h p t) φ (Err e) → line_of h p name t ≡ refused (number_of e)
  line_refused name e f = ap (line_by name (search_of h p t).memory.choices) f.reply_is

-- the first refusal stands
both_done : {x y : Reply (List ℕ)} {a b : List ℕ} → x ≡ done a → y ≡ done b → both x y ≡ done (a ++ b)
both_done {x} {y} {a} p q = ap (λ (z : Reply (List ℕ)). both z y) p ∙ ap (both (done a)) q

both_second : {x y : Reply (List ℕ)} {a : List ℕ} {n : ℕ} → x ≡ done a → y ≡ refused n → both x y ≡ refused n
both_second {x} {y} {a} p q = ap (λ (z : Reply (List ℕ)). both z y) p ∙ ap (both (done a)) q

both_first : {x : Reply (List ℕ)} (y : Reply (List ℕ)) {n : ℕ} → x ≡ refused n → both x y ≡ refused n
both_first {x} y p = ap (λ (z : Reply (List ℕ)). both z y) p

module _ (h : Header) (p : Planes) where
  pub first_refused : {φ : List ℕ} (e : Refusal) → FoundBy (search_of h p 0) φ (Err e) → lines h p ≡ refused (number_of e)
  unfolding lines
  first_refused e f = both_first _ (both_first _ (both_first _ (line_refused h p 0 rct e f)))

  module _ {φ0 : List ℕ} (e0 : Estimated) (f0 : FoundBy (search_of h p 0) φ0 (Ok e0)) where
    pub second_refused : {φ : List ℕ} (e : Refusal) → FoundBy (search_of h p 1) φ (Err e) → lines h p ≡ refused (number_of e)
    unfolding lines
    second_refused e f = both_first _ (both_first _ (both_second (line_done h p 0 rct φ0 e0 f0) (line_refused h p 1 ycocg_r e f)))

    module _ {φ1 : List ℕ} (e1 : Estimated) (f1 : FoundBy (search_of h p 1) φ1 (Ok e1)) where
      two : both (line_of h p rct 0) (line_of h p ycocg_r 1) ≡ done (line rct φ0 e0 ++ line ycocg_r φ1 e1)
      two = both_done (line_done h p 0 rct φ0 e0 f0) (line_done h p 1 ycocg_r φ1 e1 f1)

      pub third_refused : {φ : List ℕ} (e : Refusal) → FoundBy (search_of h p 2) φ (Err e) → lines h p ≡ refused (number_of e)
      unfolding lines
      third_refused e f = both_first _ (both_second two (line_refused h p 2 rdgdb e f))

      module _ {φ2 : List ℕ} (e2 : Estimated) (f2 : FoundBy (search_of h p 2) φ2 (Ok e2)) where
        pub fourth_refused : {φ : List ℕ} (e : Refusal) → FoundBy (search_of h p 3) φ (Err e) → lines h p ≡ refused (number_of e)
        unfolding lines
        fourth_refused e f = both_second (both_done two (line_done h p 2 rdgdb φ2 e2 f2)) (line_refused h p 3 ldgeb e f)

        pub lines_done : {φ3 : List ℕ} (e3 : Estimated) → FoundBy (search_of h p 3) φ3 (Ok e3)
            → lines h p ≡ done (line rct φ0 e0 ++ line ycocg_r φ1 e1 ++ line rdgdb φ2 e2 ++ line ldgeb φ3 e3)
        unfolding lines
        lines_done {φ3} e3 f3 = both_done (both_done two (line_done h p 2 rdgdb φ2 e2 f2)) (line_done h p 3 ldgeb φ3 e3 f3)
